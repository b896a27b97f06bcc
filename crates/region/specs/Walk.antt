-- A walk of one region, for any list of bytes: what stands at a place, the records in order and how and where they stop, and what decides a search.
use Rattle.std.specs.Prelude.{ℕ, zero, suc, ◌+◌, ◌-◌, ◌*◌, ◌/◌, ◌%◌, Bool, not, ◌&&◌, ◌||◌, cond, Result, Ok, Err, List, [], ◌∷◌, ltb, eqb, length, get_or, take, drop}
use Rattle.format.specs.Layout.{edition, header_length, least_length, record_length, big_endian_at, live}
use Rattle.format.specs.declared.Record.{Record}
use Rattle.format.specs.declared.Fault.TheVariants.{UnsupportedVersion, CorruptData}
use Rattle.region.specs.declared.Stop.{Stop}
use Rattle.region.specs.declared.Stop.TheVariants.{End, Bad}
use Rattle.region.specs.declared.Want.{Want}
use Rattle.region.specs.declared.Event.{Event}

-- R3.1: the low four bits of byte 1 are the high four bits of the length, byte 2 is its low eight bits
abbrev pub length_at : List ℕ → ℕ → ℕ
length_at region o = get_or region (o + 1) 0 % 16 * 256 + get_or region (o + 2) 0 % 256

-- R3.1: the top four bits of byte 1 are the flags
abbrev pub flags_at : List ℕ → ℕ → ℕ
flags_at region o = get_or region (o + 1) 0 / 16

-- R3.1: bytes 3 to 10 are the key, its highest byte first
abbrev pub key_at : List ℕ → ℕ → ℕ
key_at region o = big_endian_at 8 region (o + 3)

-- R3.1: the record that the bytes at o say: its length, version, flags and key
abbrev pub record_at : List ℕ → ℕ → Record
record_at region o = record { at = o; len = length_at region o; version = get_or region o 0; flags = flags_at region o; key = key_at region o }

-- R4.1: the first of these that applies at a place, where so many bytes are left and they say the record x.
-- R4.2: fewer than 15 bytes are left: the walk ends.
-- R4.3: the first byte is 255: the walk ends. This is the free place.
-- R4.4: the first byte is not 1: the place is bad, UnsupportedVersion.
-- R4.5: the length is below 15, or more than the bytes that are left: the place is bad, CorruptData.
-- R4.6: otherwise a record stands there.
unfoldable pub met_of : ℕ → Record → Result Record Stop
met_of left x =
    cond (ltb left (least_length edition)) (Err (End x.at))
    (cond (eqb x.version 255) (Err (End x.at))
    (cond (not (eqb x.version edition)) (Err (Bad UnsupportedVersion x.at))
    (cond (ltb x.len (least_length x.version) || ltb left x.len) (Err (Bad CorruptData x.at))
    (Ok x))))

-- R4.1: what a walk meets at a place o.
abbrev pub met_at : List ℕ → ℕ → Result Record Stop
met_at region o = met_of (length region - o) (record_at region o)

-- R4.7: a region's view: the records that a walk met, in their order, and how and where it stopped.
pub record View : Type 0 where
  pub recs : List Record
  pub stop : Stop

-- R4.7: the view of a walk that stopped and met no record.
abbrev pub stopped : Stop → View
stopped s = record { recs = []; stop = s }

-- R4.7: the view of a walk that met a record, and then the rest.
abbrev pub passed : Record → View → View
passed x v = record { recs = x ∷ v.recs; stop = v.stop }

-- R4.6: the walk goes on at o plus the record's length. The walk from o on, in so many steps at most.
unfoldable pub walk_in : ℕ → List ℕ → ℕ → View
walk_in zero region o = stopped (End o)
walk_in (suc n) region o = elim (met_at region o) [ Ok x ↦ passed x (walk_in n region (o + x.len)) | Err s ↦ stopped s ]

-- R4.6: every walk ends: each record has 15 bytes or more, so the bytes left are steps enough. The walk from o on.
unfoldable pub walk_from : List ℕ → ℕ → View
walk_from region o = walk_in (length region - o) region o

-- R4.1, R4.7: a walk starts at place 0 of a region: the records that it met.
abbrev pub records : List ℕ → List Record
records region = (walk_from region 0).recs

-- R4.1, R4.7: a walk starts at place 0 of a region: how and where it stopped.
abbrev pub ending : List ℕ → Stop
ending region = (walk_from region 0).stop

-- R3.2: the bytes of a record: its length counts the whole of it
abbrev pub bytes_in : List ℕ → Record → List ℕ
bytes_in region x = take x.len (drop x.at region)

-- R4.7: the value of a record has its length less 15 bytes.
abbrev pub value_length : Record → ℕ
value_length x = x.len - least_length x.version

-- R4.7: the value of a record is its bytes from 11 up to the last four
abbrev pub value_in : List ℕ → Record → List ℕ
value_in region x = take (value_length x) (drop (header_length x.version) (bytes_in region x))

-- R3.4: the record of a key and a value as it is written, at o, with flags 8: it is live
abbrev pub record_of : ℕ → ℕ → List ℕ → Record
record_of o key value = record { at = o; len = record_length (length value); version = edition; flags = 8; key = key }

-- R3.4: a record is dead once the top one of its flags is cleared
abbrev pub dead : Record → Record
dead x = record { at = x.at; len = x.len; version = x.version; flags = x.flags % 8; key = x.key }

-- R4.8: what is sought: a live record of the key, or any live record
abbrev pub is_wanted : Want → Record → Bool
is_wanted (Want.Key k) x = live x && eqb x.key k
is_wanted Want.Any x = live x

-- R4.8: where no record decides, the bad place or the end does
abbrev pub event_of : Stop → Event
event_of (End o) = Event.End o
event_of (Bad f o) = Event.Bad f o

-- R4.8: the first that decides: a record that is sought, a bad place, or the end.
unfoldable pub first_of : (Record → Bool) → List Record → Stop → Event
first_of test [] s = event_of s
first_of test (x ∷ xs) s = cond (test x) (Event.Live x) (first_of test xs s)

-- R4.8: what decides the walk of a region, where a key or any live record is sought.
abbrev pub event_in : List ℕ → Want → Event
event_in region want = first_of (is_wanted want) (records region) (ending region)
