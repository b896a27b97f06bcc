-- A record's layout: the numbers of the format, a record's bytes, and what is written to make one dead.
use Rattle.std.specs.Prelude.{ℕ, zero, suc, ◌+◌, ◌-◌, ◌*◌, ◌/◌, ◌%◌, Bool, List, [], ◌∷◌, ◌++◌, leb, eqb, length, get_or, take, replicate}
use Rattle.crc32.specs.Crc.{checksum}
use Rattle.format.specs.declared.Record.{Record}
use Rattle.format.specs.declared.Removal.{Removal}

-- The numbers of the format. Those that an edition, the version byte, decides are functions of it.

-- R3.1: byte 0 is the version, which is the format's edition: the one that is written is 1.
abbrev pub edition : ℕ
edition = 1

-- R3.1: version, flags and length, and key are bytes 0 to 10: 11 bytes.
abbrev pub header_length : ℕ → ℕ
header_length version = 11

-- R3.1: the last 4 bytes are the checksum.
abbrev pub check_sum_length : ℕ
check_sum_length = 4

-- R3.2: the value's bytes and 15 more: the least record, one with an empty value, has 15.
abbrev pub least_length : ℕ → ℕ
least_length version = header_length version + check_sum_length

-- R3.2: the length has 12 bits, and these hold no more.
abbrev pub most_length : ℕ
most_length = 4095

-- R3.3: a record is written with a length of 4,094 at most.
abbrev pub largest_length : ℕ
largest_length = 4094

-- R3.3: so a value has 4,079 bytes at most.
abbrev pub largest_value : ℕ → ℕ
largest_value version = largest_length - least_length version

-- R3.2: the length counts the whole record, the value's bytes and 15 more: of a value of so many bytes, in the edition that is written.
abbrev pub record_length : ℕ → ℕ
record_length len = len + least_length edition

-- Bytes of numbers.

-- R3.1: a number as so many bytes, its highest byte first, as the key is
unfoldable pub big_endian : ℕ → ℕ → List ℕ
big_endian zero n = []
big_endian (suc k) n = big_endian k (n / 256) ++ (n % 256 ∷ [])

-- R3.1: a number as so many bytes, its lowest byte first, as the checksum is
unfoldable pub little_endian : ℕ → ℕ → List ℕ
little_endian zero n = []
little_endian (suc k) n = n % 256 ∷ little_endian k (n / 256)

-- R3.1: the number that k bytes from o on are, its highest byte first
unfoldable pub big_endian_at : ℕ → List ℕ → ℕ → ℕ
big_endian_at zero bytes o = 0
big_endian_at (suc k) bytes o = big_endian_at k bytes o * 256 + get_or bytes (o + k) 0

-- R3.1: byte 0 the version; byte 1 the flags in its top four bits and the high four bits of the length in its low four;
-- byte 2 the low eight bits of the length; bytes 3 to 10 the key, its highest byte first.
abbrev pub header : ℕ → ℕ → ℕ → ℕ → List ℕ
header version flags len key = version ∷ (flags * 16 + len / 256) ∷ (len % 256) ∷ big_endian 8 key

-- R3.4, R3.6: header and value of a record as it is written, with flags 8: all its bytes but the last four, which the checksum is of
abbrev pub header_and_value : ℕ → List ℕ → List ℕ
header_and_value key value = header edition 8 (record_length (length value)) key ++ value

-- R3.1, R3.6: a record's bytes, one behind the other. The last 4 are the checksum of those before, its lowest byte first.
unfoldable pub record_bytes : ℕ → List ℕ → List ℕ
record_bytes key value = header_and_value key value ++ little_endian check_sum_length (checksum (header_and_value key value))

-- R3.4: live is what has the top one of the four flags set. The other three are not looked at.
abbrev pub live : Record → Bool
live x = leb 8 x.flags

-- What is written to make a record dead, of the record alone: its version, flags, length and key as a walk saw them.

-- R3.7: version, byte 1 with the top bit cleared, byte 2 and key as they are
abbrev pub dead_header : Record → List ℕ
dead_header x = header x.version (x.flags % 8) x.len x.key

-- R3.7: where in the record the one write begins: at byte 1, or at its first byte
abbrev pub kill_offset : Removal → ℕ
kill_offset Removal.Invalidate = 1
kill_offset Removal.Zeroise = 0

-- R3.7: how many bytes it has: one, or those of the whole record
abbrev pub kill_length : Removal → Record → ℕ
kill_length Removal.Invalidate x = 1
kill_length Removal.Zeroise x = x.len

-- R3.7: to invalidate, byte 1 with the top bit cleared.
-- R3.7: to zeroise, version, byte 1 so, byte 2 and key as they are, and 0 for every byte of value and checksum.
abbrev pub kill_bytes : Removal → Record → List ℕ
kill_bytes Removal.Invalidate x = get_or (dead_header x) 1 0 ∷ []
kill_bytes Removal.Zeroise x = dead_header x ++ replicate (x.len - header_length x.version) 0

-- R3.7: where in its region it begins
abbrev pub kill_place : Removal → Record → ℕ
kill_place how x = x.at + kill_offset how

-- A record's checksum.

-- R3.1: the number that the four bytes from o on are, its lowest byte first, as the checksum is
abbrev pub sum_at : List ℕ → ℕ → ℕ
sum_at bytes o = get_or bytes o 0 + get_or bytes (o + 1) 0 * 256 + get_or bytes (o + 2) 0 * 65536 + get_or bytes (o + 3) 0 * 16777216

-- R3.6: the last four of a record's bytes are the checksum of all the others
unfoldable pub check_sum_fits : List ℕ → Bool
check_sum_fits bytes = eqb (checksum (take (length bytes - check_sum_length) bytes)) (sum_at bytes (length bytes - check_sum_length))
