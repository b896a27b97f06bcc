-- The worked examples R15.1 to R15.10, as the store's definitions compute them and as the rules state them. S 64, N 4, blank at first.
use Rattle.std.specs.Prelude.{ℕ, ◌+◌, ◌*◌, List, [], ◌∷◌, ◌++◌, take, drop, set, replicate, Result, Err, Ok}
use Rattle.chip.specs.Chip.{written, erased}
use Rattle.probe.specs.Probe.{probes}
use Rattle.format.specs.declared.Removal.{Removal}
use Rattle.format.specs.Layout.{record_bytes}
use Rattle.lookup.specs.declared.Hit.{Hit}
use Rattle.lookup.specs.Turns.{hit_of}
use Rattle.plans.specs.Answers.{refusal, values, Answer}
use Rattle.store.specs.Read.{Got, get_of}
use Rattle.store.specs.Write.{Done, append_of, remove_of}
use Rattle.store.specs.Collect.{collect_of}
use Rattle.refusals.specs.declared.Refusal.{Refusal}

-- R15.1 to R15.10: a line of the table: item k is R15.k, what the definitions compute, and what the rule states. Where an answer is among them
-- it comes first, by its number (0 where nothing is refused) and what it carries; the bytes follow.
pub record Case : Type 0 where
  pub item : ℕ
  pub computed : List ℕ
  pub stated : List ℕ

-- R15.1: S is 64, in all of the examples of the table.
abbrev pub S : ℕ
S = 64

-- R15.1: N is 4, in all of them.
abbrev pub N : ℕ
N = 4

-- R7.1: an answer by its refusal's number, 0 where it is none, and what it carries.
abbrev pub said : Answer → List ℕ
said answer = refusal answer ∷ values answer

-- R15.2: bytes of the image: so many, from an image place on.
abbrev pub bytes_from : ℕ → ℕ → List ℕ → List ℕ
bytes_from place count image = take count (drop place image)

-- R15.5: the image place of the live record that was found; nothing where none was.
abbrev pub place_of : Result Hit Refusal → List ℕ
place_of (Ok h) = (h.region * S + h.rec.at) ∷ []
place_of (Err w) = []

-- The calls, at this S and N.

-- R5.2: get.
abbrev pub get : ℕ → List ℕ → List ℕ → Got
get key buffer image = get_of image S N key buffer

-- R5.3: append.
abbrev pub append : ℕ → List ℕ → List ℕ → Done
append key value image = append_of image S N key value

-- R5.5: invalidate.
abbrev pub invalidate : ℕ → List ℕ → Done
invalidate key image = remove_of Removal.Invalidate image S N key

-- R5.6: zeroise.
abbrev pub zeroise : ℕ → List ℕ → Done
zeroise key image = remove_of Removal.Zeroise image S N key

-- R5.7: collect.
abbrev pub collect : List ℕ → Done
collect image = collect_of image S N

-- The values and the images, step by step.

-- R15.1: the chip is blank at first: the image with which the examples begin
unfoldable pub blank : List ℕ
blank = erased (N * S)

-- R15.2: the bytes 7, 8, 9
abbrev pub three_bytes : List ℕ
three_bytes = 7 ∷ 8 ∷ 9 ∷ []

-- R15.4: a value of 49 bytes, or of 50: the numbers do not matter, so each is 7.
abbrev pub sevens : ℕ → List ℕ
sevens count = replicate count 7

-- R15.2: append key 1 with the bytes 7, 8, 9
unfoldable pub after_three : Done
after_three = append 1 three_bytes blank

-- R15.3: get it into two bytes
unfoldable pub into_two : Got
into_two = get 1 (0 ∷ 0 ∷ []) after_three.image

-- R15.4: append key 1 with 49 bytes
unfoldable pub after49 : Done
after49 = append 1 (sevens 49) blank

-- R15.5: then key 5 with an empty value
unfoldable pub after_key5 : Done
after_key5 = append 5 [] after49.image

-- R15.6: then invalidate key 1
unfoldable pub after_invalidate : Done
after_invalidate = invalidate 1 after_key5.image

-- R15.6: and collect
unfoldable pub after_collect : Done
after_collect = collect after_invalidate.image

-- R15.7: zeroise of that record of 49 bytes
unfoldable pub after_zeroise : Done
after_zeroise = zeroise 1 after49.image

-- R15.8: a version byte of 2 at place 64
unfoldable pub version2 : List ℕ
version2 = written blank 64 (2 ∷ [])

-- R15.9: a record of key 1 with an empty value at place 64, whose header says this length
unfoldable pub with_length : ℕ → List ℕ
with_length len = written blank 64 (set (record_bytes 1 []) 2 len)

-- R15.1 to R15.10: the checksums among the stated bytes were made by a program of its own, bit by bit, from the published CRC-32/CKSUM.
unfoldable pub table : List Case
table =
    -- R15.1: key 1 probes regions 1, 2, 0, 3. Key 3 probes 3, 2, 1, 0.
    record { item = 1; computed = probes 1 N; stated = 1 ∷ 2 ∷ 0 ∷ 3 ∷ [] }
    ∷ record { item = 1; computed = probes 3 N; stated = 3 ∷ 2 ∷ 1 ∷ 0 ∷ [] }
    -- R15.2: append key 1 with the bytes 7, 8, 9: from image place 64 on stand 01 80 12, the key, the value and the checksum.
    ∷ record {
      item = 2;
      computed = said after_three.answer ++ bytes_from 64 18 after_three.image;
      stated = 0 ∷ 0x01 ∷ 0x80 ∷ 0x12 ∷ 0x00 ∷ 0x00 ∷ 0x00 ∷ 0x00 ∷ 0x00 ∷ 0x00 ∷ 0x00 ∷ 0x01 ∷ 7 ∷ 8 ∷ 9 ∷ 0x96 ∷ 0xC0 ∷ 0xF7 ∷ 0x18 ∷ [];
    }
    -- R15.3: get it into two bytes: two are copied, and the answer is BufferTooSmall with 3.
    ∷ record { item = 3; computed = said into_two.answer ++ into_two.buffer; stated = 9 ∷ 3 ∷ 7 ∷ 8 ∷ [] }
    -- R15.4: a value of 49 bytes fits a blank region exactly: the checksum is in the region's last four bytes. One of 50 is FlashFull.
    ∷ record { item = 4; computed = said after49.answer ++ bytes_from 64 3 after49.image; stated = 0 ∷ 0x01 ∷ 0x80 ∷ 0x40 ∷ [] }
    ∷ record { item = 4; computed = bytes_from 124 5 after49.image; stated = 0x06 ∷ 0x60 ∷ 0x80 ∷ 0x83 ∷ 255 ∷ [] }
    ∷ record { item = 4; computed = said (append 1 (sevens 50) blank).answer; stated = 6 ∷ [] }
    -- R15.5: after 49 bytes under key 1, key 5 with an empty value lands at image place 128, and is found.
    ∷ record {
      item = 5;
      computed = said after_key5.answer ++ bytes_from 128 15 after_key5.image;
      stated = 0 ∷ 0x01 ∷ 0x80 ∷ 0x0F ∷ 0x00 ∷ 0x00 ∷ 0x00 ∷ 0x00 ∷ 0x00 ∷ 0x00 ∷ 0x00 ∷ 0x05 ∷ 0xE4 ∷ 0x3F ∷ 0x83 ∷ 0x34 ∷ [];
    }
    ∷ record { item = 5; computed = place_of (hit_of after_key5.image S N 5); stated = 128 ∷ [] }
    ∷ record { item = 5; computed = said (get 5 [] after_key5.image).answer; stated = 0 ∷ 0 ∷ [] }
    -- R15.6: then invalidate key 1 and collect: 64 bytes are freed, and key 5 is still found.
    ∷ record { item = 6; computed = said after_collect.answer; stated = 0 ∷ 64 ∷ [] }
    ∷ record { item = 6; computed = said (get 5 [] after_collect.image).answer; stated = 0 ∷ 0 ∷ [] }
    -- R15.7: zeroise of that record of 49 bytes leaves 01 00 40, the key, and 53 zeros.
    ∷ record {
      item = 7;
      computed = said after_zeroise.answer ++ bytes_from 64 64 after_zeroise.image;
      stated = 0 ∷ 0x01 ∷ 0x00 ∷ 0x40 ∷ 0x00 ∷ 0x00 ∷ 0x00 ∷ 0x00 ∷ 0x00 ∷ 0x00 ∷ 0x00 ∷ 0x01 ∷ replicate 53 0;
    }
    -- R15.8: a version byte of 2 at place 64: get of keys 1 and 3 is UnsupportedVersion.
    ∷ record { item = 8; computed = said (get 1 [] version2).answer; stated = 7 ∷ [] }
    ∷ record { item = 8; computed = said (get 3 [] version2).answer; stated = 7 ∷ [] }
    -- R15.9: a length of 14, or of 0, is CorruptData; a length of 15 is a record.
    ∷ record { item = 9; computed = said (get 1 [] (with_length 14)).answer; stated = 8 ∷ [] }
    ∷ record { item = 9; computed = said (get 1 [] (with_length 15)).answer; stated = 0 ∷ 0 ∷ [] }
    ∷ record { item = 9; computed = said (get 1 [] (with_length 0)).answer; stated = 8 ∷ [] }
    -- R15.10: collect on a blank image: Freed with 0.
    ∷ record { item = 10; computed = said (collect blank).answer; stated = 0 ∷ 0 ∷ [] }
    ∷ []
