-- Records in the bytes of a file: one behind the other, each of so many words, and each word in eight bytes, the
-- highest first.
use Rattle.std.specs.Prelude.{ℕ, zero, suc, ◌+◌, ◌-◌, ◌*◌, ◌/◌, ◌^◌, ◌≤◌, min, List, [], ◌∷◌, ◌++◌, length, take, drop, replicate}
use Rattle.std.specs.List.{flat_map}
use Rattle.std.specs.Int.{w64, to_be_bytes, from_be_bytes}
use Rattle.rec_words.specs.declared.rec.Rec.{Rec}
use Rattle.shelf_model.specs.Calls.{most_piece}

-- no file has more words: its 2^50 bytes are eight for each
abbrev pub most_words : ℕ
most_words = 2 ^ 47

-- how many records of k words one call moves: as many as a window of that room has, but no more than a piece
unfoldable pub piece_records : ℕ → ℕ → ℕ
piece_records k room = min room (most_piece / 8 / k)

-- the k words with which the bytes begin
abbrev pub words_of : ℕ → List ℕ → List ℕ
words_of zero bytes = []
words_of (suc k) bytes = from_be_bytes w64 (take 8 bytes) ∷ words_of k (drop 8 bytes)

-- the record of k words with which the bytes begin: its other words are 0
abbrev pub record_of : ℕ → List ℕ → Rec
record_of k bytes = record { w = words_of k bytes ++ replicate (8 - k) 0 }

-- the n records of k words with which the bytes begin
abbrev pub records_of : ℕ → ℕ → List ℕ → List Rec
records_of k zero bytes = []
records_of k (suc n) bytes = record_of k bytes ∷ records_of k n (drop (8 * k) bytes)

-- the bytes from the place of a record on
abbrev pub from_place : ℕ → ℕ → List ℕ → List ℕ
from_place k place bytes = drop (place * (8 * k)) bytes

-- the record at that place
abbrev pub record_at : ℕ → ℕ → List ℕ → Rec
record_at k place bytes = record_of k (from_place k place bytes)

-- the bytes don't end before the record at that place does
abbrev pub IsWhole : ℕ → ℕ → List ℕ → Type 0
IsWhole k place bytes = (place + 1) * (8 * k) ≤ length bytes

-- the bytes of a record's first k words
abbrev pub record_bytes : ℕ → Rec → List ℕ
record_bytes k r = flat_map (to_be_bytes w64) (take k r.w)

-- the bytes of records, one behind the other
abbrev pub records_bytes : ℕ → List Rec → List ℕ
records_bytes k rs = flat_map (record_bytes k) rs
