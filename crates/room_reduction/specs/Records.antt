-- The words of records, and the records of rows.
use Rattle.std.specs.Prelude.{ℕ, [], ◌∷◌, slice_index}
use Rattle.rec_words.specs.declared.rec.Rec.{Rec}
use Rattle.canon_file.specs.declared.row.Row.{Row}

-- the word at a place of a record
abbrev pub word : ℕ → Rec → ℕ
word k r = slice_index r.w k

-- of the record of a source or of a node its identifier and its low and its high pointer, and of a source's what it
-- became
abbrev pub uid_in : Rec → ℕ
uid_in r = word 0 r

abbrev pub low_in : Rec → ℕ
low_in r = word 1 r

abbrev pub high_in : Rec → ℕ
high_in r = word 2 r

abbrev pub became_in : Rec → ℕ
became_in r = word 3 r

-- the record of the node with that word and that row, and the row of such a record
abbrev pub node_record : ℕ → Row → Rec
node_record w r = record { w = w ∷ r.low ∷ r.high ∷ 0 ∷ 0 ∷ 0 ∷ 0 ∷ 0 ∷ [] }

abbrev pub row_in : Rec → Row
row_in r = record { low = word 0 r; high = word 1 r }
