-- the pointers of a level's pieces, from those of the next level
use Rattle.std.specs.Prelude.{ℕ, ◌==◌, Bool, not, cond, List, [], ◌∷◌, map, filter}
use Rattle.canon_file.specs.declared.row.Row.{Row}
use Rattle.list_laws.specs.Members.{ascending}
use Rattle.canon_file.specs.Rows.{row_before, row_word, place_of}

-- the first pointer with the second one, the third with the fourth, and so on
abbrev pub pairs : List ℕ → List Row
pairs [] = []
pairs (x ∷ []) = []
pairs (x ∷ y ∷ words) = record { low = x; high = y } ∷ pairs words

-- the two pointers differ
abbrev pub differs : Row → Bool
differs r = not (r.low == r.high)

-- the pairs of pointers that differ, ascending, each once
abbrev pub distinct_rows : List ℕ → List Row
distinct_rows words = ascending row_before (filter differs (pairs words))

-- the pointer of a piece of level i with this pair, where the rows of the level are known
abbrev pub word_in : ℕ → List Row → Row → ℕ
word_in i rows r = cond (differs r) (row_word i (place_of r rows)) r.low

-- the pointers of the pieces of level i, from those of the next level
abbrev pub words_above : ℕ → List ℕ → List ℕ
words_above i words = map (word_in i (distinct_rows words)) (pairs words)
