-- the pointer of a piece, and the rows of a level
use Rattle.std.specs.Prelude.{ℕ, zero, suc, ◌-◌, ◌==◌, ◌≤◌, nat_lt, Bool, false, cond, ◌&&◌, ◌||◌, List, [], ◌∷◌, length, get_or, map, filter}
use Rattle.bool_tables.specs.Tables.{low_half, high_half}
use Rattle.rec_words.specs.Words.{level_numbers, terminal, node_word}
use Rattle.canon_file.specs.declared.row.Row.{Row}
use Rattle.list_laws.specs.Members.{ascending}
use Rattle.canon_file.specs.Pieces.{splits, halves}

-- rows ascend by the low word, and then by the high word
abbrev pub row_before : Row → Row → Bool
row_before r s = nat_lt r.low s.low || ((r.low == s.low) && nat_lt r.high s.high)

-- the word of the node of the row at place k of level i: its number is the k-th from the top
abbrev pub row_word : ℕ → ℕ → ℕ
row_word i k = node_word i (level_numbers - 1 - k)

-- how many rows come before the first that is r
abbrev pub place_of : Row → List Row → ℕ
place_of r [] = 0
place_of r (s ∷ ss) = cond ((r.low == s.low) && (r.high == s.high)) 0 (suc (place_of r ss))

-- the row of a piece, where f gives the word of a piece of the next level
abbrev pub row_of : (List Bool → ℕ) → ℕ → List Bool → Row
row_of f h p = record { low = f (low_half h p); high = f (high_half h p) }

-- the rows of a level with the pieces ps: those of the pieces that split, ascending, each once
abbrev pub rows_with : (List Bool → ℕ) → ℕ → List (List Bool) → List Row
rows_with f h ps = ascending row_before (map (row_of f h) (filter (splits h) ps))

-- the pointer of a piece of level i, where h levels follow and ps are the pieces of the level:
-- the word of its value, or of its row's node where it splits, or else the pointer of its first half
abbrev pub pointer : ℕ → ℕ → List (List Bool) → List Bool → ℕ
pointer zero i ps p = terminal (get_or p 0 false)
pointer (suc h) i ps p =
    let f = pointer h (suc i) (halves h ps) in
    cond (splits h p) (row_word i (place_of (row_of f h p) (rows_with f h ps))) (f (low_half h p))

-- the rows of level i with the pieces ps, and of each of the h - 1 deeper levels
abbrev pub levels : ℕ → ℕ → List (List Bool) → List (List Row)
levels zero i ps = []
levels (suc h) i ps = rows_with (pointer h (suc i) (halves h ps)) h ps ∷ levels h (suc i) (halves h ps)

-- no level has more rows than it has numbers
abbrev pub Fits : List (List Row) → Type 0
Fits [] = Unit {0}
Fits (rs ∷ deeper) = (length rs ≤ level_numbers) × Fits deeper
