-- the pieces of a table: its parts, level by level
use Rattle.std.specs.Prelude.{ℕ, zero, suc, ◌*◌, ◌^◌, Bool, not, List, [], ◌∷◌, take, drop}
use Rattle.bool_tables.specs.Tables.{low_half, high_half, same_bits}

-- the two halves of a table of one variable more than h differ
abbrev pub splits : ℕ → List Bool → Bool
splits h t = not (same_bits (low_half h t) (high_half h t))

-- the pieces of the next level: the halves of each piece, in order
abbrev pub halves : ℕ → List (List Bool) → List (List Bool)
halves h [] = []
halves h (p ∷ ps) = low_half h p ∷ high_half h p ∷ halves h ps

-- the pieces of level i of a table of i + h variables, by halving
abbrev pub pieces : ℕ → ℕ → List Bool → List (List Bool)
pieces zero h t = t ∷ []
pieces (suc i) h t = halves h (pieces i (suc h) t)

-- the part of 2 ^ h values at place k, counted in parts
abbrev pub part_at : ℕ → List Bool → ℕ → List Bool
part_at h t k = take (2 ^ h) (drop (k * 2 ^ h) t)

-- m parts of 2 ^ h values, from place k on
abbrev pub parts : ℕ → List Bool → ℕ → ℕ → List (List Bool)
parts h t k zero = []
parts h t k (suc m) = part_at h t k ∷ parts h t (suc k) m
