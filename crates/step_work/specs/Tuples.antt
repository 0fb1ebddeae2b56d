-- The tuples of pieces that a step joins, level by level: of each operand one piece, or two where a variable is
-- quantified.
use Rattle.std.specs.Prelude.{ℕ, zero, suc, ◌+◌, ◌==◌, Bool, true, false, cond, ◌&&◌, List, [], ◌∷◌, length, map, filter}
use Rattle.std.specs.List.{list_any, flat_map}
use Rattle.bool_tables.specs.Tables.{half_where, same_bits}
use Rattle.bool_tables.specs.declared.steps.Step.{Step}
use Rattle.bool_tables.specs.declared.steps.Step.TheVariants.{Const, Var, Pair, Ite, Quantify, Restrict, Drop, Same, Leq, Eval, Size}
use Rattle.canon_file.specs.Pieces.{splits, halves}

-- the step joins pieces of its operands, level by level
abbrev pub joins : Step → Bool
joins (Const value) = false
joins (Var level) = false
joins (Pair op left right) = true
joins (Ite test if_one if_zero) = true
joins (Quantify kind operand level) = true
joins (Restrict operand level value) = true
joins (Drop gone) = false
joins (Same left right) = false
joins (Leq left right) = true
joins (Eval operand at) = false
joins (Size operand) = false

-- the step reads its operands' diagrams node by node: it joins pieces, compares two diagrams or follows a path
abbrev pub sweeps : Step → Bool
sweeps (Const value) = false
sweeps (Var level) = false
sweeps (Pair op left right) = true
sweeps (Ite test if_one if_zero) = true
sweeps (Quantify kind operand level) = true
sweeps (Restrict operand level value) = true
sweeps (Drop gone) = false
sweeps (Same left right) = true
sweeps (Leq left right) = true
sweeps (Eval operand at) = true
sweeps (Size operand) = false

-- the halves of a tuple's pieces in which the first variable has that value
abbrev pub side_of : ℕ → Bool → List (List Bool) → List (List Bool)
side_of h value pieces = map (half_where h value) pieces

-- those in which it is 0, and those in which it is 1
abbrev pub both_sides : ℕ → List (List Bool) → List (List (List Bool))
both_sides h pieces = side_of h false pieces ∷ side_of h true pieces ∷ []

-- the tuples of the next level that a tuple of level i leads to, where h levels follow: those of its two sides; at the
-- level of a quantified variable one tuple, of both halves of each piece, and at that of a restricted variable one, of
-- the halves in which it has the value
abbrev pub tuples_below : Step → ℕ → ℕ → List (List Bool) → List (List (List Bool))
tuples_below (Const value) i h pieces = []
tuples_below (Var level) i h pieces = []
tuples_below (Pair op left right) i h pieces = both_sides h pieces
tuples_below (Ite test if_one if_zero) i h pieces = both_sides h pieces
tuples_below (Quantify kind operand level) i h pieces = cond (i == level) (halves h pieces ∷ []) (both_sides h pieces)
tuples_below (Restrict operand level value) i h pieces =
    cond (i == level) (side_of h value pieces ∷ []) (both_sides h pieces)
tuples_below (Drop gone) i h pieces = []
tuples_below (Same left right) i h pieces = []
tuples_below (Leq left right) i h pieces = both_sides h pieces
tuples_below (Eval operand at) i h pieces = []
tuples_below (Size operand) i h pieces = []

-- the two tuples are the same
abbrev pub same_tuple : List (List Bool) → List (List Bool) → Bool
same_tuple [] [] = true
same_tuple [] (q ∷ qs) = false
same_tuple (p ∷ ps) [] = false
same_tuple (p ∷ ps) (q ∷ qs) = same_bits p q && same_tuple ps qs

-- the members of a list, each once
abbrev pub distinct : {X : Type 0} → (X → X → Bool) → List X → List X
distinct same [] = []
distinct same (x ∷ xs) = cond (list_any (same x) xs) (distinct same xs) (x ∷ distinct same xs)

-- how many different tuples have a piece that splits, where h levels follow
abbrev pub split_tuples : ℕ → List (List (List Bool)) → ℕ
split_tuples h tuples = length (distinct same_tuple (filter (list_any (splits h)) tuples))

-- so many on level i, which has these tuples, and on the levels behind it, h in all
abbrev pub tuples_from : Step → ℕ → ℕ → List (List (List Bool)) → ℕ
tuples_from step i zero tuples = 0
tuples_from step i (suc h) tuples =
    split_tuples h tuples + tuples_from step (suc i) h (flat_map (tuples_below step i h) tuples)

-- how many tuples with a piece that splits a step joins, whose operands have these tables of n variables
unfoldable pub tuple_count : ℕ → Step → List (List Bool) → ℕ
tuple_count n step tables = cond (joins step) (tuples_from step 0 n (tables ∷ [])) 0
