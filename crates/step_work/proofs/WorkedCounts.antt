-- How many tuples some steps join, counted by hand.
use Rattle.std.proofs.Common.{◌≡◌, Bool, true, false, List, [], ◌∷◌, refl}
use Rattle.bool_tables.specs.declared.steps.Bin.{Bin}
use Rattle.bool_tables.specs.declared.steps.Quant.{Quant}
use Rattle.bool_tables.specs.declared.steps.Step.TheVariants.{Pair, Quantify, Restrict}
use Rattle.step_work.specs.Tuples.{tuple_count}

-- the tables of the two variables, of where both are 1, and of where they differ
abbrev first : List Bool
first = false ∷ false ∷ true ∷ true ∷ []

abbrev second : List Bool
second = false ∷ true ∷ false ∷ true ∷ []

abbrev both : List Bool
both = false ∷ false ∷ false ∷ true ∷ []

abbrev differ : List Bool
differ = false ∷ true ∷ true ∷ false ∷ []

-- an operator on the two variables joins the two tables, and each half of the one with half of the other
pair-of-variables : (op : Bin) → tuple_count 2 (Pair op 0 1) (first ∷ second ∷ []) ≡ 3
unfolding tuple_count
pair-of-variables op = refl

-- of the second variable with itself the halves are the same, and count once
pair-of-one : (op : Bin) → tuple_count 2 (Pair op 0 0) (second ∷ second ∷ []) ≡ 1
unfolding tuple_count
pair-of-one op = refl

-- a quantifier over the first variable joins both halves in one tuple
quantifier-of-first : (kind : Quant) → tuple_count 2 (Quantify kind 0 0) (differ ∷ []) ≡ 2
unfolding tuple_count
quantifier-of-first kind = refl

-- a restriction of the first variable leads to the half in which it has the value, and to no other
restriction-to-one : tuple_count 2 (Restrict 0 0 true) (both ∷ []) ≡ 2
unfolding tuple_count
restriction-to-one = refl

restriction-to-zero : tuple_count 2 (Restrict 0 0 false) (both ∷ []) ≡ 1
unfolding tuple_count
restriction-to-zero = refl
