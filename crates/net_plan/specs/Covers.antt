-- The steps that make a block's diagram from those of the signals that it reads.
use Rattle.std.specs.Prelude.{ℕ, ◌+◌, ◌==◌, Bool, true, false, List, [], ◌∷◌, ◌++◌, length, if◌then◌else◌}
use Rattle.bool_tables.specs.declared.steps.Bin.{Bin}
use Rattle.bool_tables.specs.declared.steps.Step.{Step}
use Rattle.bool_tables.specs.declared.steps.Step.TheVariants.{Const, Pair, Drop}

-- left and right
abbrev pub both : Bin
both = record { v00 = false; v01 = false; v10 = false; v11 = true }

-- left and not right
abbrev pub left_alone : Bin
left_alone = record { v00 = false; v01 = false; v10 = true; v11 = false }

-- left or right
abbrev pub either : Bin
either = record { v00 = false; v01 = true; v10 = true; v11 = true }

-- not both
abbrev pub not_both : Bin
not_both = record { v00 = true; v01 = true; v10 = true; v11 = false }

-- steps, and the number of the one that made the diagram at hand
pub record Draft : Type 0 where
  pub steps : List Step
  pub at : ℕ

-- one step more, where the steps are numbered from first on
abbrev pub put : ℕ → List Step → Step → Draft
put first steps step = record { steps = steps ++ step ∷ []; at = first + length steps }

-- the diagram at hand is joined with that of another step, and dropped
abbrev pub join : ℕ → Bin → Draft → ℕ → Draft
join first op d t = record { steps = (d.steps ++ Pair op d.at t ∷ []) ++ Drop d.at ∷ []; at = first + length d.steps }

-- a cube with one more column: the column's signal where the row has 1, its complement where it has 0
abbrev pub column : ℕ → Draft → ℕ → ℕ → Draft
column first d cell t = if cell == 49 then join first both d t else if cell == 48 then join first left_alone d t else d

-- a cube with more columns, from left to right
abbrev pub columns : ℕ → Draft → List ℕ → List ℕ → Draft
columns first d [] ts = d
columns first d (c ∷ cs) [] = d
columns first d (c ∷ cs) (t ∷ ts) = columns first (column first d c t) cs ts

-- the cube of a row
abbrev pub cube : ℕ → List Step → List ℕ → List ℕ → Draft
cube first steps cells ts = columns first (put first steps (Const true)) cells ts

-- the sum so far, or the cube
abbrev pub summed : ℕ → Draft → Draft → Draft
summed first sum c = record {
  steps = ((c.steps ++ Pair either sum.at c.at ∷ []) ++ Drop sum.at ∷ [])
      ++ Drop c.at ∷ [];
  at = first + length c.steps;
}

-- a sum with one more row
abbrev pub row : ℕ → Draft → List ℕ → List ℕ → Draft
row first sum cells ts = summed first sum (cube first sum.steps cells ts)

-- a sum with more rows, in their order
abbrev pub rows : ℕ → Draft → List (List ℕ) → List ℕ → Draft
rows first sum [] ts = sum
rows first sum (r ∷ rs) ts = rows first (row first sum r ts) rs ts

-- the complement, where the rows have output 0
abbrev pub signed : ℕ → Bool → Draft → Draft
signed first true sum = sum
signed first false sum = join first not_both sum sum.at

-- a block
abbrev pub block : ℕ → List Step → Bool → List (List ℕ) → List ℕ → Draft
block first steps value rs ts = signed first value (rows first (put first steps (Const false)) rs ts)
