-- the table that a step makes, place by place
use Rattle.std.specs.Prelude.{ℕ, Bool, true, false, cond, ◌&&◌, ◌||◌, ◌==◌, List, [], ◌∷◌, ◌++◌, get_or, take, drop, map}
use Rattle.bool_tables.specs.Tables.{value_at, table_with, digit, with_digit, place_of_bits}
use Rattle.bool_tables.specs.Plans.{makes_diagram}
use Rattle.bool_tables.specs.declared.steps.Bin.{Bin}
use Rattle.bool_tables.specs.declared.steps.Quant.{Quant}
use Rattle.bool_tables.specs.declared.steps.Quant.TheVariants.{Exists, Forall}
use Rattle.bool_tables.specs.declared.steps.Step.{Step}
use Rattle.bool_tables.specs.declared.steps.Step.TheVariants.{Const, Var, Pair, Ite, Quantify, Restrict, Drop, Same, Leq, Eval, Size}
use Rattle.bool_tables.specs.declared.steps.Planned.{Planned}

-- the operator's value for a left and a right value
abbrev pub op_value : Bin → Bool → Bool → Bool
op_value op left right = cond left (cond right op.v11 op.v10) (cond right op.v01 op.v00)

-- the quantifier's value for the values with the variable 0 and 1
abbrev pub quant_value : Quant → Bool → Bool → Bool
quant_value Exists low high = low || high
quant_value Forall low high = low && high

-- the table of a step, from the tables of all steps so far
abbrev pub table_of_step : List (List Bool) → ℕ → List Bool
table_of_step tables step = get_or tables step []

-- the value at a place of the table that a step makes, from the tables of the steps before it
abbrev pub step_value : ℕ → List (List Bool) → Step → ℕ → Bool
step_value n tables (Const value) p = value
step_value n tables (Var level) p = digit n level p
step_value n tables (Pair op left right) p =
    op_value op (value_at (table_of_step tables left) p) (value_at (table_of_step tables right) p)
step_value n tables (Ite test if_one if_zero) p =
    cond (value_at (table_of_step tables test) p) (value_at (table_of_step tables if_one) p)
    (value_at (table_of_step tables if_zero) p)
step_value n tables (Quantify kind operand level) p =
    quant_value kind
    (value_at (table_of_step tables operand) (with_digit n level false p))
    (value_at (table_of_step tables operand) (with_digit n level true p))
step_value n tables (Restrict operand level value) p = value_at (table_of_step tables operand)
    (with_digit n level value p)
step_value n tables (Drop gone) p = false
step_value n tables (Same left right) p = false
step_value n tables (Leq left right) p = false
step_value n tables (Eval operand at) p = false
step_value n tables (Size operand) p = false

-- the table that a step makes; a step that makes no diagram gives the empty table
abbrev pub step_table : ℕ → List (List Bool) → Step → List Bool
step_table n tables step = cond (makes_diagram step) (table_with n (step_value n tables step)) []

-- the tables of all steps, where done are those of the steps before
abbrev pub tables_after : ℕ → List (List Bool) → List Planned → List (List Bool)
tables_after n done [] = done
tables_after n done (s ∷ steps) = tables_after n (done ++ step_table n done s.step ∷ []) steps

-- the table of each step of a plan, in order
abbrev pub plan_tables : ℕ → List Planned → List (List Bool)
plan_tables n steps = tables_after n [] steps

-- the n bits that stand in the text from a byte on, as `0` and `1`
abbrev pub bits_at : ℕ → List ℕ → ℕ → List Bool
bits_at n text at = map (λ byte. byte == 49) (take n (drop at text))

-- the table's value at the place that those bits spell
abbrev pub eval_at : ℕ → List ℕ → List Bool → ℕ → Bool
eval_at n text table at = value_at table (place_of_bits (bits_at n text at))
