-- The tables of the steps of a plan stay when further steps stand behind them.
use Rattle.std.proofs.Common.{◌≡◌, ◌∙◌, ℕ, ◌+◌, ◌<◌, Bool, List, [], ◌∷◌, ◌++◌, length, get_or, refl, ap, arith, length-append}
use Rattle.bool_tables.specs.declared.steps.Planned.{Planned}
use Rattle.bool_tables.specs.Steps.{step_table, tables_after}
use Rattle.bool_tables.proofs.TableSteps.{tables_keep}

pub tables_append : (n : ℕ) (done : List (List Bool)) (xs ys : List Planned) → tables_after n done (xs ++ ys) ≡ tables_after n (tables_after n done xs) ys
tables_append n done [] ys = refl
tables_append n done (x ∷ xs) ys = tables_append n (done ++ step_table n done x.step ∷ []) xs ys

pub length-tables : (n : ℕ) (done : List (List Bool)) (xs : List Planned) → length (tables_after n done xs) ≡ length done + length xs
length-tables n done [] = omega arith
length-tables n done (x ∷ xs) = omega (arith, length-tables n (done ++ step_table n done x.step ∷ []) xs, length-append done (step_table n done x.step ∷ []))

-- the table of a step of the front
pub table_stays : (n : ℕ) (steps more : List Planned) (k : ℕ) → k < length steps → get_or (tables_after n [] (steps ++ more)) k [] ≡ get_or (tables_after n [] steps) k []
table_stays n steps more k below =
    ap (λ ts. get_or ts k []) (tables_append n [] steps more) ∙ tables_keep n (tables_after n [] steps) more k (omega (arith, below, length-tables n [] steps))
