-- The tables of steps, made one after the other.
use Rattle.std.proofs.Common.{◌≡◌, ◌∙◌, ℕ, ◌<◌, Bool, List, [], ◌∷◌, ◌++◌, length, get_or, refl, arith, length-append}
use Rattle.std.proofs.lemmas.List.{get_or_append_left}
use Rattle.bool_tables.specs.declared.steps.Planned.{Planned}
use Rattle.bool_tables.specs.Steps.{step_table, tables_after}

-- the tables that were made before stay
pub tables_keep : (n : ℕ) (done : List (List Bool)) (steps : List Planned) (i : ℕ) → i < length done → get_or (tables_after n done steps) i [] ≡ get_or done i []
tables_keep n done [] i within = refl
tables_keep n done (s ∷ steps) i within =
    tables_keep n (done ++ step_table n done s.step ∷ []) steps i (omega (arith, within, length-append done (step_table n done s.step ∷ [])))
    ∙ get_or_append_left done (step_table n done s.step ∷ []) [] i within
