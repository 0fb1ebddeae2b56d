-- the tables of a plan, a step at a time
use Rattle.std.specs.Prelude.{◌≡◌, ℕ, ◌+◌, ◌<◌, Bool, false, List, [], ◌∷◌, ◌++◌, length, get_or, drop}
use Rattle.std.proofs.Common.{sym, ◌∙◌, ap}
use Rattle.std.proofs.lemmas.List.{at_drop_more}
use Rattle.bool_tables.specs.Steps.{step_table, tables_after}
use Rattle.bool_tables.specs.declared.steps.Step.TheVariants.{Const}
use Rattle.bool_tables.specs.declared.steps.Planned.{Planned}

-- what a look-up past the end of a plan gives
abbrev pub past_end : Planned
past_end = record { step = Const false; name_at = 0; name_len = 0 }

-- once the table of step k is made, from the tables seen, the steps after it lead to the same tables
pub tables_more : (n : ℕ) (steps : List Planned) (done more seen : List (List Bool)) (values table : List Bool) (k : ℕ) → k < length steps
    → seen ≡ done → values ≡ step_table n seen (get_or steps k past_end).step → table ≡ values → more ≡ done ++ table ∷ []
    → tables_after n more (drop (k + 1) steps) ≡ tables_after n done (drop k steps)
tables_more n steps done more seen values table k below same made kept pushed =
    let whole : table ≡ step_table n done (get_or steps k past_end).step = kept ∙ made ∙ (λ j. step_table n (same j) (get_or steps k past_end).step) in
    let joined : more ≡ done ++ step_table n done (get_or steps k past_end).step ∷ [] = pushed ∙ (λ j. done ++ whole j ∷ []) in
    ap (λ tables. tables_after n tables (drop (k + 1) steps)) joined ∙ sym (at_drop_more (tables_after n done) steps k past_end below)
