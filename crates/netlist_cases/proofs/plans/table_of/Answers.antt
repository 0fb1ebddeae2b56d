use Rattle.std.proofs.Common.{◌≡◌, ℕ, ◌+◌, ◌≤◌, ◌∙◌, true, List, [], ◌∷◌, length, map, nat_lt, refl, sym, ap, subst, arith}
use Rattle.std.specs.List.{list_all}
use Rattle.std.proofs.lemmas.List.{length-map}
use Rattle.bool_tables.specs.Plans.{IsWellFormed, has_name}
use Rattle.bool_tables.specs.declared.steps.Step.{Step}
use Rattle.bool_tables.specs.declared.steps.Planned.{Planned}
use Rattle.net_plan.specs.Values.{steps_of}
use Rattle.net_plan.specs.WellFormed.{StaysWellFormed}
use Rattle.netlist_cases.proofs.plans.table_of.Goals as goal

abbrev unnamed : Step → Planned
unnamed s = record { step = s; name_at = 0; name_len = 0 }

steps_back : (steps : List Step) → steps_of (map unnamed steps) ≡ steps
steps_back [] = refl
steps_back (s ∷ ss) = ap (λ rest. s ∷ rest) (steps_back ss)

names_stand : (steps : List Step) → list_all (has_name []) (map unnamed steps) ≡ true
names_stand [] = refl
names_stand (s ∷ ss) = names_stand ss

well_formed : (levels wanted made : List ℕ) (steps : List Step) → StaysWellFormed levels wanted 0 steps made → list_all (λ level. nat_lt level 2) levels ≡ true → 0 + length steps ≤ 1048576 → IsWellFormed 2 [] (map unnamed steps)
well_formed levels wanted made steps goes_on few short = record {
  few_variables = omega arith;
  few_steps = omega (arith, length-map steps unnamed);
  in_order = (goes_on 2 [] [] (map unnamed steps) refl refl (steps_back steps) (names_stand steps) few).in_order;
}

pub eval_steps-requires : goal.eval_steps-requires
eval_steps-requires c =
    subst (IsWellFormed 2 []) (sym (c.as_slice-3.ensures.value ∙ c.in_ok-planned.ensures ∙ ap (map unnamed) c.items.ensures))
    (well_formed c.args.levels.now _ c.in_ok-plan.plan.made c.in_ok-plan.plan.steps c.in_ok-plan.ensures.goes_on c.requires c.in_ok-plan.ensures.few)
