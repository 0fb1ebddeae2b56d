use Rattle.std.proofs.Common.{◌≡◌, map, take}
use Rattle.bool_tables.specs.declared.steps.Step.{Step}
use Rattle.netlist_cases.proofs.plans.unnamed.Given as goal

-- the steps so far
abbrev pub invariant-loop-step : goal.invariant-loop-step
invariant-loop-step l = l.planned.items ≡ map (λ (s : Step). record { step = s; name_at = 0; name_len = 0 }) (take l.step-index l.steps)
