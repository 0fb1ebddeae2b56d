-- What a call that puts steps does.
use Rattle.std.specs.Prelude.{◌≡◌, ℕ, ◌+◌, ◌<◌, ◌≤◌, List, length, Result, Ok, Err}
use Rattle.bool_tables.specs.declared.steps.Step.{Step}
use Rattle.net_plan.specs.declared.fault.PlanFault.{PlanFault}
use Rattle.net_plan.specs.declared.fault.PlanFault.TheVariants.{Memory, TooManySteps}
use Rattle.net_plan.specs.Covers.{Draft}

-- the steps and the number are those of the draft, whose steps have numbers below 1,048,576; or memory ran out, or the
-- draft has more
abbrev pub Drafts : ℕ → List Step → List Step → Draft → Result ℕ PlanFault → Type 0
Drafts first old new draft (Ok at) = (new ≡ draft.steps) × (at ≡ draft.at) × (first + length new ≤ 1048576)
Drafts first old new draft (Err Memory) = Unit {0}
Drafts first old new draft (Err TooManySteps) = 1048576 < first + length draft.steps

-- the steps are those of a plan, and have numbers below 1,048,576; or memory ran out, or the plan has more
abbrev pub Plans : ℕ → List Step → List Step → Result (Unit {0}) PlanFault → Type 0
Plans first new steps (Ok u) = (new ≡ steps) × (first + length new ≤ 1048576)
Plans first new steps (Err Memory) = Unit {0}
Plans first new steps (Err TooManySteps) = 1048576 < first + length steps
