-- A step of a plan, the table that it makes, its canonical file, and its work.
use Rattle.std.specs.Prelude.{ℕ, Bool, false, List, get_or, map}
use Rattle.bool_tables.specs.declared.steps.Planned.{Planned}
use Rattle.bool_tables.specs.declared.steps.Step.{Step}
use Rattle.bool_tables.specs.declared.steps.Step.TheVariants.{Const}
use Rattle.bool_tables.specs.Plans.{operands}
use Rattle.bool_tables.specs.Steps.{plan_tables, table_of_step}
use Rattle.canon_file.specs.Canon.{canon_bytes}
use Rattle.step_work.specs.Works.{work_for}

-- past the last step
abbrev pub no_step : Planned
no_step = record { step = Const false; name_at = 0; name_len = 0 }

abbrev pub step_at : List Planned → ℕ → Step
step_at steps k = (get_or steps k no_step).step

-- the table of a step, of n variables
abbrev pub table_at : ℕ → List Planned → ℕ → List Bool
table_at n steps k = table_of_step (plan_tables n steps) k

-- the canonical file of its diagram
abbrev pub file_at : ℕ → List Planned → ℕ → List ℕ
file_at n steps k = canon_bytes n (table_at n steps k)

-- the work of a step, in turns
abbrev pub work_at : ℕ → List Planned → ℕ → ℕ
work_at n steps k = work_for n (step_at steps k) (map (table_at n steps) (operands (step_at steps k)))
