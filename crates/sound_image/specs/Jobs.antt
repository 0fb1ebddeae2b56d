-- A job: a plan of steps, and the bytes that a folder stores of it.
use Rattle.std.specs.Prelude.{ℕ, ◌≤◌, Bool, List, length, get_or}
use Rattle.bool_tables.specs.declared.steps.Planned.{Planned}
use Rattle.bool_tables.specs.Steps.{plan_tables, table_of_step}
use Rattle.canon_file.specs.Canon.{canon_nodes, canon_bytes}
use Rattle.step_work.specs.Plans.{no_step}

-- the number of variables, the text of the script, the steps, and the bytes of the job's file without the budget of the
-- run that wrote it: they have 0 at the places 8 to 11, where a file may have any four bytes
pub record Job : Type 0 where
  pub n : ℕ
  pub text : List ℕ
  pub steps : List Planned
  pub bytes : List ℕ

abbrev pub step_at : Job → ℕ → Planned
step_at job k = get_or job.steps k no_step

-- the table of a step
abbrev pub table_at : Job → ℕ → List Bool
table_at job k = table_of_step (plan_tables job.n job.steps) k

-- the number of nodes of a step's diagram
abbrev pub nodes_at : Job → ℕ → ℕ
nodes_at job k = length (canon_nodes job.n (table_at job k))

-- the canonical file of a step's diagram
abbrev pub file_of : Job → ℕ → List ℕ
file_of job k = canon_bytes job.n (table_at job k)

-- few enough steps that their numbers are none of the job's files
abbrev pub AreFew : Job → Type 0
AreFew job = length job.steps ≤ 1048576
