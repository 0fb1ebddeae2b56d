-- The entry that a committed step has.
use Rattle.std.specs.Prelude.{◌≡◌, ℕ, ◌+◌, ◌-◌, ◌/◌, ◌^◌, ◌≤◌, Bool, List, [], ◌++◌, length, take, drop, map, replicate}
use Rattle.std.specs.Prelude.{if◌then◌else◌}
use Rattle.bool_tables.specs.declared.steps.Step.{Step}
use Rattle.bool_tables.specs.declared.steps.Step.TheVariants.{Const, Var, Pair, Ite, Quantify, Restrict, Drop, Same}
use Rattle.bool_tables.specs.declared.steps.Step.TheVariants.{Leq, Eval, Size}
use Rattle.bool_tables.specs.declared.steps.Planned.{Planned}
use Rattle.bool_tables.specs.Tables.{same_bits, is_leq}
use Rattle.bool_tables.specs.Steps.{eval_at}
use Rattle.bool_tables.specs.Plans.{makes_diagram, operands}
use Rattle.file_numbers.specs.Files.{inner_part}
use Rattle.catalogue.specs.declared.layout.Entry.{Entry}
use Rattle.catalogue.specs.Entries.{IsEntry}
use Rattle.step_work.specs.Works.{work_for}
use Rattle.sound_image.specs.Jobs.{Job, step_at, table_at, nodes_at}

-- 1 for a diagram, 2 for a drop, 3 for an answer
abbrev pub kind_of : Step → ℕ
kind_of (Const value) = 1
kind_of (Var level) = 1
kind_of (Pair op left right) = 1
kind_of (Ite test if_one if_zero) = 1
kind_of (Quantify kind operand level) = 1
kind_of (Restrict operand level value) = 1
kind_of (Drop gone) = 2
kind_of (Same left right) = 3
kind_of (Leq left right) = 3
kind_of (Eval operand at) = 3
kind_of (Size operand) = 3

abbrev pub bit_of : Bool → ℕ
bit_of value = if value then 1 else 0

-- whether two functions are equal, whether one implies the other, or a function's value; 0 where nothing of that kind
-- is asked
abbrev pub answer_of : Job → Step → ℕ
answer_of job (Const value) = 0
answer_of job (Var level) = 0
answer_of job (Pair op left right) = 0
answer_of job (Ite test if_one if_zero) = 0
answer_of job (Quantify kind operand level) = 0
answer_of job (Restrict operand level value) = 0
answer_of job (Drop gone) = 0
answer_of job (Same left right) = bit_of (same_bits (table_at job left) (table_at job right))
answer_of job (Leq left right) = bit_of (is_leq (table_at job left) (table_at job right))
answer_of job (Eval operand at) = bit_of (eval_at job.n job.text (table_at job operand) at)
answer_of job (Size operand) = 0

-- the number of nodes of a diagram and of a size's operand, and the step that a drop names
abbrev pub count_of : Job → ℕ → Step → ℕ
count_of job k (Const value) = nodes_at job k
count_of job k (Var level) = nodes_at job k
count_of job k (Pair op left right) = nodes_at job k
count_of job k (Ite test if_one if_zero) = nodes_at job k
count_of job k (Quantify kind operand level) = nodes_at job k
count_of job k (Restrict operand level value) = nodes_at job k
count_of job k (Drop gone) = gone
count_of job k (Same left right) = 0
count_of job k (Leq left right) = 0
count_of job k (Eval operand at) = 0
count_of job k (Size operand) = nodes_at job operand

-- the name that the script gives a diagram, and none for other steps
abbrev pub name_of : Job → Planned → List ℕ
name_of job planned = if makes_diagram planned.step then take planned.name_len (drop planned.name_at job.text) else []

-- the work of a step, in turns
abbrev pub work_of : Job → Step → ℕ
work_of job step = work_for job.n step (map (table_at job) (operands step))

-- the entry of step k: its number, its kind, answer, count and name, its turns, which are within its work, and the next
-- part number at its commit, of which few were taken for so many turns
pub record IsEntryOfStep (job : Job) (k : ℕ) (e : Entry) : Type 0 where
  pub entry_is : IsEntry e
  pub number_is : e.number ≡ k
  pub kind_is : e.kind ≡ kind_of (step_at job k).step
  pub answer_is : e.answer ≡ answer_of job (step_at job k).step
  pub count_is : e.count ≡ count_of job k (step_at job k).step
  pub name_len_is : e.name_len ≡ length (name_of job (step_at job k))
  pub name_is : e.name ≡ name_of job (step_at job k) ++ replicate (63 - length (name_of job (step_at job k))) 0
  pub turns_are : (1 ≤ e.turns) × (e.turns ≤ work_of job (step_at job k).step)
  pub parts_are : (inner_part ≤ e.parts) × (e.parts ≤ 2 ^ 32) × (e.parts ≤ 1024 + e.turns / 16)
