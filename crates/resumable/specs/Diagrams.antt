-- When a step that makes a diagram goes on from its last gated checkpoint, in which of its ways it may be. A reading
-- gives the bytes of each file.
use Rattle.std.specs.Prelude.{◌≡◌, ◌⊎◌, ℕ, zero, suc, ◌+◌, ◌*◌, ◌<◌, ◌≤◌, Bool, List, length}
use Rattle.bool_tables.specs.Steps.{step_table}
use Rattle.shelf_model.specs.declared.file_no.FileNo.{FileNo}
use Rattle.canon_file.specs.Canon.{canon_bytes}
use Rattle.canon_file.specs.Laws.{HasForm}
use Rattle.file_numbers.specs.Files.{node_file, inner_file, ends_file}
use Rattle.file_writes.specs.Writes.{pieces}
use Rattle.saved_words.specs.declared.carried.Carried.{Ghosts}
use Rattle.step_work.specs.Tuples.{tuple_count}
use Rattle.step_work.specs.Works.{nodes_of, work_for}
use Rattle.sweep_core.specs.declared.checkpoint.Checkpoint.{Checkpoint}
use Rattle.sweep_core.specs.Saving.{Saving}
use Rattle.sweep_checkpoint.specs.Going.{GoesOn}
use Rattle.copy_sweep.specs.declared.copy.CopyTask.{CopyTask}
use Rattle.copy_sweep.specs.Resumes.{copy_saving}
use Rattle.top_down_sweep.specs.declared.beginning.OperandFiles.{OperandFiles}
use Rattle.sweep_operations.specs.declared.steps.StepOperation.{StepOperation}
use Rattle.sweep_operations.specs.declared.steps.StepOperation.TheVariants.{Choice}
use Rattle.sweep_operations.specs.Operations.{rule_of, begins_of, step_of}
use Rattle.sweep_operations.specs.OperationWords.{step_spelling}
use Rattle.top_down_sweep.specs.Resumes.{top_saving}
use Rattle.top_down_sweep.specs.Sweeps.{SweepTask}
use Rattle.table_work.specs.Given.{Tables, used_by}
use Rattle.table_work.specs.Jobs.{TableWork}
use Rattle.table_work.specs.TableSaving.{table_saving, saving_of}
use Rattle.table_work.specs.Tables.{work_of}
use Rattle.reduce_sweep.specs.Remaining.{Diagram}
use Rattle.reduce_sweep.specs.Resumes as reductions
use Rattle.reduce_sweep.specs.Resumes.{reduce_saving}
use Rattle.reduce_sweep.specs.Sweeps as reduce

-- the table that an operation makes of these
abbrev pub made_by : StepOperation → ℕ → Tables → List Bool
made_by operation n g = step_table n (used_by operation g) (step_of operation)

-- how many tuples of their pieces the operation joins, how many nodes they have, and the turns that this may take
abbrev pub tuples_by : StepOperation → ℕ → Tables → ℕ
tuples_by operation n g = tuple_count n (step_of operation) (used_by operation g)

abbrev pub nodes_by : StepOperation → ℕ → Tables → ℕ
nodes_by operation n g = nodes_of n (used_by operation g)

abbrev pub work_by : StepOperation → ℕ → Tables → ℕ
work_by operation n g = work_for n (step_of operation) (used_by operation g)

-- the words of a step's operation
abbrev pub step_words : Ghosts StepOperation
step_words = record {
  count = step_spelling.count;
  words = step_spelling.words;
  is_value = step_spelling.is_value;
}

-- what is seen of the checkpoints of the sweep that makes a step's arcs: of its files and variables, whatever the
-- operation
abbrev pub arcs_saving : Saving SweepTask TableWork
arcs_saving = saving_of Choice (table_saving (top_saving step_words rule_of begins_of))

-- the arcs of a step of n variables, and its operands
abbrev pub arcs_of : ℕ → OperandFiles → ℕ → SweepTask
arcs_of n operands number = record {
  files = record {
    first = operands.first;
    second = operands.second;
    third = operands.third;
    inner = inner_file number;
    ends = ends_file number;
  };
  variables = n;
}

-- the copy of all pieces of a file of these bytes into the step's node file
abbrev pub copy_of : FileNo → ℕ → List ℕ → CopyTask
copy_of from number bytes = record { from = from; to = node_file number; pieces = pieces (length bytes) }

-- an operand's file, whose bytes are those of the step's table, which has a canonical form, is copied. The turns that
-- were made, those that remain and the one that ends the copy are within the step's work
pub record CopyGoesOn (operation : StepOperation) (n : ℕ) (operands : OperandFiles) (number : ℕ) (g : Tables)
    (r : FileNo → List ℕ) : Type 0 where
  pub from : FileNo
  pub operand : (from ≡ operands.first) ⊎ (from ≡ operands.second)
  pub form : HasForm n (made_by operation n g)
  pub turns : ℕ
  pub goes_on : GoesOn copy_saving number 0 (copy_of from number (canon_bytes n (made_by operation n g)))
      (canon_bytes n (made_by operation n g)) turns r
  pub few : turns < work_by operation n g

-- the step's operation on its operands makes arcs of its table. With the most that a reduction of as many sources as
-- tuples are joined takes behind them, the turns are within the step's work
pub record ArcsGoOn (operation : StepOperation) (n : ℕ) (operands : OperandFiles) (number : ℕ) (g : Tables)
    (r : FileNo → List ℕ) : Type 0 where
  pub turns : ℕ
  pub goes_on : GoesOn arcs_saving number 0 (arcs_of n operands number) (work_of operation n g) turns r
  pub few : turns + (10 * tuples_by operation n g + 10) ≤ work_by operation n g

-- the step's arcs are reduced to its node file, which is that of the table, and that has a canonical form
pub record ReductionGoesOn (n number : ℕ) (table : List Bool) (work : ℕ) (r : FileNo → List ℕ) : Type 0 where
  pub task : reduce.Task
  pub inner_own : task.inner.step ≡ number
  pub ends_own : task.ends.step ≡ number
  pub diagram : Diagram
  pub table_is : diagram.table ≡ table
  pub form : HasForm n table
  pub turns : ℕ
  pub goes_on : GoesOn reduce_saving number 1 task diagram turns r
  pub makes : reductions.Makes goes_on.point (node_file number) n
  pub few : turns < work

-- a step that makes a diagram goes on in one of these ways
abbrev pub DiagramGoesOn : StepOperation → ℕ → OperandFiles → ℕ → Tables → (FileNo → List ℕ) → Type 0
DiagramGoesOn operation n operands number g r = CopyGoesOn operation n operands number g r
    ⊎ (ArcsGoOn operation n operands number g r
    ⊎ ReductionGoesOn n number (made_by operation n g) (work_by operation n g) r)

-- a checkpoint of such a step rests on so many first bytes of the file: of its first sweep one that has no tables is a
-- copy's, and one that has is that of the sweep that makes arcs
abbrev pub first_rests : ℕ → Checkpoint → FileNo → ℕ → Type 0
first_rests zero c f many = copy_saving.rests c f many
first_rests (suc k) c f many = arcs_saving.rests c f many

abbrev pub rests_at : ℕ → Checkpoint → FileNo → ℕ → Type 0
rests_at zero c f many = first_rests c.tables c f many
rests_at (suc k) c f many = reduce_saving.rests c f many

abbrev pub diagram_rests : Checkpoint → FileNo → ℕ → Type 0
diagram_rests c f many = rests_at c.sweep c f many
