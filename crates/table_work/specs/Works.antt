-- The operations on canonical files as tasks, with the tuples that they meet.
use Rattle.std.specs.Prelude.{◌≡◌, ◌≤◌, ℕ, ◌*◌, Bool, List, length}
use Rattle.shelf_model.specs.World.{World}
use Rattle.bool_tables.specs.Steps.{step_table}
use Rattle.bool_tables.specs.declared.steps.Step.{Step}
use Rattle.step_work.specs.Tuples.{tuple_count}
use Rattle.step_work.specs.Works as steps
use Rattle.top_down.specs.declared.tuple.Tuple.{Tuple}
use Rattle.top_down.specs.Rules.{Rule}
use Rattle.top_down_sweep.specs.declared.beginning.OperandFiles.{OperandFiles}
use Rattle.tuple_asks.specs.declared.files.Files.{Files}
use Rattle.sweep_operations.specs.declared.steps.StepOperation.{StepOperation}
use Rattle.top_down_sweep.specs.Meaning.{table_of, IsTaskOn}
use Rattle.sweep_operations.specs.Operations.{rule_of, begins_of, step_of, IsWithin}
use Rattle.top_down_sweep.specs.Turns.{Work, nodes_of}
use Rattle.top_down_sweep.specs.Waiting.{AreApart}
use Rattle.table_work.specs.Given.{Tables, used_by, AreGiven}

-- a task of the step's table on these files, with tuples among which are all that it meets: no more than the step joins
-- of these tables; its diagrams have no more than three times the tables' nodes
pub record IsWorkOn (rule : Rule) (begins : Tuple → Tuple) (n : ℕ) (files : Files) (number : ℕ) (world : World)
    (step : Step) (tables : List (List Bool)) : Type 0 where
  pub work : Work
  pub on_files : IsTaskOn work.task rule begins n files number world
  pub table_is : table_of work.task ≡ step_table n tables step
  pub few_tuples : length work.tuples ≤ tuple_count n step tables
  pub few_nodes : nodes_of work.task.diagrams ≤ 3 * steps.nodes_of n tables

-- the operands among a sweep's files
abbrev pub operands_of : Files → OperandFiles
operands_of files = record { first = files.first; second = files.second; third = files.third }

-- an operation on canonical files that it doesn't write is such a task, of its step's table
abbrev pub GivenIsWork : Type 0
GivenIsWork = (operation : StepOperation) (n : ℕ) (files : Files) (number : ℕ) (world : World) (g : Tables)
    → AreGiven operation n (operands_of files) world g → IsWithin n operation → AreApart files number
    → IsWorkOn (rule_of operation) (begins_of operation) n files number world (step_of operation)
    (used_by operation g)
