-- The sweeps of a step that makes a diagram, as they are seen: a copy, the sweep that makes arcs, and the reduction.
use Rattle.std.specs.Prelude.{ℕ, List}
use Rattle.sweep_core.specs.declared.sweep.Sweep as sweep
use Rattle.copy_sweep.specs.declared.copy.CopySweep.{CopySweep}
use Rattle.copy_sweep.specs.declared.copy.CopyTask.{CopyTask}
use Rattle.copy_sweep.specs.Copies as copies
use Rattle.copy_sweep.specs.Resumes as saved_copies
use Rattle.copy_sweep.specs.Resumes.{copy_saving}
use Rattle.sweep_operations.specs.declared.steps.StepOperation.{StepOperation}
use Rattle.top_down_sweep.specs.Beginning as top_down
use Rattle.top_down_sweep.specs.Calls.{IsInStep, IsTrusted}
use Rattle.top_down_sweep.specs.Damage as arcs
use Rattle.top_down_sweep.specs.Fuel.{fuel_of}
use Rattle.top_down_sweep.specs.Making.{accounts_along}
use Rattle.sweep_operations.specs.Operations.{rule_of, begins_of}
use Rattle.top_down_sweep.specs.Resumes as saved_arcs
use Rattle.top_down_sweep.specs.Resumes.{top_saving}
use Rattle.top_down_sweep.specs.Sweeps.{SweepTask, whole_task, accounts}
use Rattle.top_down_sweep.specs.Trusting.{sweep_trusted}
use Rattle.table_work.specs.declared.sweep.TableSweep.{TableSweep}
use Rattle.table_work.specs.Jobs.{TableWork, MakesWithin, turns_of}
use Rattle.table_work.specs.TableSaving.{table_saving}
use Rattle.table_work.specs.Tables.{sweep_of}
use Rattle.reduce_sweep.specs.declared.reduce.ReduceSweep.{ReduceSweep}
use Rattle.reduce_sweep.specs.Calls as reductions
use Rattle.reduce_sweep.specs.Damage.{IsDamage}
use Rattle.reduce_sweep.specs.Remaining.{Diagram, RemainsOf}
use Rattle.reduce_sweep.specs.RemainingLaws.{lists_remain}
use Rattle.reduce_sweep.specs.Resumes as saved_reductions
use Rattle.reduce_sweep.specs.Resumes.{reduce_saving}
use Rattle.reduce_sweep.specs.Sweeps as reduce
use Rattle.resumable.specs.Diagrams.{step_words}

abbrev pub copy_kind : sweep.Ghosts CopySweep
copy_kind = record {
  Job = List ℕ;
  remains = copies.Copies;
  fuel = copies.fuel_of;
  left = λ s world bytes. copies.left_of s;
  accounts = copies.accounts;
  damaged = λ s world e. copies.IsFailure e;
  blames = saved_copies.Blames;
  Task = CopyTask;
  task = λ s. s.task;
  saving = copy_saving;
  ready = copies.IsReady;
  in_step = copies.IsInStep;
  trusts = copies.HasCopied;
  trusted = λ s world bytes is. is.copied;
}

abbrev pub arcs_kind : sweep.Ghosts (TableSweep StepOperation)
arcs_kind = record {
  Job = TableWork;
  remains = λ s world job. MakesWithin rule_of begins_of (sweep_of s) world job;
  fuel = λ s. fuel_of (sweep_of s);
  left = λ s world job. turns_of (sweep_of s) world job;
  accounts = accounts_along sweep_of (accounts StepOperation);
  damaged = λ s world e. arcs.IsDamage rule_of begins_of (sweep_of s) world e;
  blames = saved_arcs.Blames step_words;
  Task = SweepTask × StepOperation;
  task = λ s. whole_task (sweep_of s);
  saving = table_saving (top_saving step_words rule_of begins_of);
  ready = λ s. top_down.IsReady (sweep_of s);
  in_step = λ s world. IsInStep (sweep_of s) world;
  trusts = λ s world. IsTrusted rule_of begins_of (sweep_of s) world;
  trusted = λ s world job is. sweep_trusted rule_of begins_of (sweep_of s) world is.makes.task is.makes.remains;
}

abbrev pub reduce_kind : sweep.Ghosts ReduceSweep
reduce_kind = record {
  Job = Diagram;
  remains = RemainsOf;
  fuel = reduce.turns_left;
  left = λ s world d. reduce.turns_left s;
  accounts = reduce.accounts;
  damaged = IsDamage;
  blames = saved_reductions.Blames;
  Task = reduce.Task;
  task = reduce.task_of;
  saving = reduce_saving;
  ready = reduce.IsSound;
  in_step = reductions.IsInStep;
  trusts = reductions.HasLists;
  trusted = lists_remain;
}
