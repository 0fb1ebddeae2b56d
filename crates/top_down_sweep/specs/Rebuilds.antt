-- A machine that is saved, and what is rebuilt of it.
use Rattle.std.specs.Prelude.{ℕ, ◌≤◌, Option, Some, None}
use Rattle.shelf_model.specs.World.{World}
use Rattle.arc_file.specs.declared.unreduced.Unreduced.{Unreduced}
use Rattle.level_queue.specs.Queues.{last_of}
use Rattle.top_down.specs.declared.tuple.Tuple.{Tuple}
use Rattle.top_down.specs.Rules.{Rule}
use Rattle.tuple_asks.specs.declared.place.Asking.{Asking}
use Rattle.tuple_asks.specs.declared.place.Phase.{Phase}
use Rattle.tuple_asks.specs.declared.place.Phase.TheVariants as phases
use Rattle.top_down_sweep.specs.declared.machine.Machine.{Machine}
use Rattle.tuple_asks.specs.declared.saved.SavedMachine.{SavedMachine}
use Rattle.top_down_sweep.specs.Meaning.{Task, IsTaskOn, RemainsOf}
use Rattle.top_down_sweep.specs.Sweeps.{files_in}
use Rattle.top_down_sweep.specs.Turns.{turns_left}
use Rattle.tuple_asks.specs.Resuming.{saved_operand}

-- what is known while asks are answered
abbrev pub asking_in : Phase → Option Asking
asking_in phases.Fresh = None
asking_in (phases.Asking s) = Some s
asking_in (phases.Ended made) = None

-- what is saved of a machine whose files have these arcs
abbrev pub saved_machine : Machine → Unreduced → SavedMachine
saved_machine m made = record {
  variables = m.place.variables;
  has_one = m.place.has_one;
  first = saved_operand m.operands.first;
  second = saved_operand m.operands.second;
  third = saved_operand m.operands.third;
  arcs = record {
    inner = made.inner;
    inner_count = made.inner_count;
    ends = made.ends;
    ends_count = made.ends_count;
  };
  asking = asking_in m.place.phase;
  taken = last_of m.queue;
}

-- the operation on the machine's files is the task, what is left of it remains, and no more turns do
pub record Restores (t : Task) (rule : Rule) (begins : Tuple → Tuple) (m : Machine) (world : World) (tuples turns : ℕ)
    : Type 0 where
  pub on_files : IsTaskOn t rule begins m.place.variables (files_in m) m.parts.step world
  pub left : RemainsOf t begins m world
  pub few : turns_left m world tuples ≤ turns
