-- How many turns remain of a task, where the folder tells its content.
use Rattle.std.specs.Prelude.{ℕ, ◌+◌, ◌-◌, ◌*◌, ◌≤◌, List, length, slice_index, Option, Some, None, Result}
use Rattle.std.specs.List.{sum_by}
use Rattle.rec_words.specs.declared.rec.Rec.{Rec}
use Rattle.shelf_model.specs.World.{World}
use Rattle.shelf_model.specs.declared.sort_fault.SortFault.{SortFault}
use Rattle.sweep_core.specs.declared.turn.Turn.{Turn}
use Rattle.sweep_core.specs.Sweeps.{MovesOn}
use Rattle.canon_file.specs.Members.{Has}
use Rattle.arc_file.specs.Writers.{inner_count, ends_count}
use Rattle.level_queue.specs.Queues.{held}
use Rattle.level_queue.specs.Records.{records_of}
use Rattle.top_down.specs.declared.tuple.Tuple.{Tuple}
use Rattle.top_down_laws.specs.Forms.{Form}
use Rattle.top_down_laws.specs.Readings.{Diagrams, targets_in}
use Rattle.top_down_laws.specs.Remains.{IsMet}
use Rattle.top_down_laws.specs.Turns.{stages}
use Rattle.tuple_asks.specs.declared.place.Numbered.{Numbered}
use Rattle.tuple_asks.specs.declared.place.Phase.{Phase}
use Rattle.tuple_asks.specs.declared.place.Phase.TheVariants as phases
use Rattle.top_down_sweep.specs.declared.machine.Machine.{Machine}
use Rattle.top_down_sweep.specs.declared.sweep.TopDownSweep.{TopDownSweep}
use Rattle.top_down_sweep.specs.Fuel.{unread}
use Rattle.tuple_asks.specs.declared.place.Asking.{Asking}
use Rattle.top_down_sweep.specs.Meaning.{Task, IsWorking, WorksOn}

-- among these tuples are all that the task meets
abbrev pub AllMet : Task → List Tuple → Type 0
AllMet t tuples = (x : Tuple) → IsMet t.rule (targets_in t.diagrams) t.roots x → Has x tuples

-- a task, with such tuples
pub record Work : Type 0 where
  pub task : Task
  pub tuples : List Tuple
  pub all_met : AllMet task tuples

-- how many nodes the diagrams have
abbrev pub nodes_of : Diagrams → ℕ
nodes_of d = length d.first + (length d.second + length d.third)

-- the form of an ask's record
abbrev pub form_in : Rec → Form
form_in r = record {
  key = slice_index r.w 0;
  first = record { low = slice_index r.w 1; high = slice_index r.w 2 };
  second = record { low = slice_index r.w 3; high = slice_index r.w 4 };
  third = record { low = slice_index r.w 5; high = slice_index r.w 6 };
}

-- the nodes that weren't read, and how often the asks that wait are still taken, at most
abbrev pub owed_by : Machine → World → ℕ
owed_by m world = unread m.operands
    + sum_by (λ r. stages (form_in r)) (records_of m.queue world)

-- how many sides the tuples have that were numbered: each has an arc or an ask
abbrev pub sides_at : Option Numbered → Machine → ℕ
sides_at None m = 0
sides_at (Some x) m = inner_count m.writer + (ends_count m.writer + held m.queue)

-- no more turns than these remain where so many tuples are met: six for each, less three for each
-- side that has an arc or an ask, what is owed, and one
abbrev pub left_at : Phase → Machine → World → ℕ → ℕ
left_at phases.Fresh m world tuples = 6 * tuples + unread m.operands + 5
left_at (phases.Asking s) m world tuples = 6 * tuples + owed_by m world + 1 - 3 * sides_at s.last m
left_at (phases.Ended made) m world tuples = 0

abbrev pub turns_left : Machine → World → ℕ → ℕ
turns_left m world tuples = left_at m.place.phase m world tuples

-- one turn less remains
abbrev pub HasFewer : Task → Phase → Machine → World → Phase → Machine → World → Type 0
HasFewer t p m old r q new = (tuples : List Tuple) → AllMet t tuples
    → left_at r q new (length tuples) + 1 ≤ left_at p m old (length tuples)

-- the machine works on, and one turn less remains
abbrev pub Advances : Task → Asking → Machine → World → Machine → World → Type 0
Advances t s m old q new = WorksOn t q new
    × HasFewer t (phases.Asking s) m old q.place.phase q new

-- so it does while the same tuple was numbered last
abbrev pub AdvancesAt : Task → Asking → Machine → World → Machine → World → Type 0
AdvancesAt t s m old q new = IsWorking t s q new
    × HasFewer t (phases.Asking s) m old (phases.Asking s) q new

-- after a turn fewer remain, and none where it ended
abbrev pub TurnsFall : Task → Phase → Machine → World → Machine → World → Result Turn SortFault
    → Type 0
TurnsFall t p m old q new result = (tuples : List Tuple) → AllMet t tuples
    → MovesOn 1 (left_at p m old (length tuples)) (turns_left q new (length tuples)) result

abbrev pub left_of : {O : Type 0} → TopDownSweep O → World → Work → ℕ
left_of s world work = turns_left s.machine world (length work.tuples)
