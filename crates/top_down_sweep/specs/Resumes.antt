-- The rules of the checkpoints of sweeps from the root down, what these rest on, and what they stand for.
use Rattle.std.specs.Prelude.{◌≡◌, ℕ, ◌+◌, ◌-◌, ◌*◌, ◌/◌, ◌≤◌, List, [], ◌∷◌, length, map, Option, Some, None}
use Rattle.shelf_model.specs.declared.file_no.FileNo.{FileNo}
use Rattle.shelf_model.specs.declared.sort_fault.SortFault.{SortFault}
use Rattle.shelf_model.specs.World.{World}
use Rattle.arc_file.specs.declared.arc.Arc.{Arc}
use Rattle.arc_file.specs.Arcs.{arc_size}
use Rattle.arc_file.specs.Files.{BeginWith}
use Rattle.node_reading.specs.Reading.{count_of}
use Rattle.run_tiers.specs.declared.run.RunTable.{RunTable}
use Rattle.run_tiers.specs.declared.parts.Parts.{Parts}
use Rattle.level_queue.specs.Tables.{AreTables, ServeTables, IsBeforeAnyEnd, TablesShow}
use Rattle.saved_words.specs.declared.carried.Carried.{Ghosts}
use Rattle.saved_words.specs.Fronts.{IsFront}
use Rattle.saved_words.specs.Joined.{pair_words, IsPair}
use Rattle.sweep_core.specs.declared.checkpoint.Checkpoint.{Checkpoint}
use Rattle.sweep_core.specs.Saving.{Saving}
use Rattle.top_down.specs.declared.tuple.Tuple.{Tuple}
use Rattle.top_down.specs.Rules.{Rule}
use Rattle.top_down_laws.specs.Readings.{Diagrams}
use Rattle.top_down_laws.specs.Turns.{unread_count, owed}
use Rattle.tuple_asks.specs.declared.ask.Ask.{Ask}
use Rattle.tuple_asks.specs.declared.place.Numbered.{Numbered}
use Rattle.tuple_asks.specs.declared.place.Asking.{Asking}
use Rattle.tuple_asks.specs.declared.saved.SavedArcs.{SavedArcs}
use Rattle.tuple_asks.specs.declared.saved.SavedMachine.{SavedMachine}
use Rattle.tuple_asks.specs.Items.{ask_words, IsAsk, ask_cmp}
use Rattle.top_down_sweep.specs.Meaning.{Task, waiting_of, some_one, IsLeft, IsTaskOver}
use Rattle.tuple_asks.specs.Saved.{machine_spelling}
use Rattle.top_down_sweep.specs.Sweeps.{SweepTask}
use Rattle.tuple_asks.specs.Operands.{IsRead}
use Rattle.top_down_sweep.specs.Turns.{Work}
use Rattle.tuple_asks.specs.Resuming.{saved_files, readings_at, AreAmong, IsCause}
use Rattle.tuple_asks.specs.SavedRules.{table_in, KeepsRules}

-- the first words of the checkpoint are those of a machine, and of an operation
abbrev pub Holds : {O : Type 0} → Ghosts O → Checkpoint → SavedMachine → O → Type 0
Holds o c m operation = IsFront (machine_spelling.count + o.count) (pair_words machine_spelling.words o.words)
    (IsPair machine_spelling.is_value o.is_value) (m, operation) c.carry

abbrev pub queue_tables : Checkpoint → List RunTable
queue_tables c = table_in c 0 ∷ table_in c 1 ∷ table_in c 2 ∷ []

-- the part numbers that no sweep of the step had taken
abbrev pub parts_at : Checkpoint → Parts
parts_at c = record { step = c.step; next = c.next_part }

-- it has the three tables of a queue, which its parts can serve
pub record HasQueue (c : Checkpoint) : Type 0 where
  pub tables : c.tables ≡ 3
  pub are : AreTables (queue_tables c)
  pub served : ServeTables (parts_at c) (queue_tables c)

-- its words are those of a machine and an operation, by these rules, and it has the tables of a queue
pub record Fits {O : Type 0} (o : Ghosts O) (c : Checkpoint) : Type 0 where
  pub queue : HasQueue c
  pub saved : SavedMachine
  pub operation : O
  pub holds : Holds o c saved operation
  pub rules : KeepsRules c saved

-- a sweep rests on its operands, on the arcs that were put, and on the runs of its queue
pub data IsRest (c : Checkpoint) (m : SavedMachine) (f : FileNo) (n : ℕ) : Type 0 where
  OnOperand : IsRead (saved_files m) f → IsRest c m f n
  OnInner : f ≡ m.arcs.inner → n ≤ m.arcs.inner_count * arc_size → IsRest c m f n
  OnEnds : f ≡ m.arcs.ends → n ≤ m.arcs.ends_count * arc_size → IsRest c m f n
  OnRun : IsBeforeAnyEnd c.step (queue_tables c) f n → IsRest c m f n

pub record RestsOn {O : Type 0} (o : Ghosts O) (c : Checkpoint) (f : FileNo) (n : ℕ) : Type 0 where
  pub saved : SavedMachine
  pub operation : O
  pub holds : Holds o c saved operation
  pub rests : IsRest c saved f n

-- where the files hold this, these asks wait, and these arcs were put
pub record Shows (c : Checkpoint) (m : SavedMachine) (r : FileNo → List ℕ) (asks : List Ask) (inner ends : List Arc)
    : Type 0 where
  pub asks_are : TablesShow IsAsk ask_words ask_cmp c.step (queue_tables c) m.taken r asks
  pub inner_are : BeginWith inner m.arcs.inner_count (r m.arcs.inner)
  pub ends_are : BeginWith ends m.arcs.ends_count (r m.arcs.ends)
  pub one_is : m.has_one ≡ some_one ends

-- how many sides the tuples have that were numbered
abbrev pub saved_sides : Option Numbered → SavedArcs → List Ask → ℕ
saved_sides None a asks = 0
saved_sides (Some x) a asks = a.inner_count + (a.ends_count + length asks)

-- nothing waits, and nothing was read or put; and no more turns remain where so many tuples are met
pub record BeginsAt (c : Checkpoint) (m : SavedMachine) (r : FileNo → List ℕ) (d : Diagrams) (tuples turns : ℕ)
    : Type 0 where
  pub shows : Shows c m r [] [] []
  pub first_unread : m.first.read ≡ None
  pub second_unread : m.second.read ≡ None
  pub third_unread : m.third.read ≡ None
  pub few : 6 * tuples + unread_count (readings_at d m) + 5 ≤ turns

-- asks wait and arcs were put that remain of the task; and no more turns remain
pub record WaitsAt (t : Task) (s : Asking) (c : Checkpoint) (m : SavedMachine) (r : FileNo → List ℕ)
    (tuples turns : ℕ) : Type 0 where
  pub asks : List Ask
  pub inner : List Arc
  pub ends : List Arc
  pub shows : Shows c m r asks inner ends
  pub left : IsLeft t s m.taken (record {
    asks = asks;
    readings = readings_at t.diagrams m;
    inner = inner;
    ends = ends;
  })
  pub few : 6 * tuples + owed (readings_at t.diagrams m) (map waiting_of asks) + 1
      - 3 * saved_sides s.last m.arcs asks ≤ turns

abbrev pub GoesOnAt : Option Asking → Task → Checkpoint → SavedMachine → (FileNo → List ℕ) → ℕ → ℕ → Type 0
GoesOnAt None t c m r tuples turns = BeginsAt c m r t.diagrams tuples turns
GoesOnAt (Some s) t c m r tuples turns = WaitsAt t s c m r tuples turns

-- the operation on the files that are read is the task, and what was done, with what is left of it, does the task, of
-- which so many tuples are met; and no more turns remain
pub record GoesOn (rule : Rule) (begins : Tuple → Tuple) (c : Checkpoint) (m : SavedMachine) (r : FileNo → List ℕ)
    (t : Task) (tuples turns : ℕ) : Type 0 where
  pub on_files : IsTaskOver t rule begins m.variables (saved_files m) c.step r
  pub among : AreAmong t.diagrams m
  pub goes_on : GoesOnAt m.asking t c m r tuples turns

pub record StandsFor {O : Type 0} (o : Ghosts O) (rule : O → Rule) (begins : O → Tuple → Tuple) (c : Checkpoint)
    (r : FileNo → List ℕ) (t : Task) (tuples turns : ℕ) : Type 0 where
  pub saved : SavedMachine
  pub operation : O
  pub holds : Holds o c saved operation
  pub goes_on : GoesOn (rule operation) (begins operation) c saved r t tuples turns

-- its words say that these files are read and made, of diagrams of so many variables
pub record Names {O : Type 0} (o : Ghosts O) (c : Checkpoint) (task : SweepTask) : Type 0 where
  pub saved : SavedMachine
  pub operation : O
  pub holds : Holds o c saved operation
  pub files_are : saved_files saved ≡ task.files
  pub variables_are : saved.variables ≡ task.variables

-- and that they are those of the operation
pub record NamesAll {O : Type 0} (o : Ghosts O) (c : Checkpoint) (operation : O) (task : SweepTask) : Type 0 where
  pub saved : SavedMachine
  pub holds : Holds o c saved operation
  pub files_are : saved_files saved ≡ task.files
  pub variables_are : saved.variables ≡ task.variables

-- an eighth of the nodes of the operands
abbrev pub reading_calls : SweepTask → (FileNo → List ℕ) → ℕ
reading_calls task r = (count_of (r task.files.first) + count_of (r task.files.second) + count_of (r task.files.third)) / 8

-- what is seen of the checkpoints of sweeps of that operation: which one it is they aren't asked
abbrev pub top_saving : {O : Type 0} → Ghosts O → (O → Rule) → (O → Tuple → Tuple) → Saving (SweepTask × O) Work
top_saving o rule begins = record {
  operands = λ task f. IsRead task.0.files f;
  text = λ task. [];
  names = λ c task. Names o c task.0;
  fits = λ c text. Fits o c;
  rests = RestsOn o;
  reading = λ task. reading_calls task.0;
  stands = λ c text r w turns. StandsFor o rule begins c r w.task (length w.tuples) turns;
}

pub record Blames {O : Type 0} (o : Ghosts O) (c : Checkpoint) (world : World) (e : SortFault) : Type 0 where
  pub saved : SavedMachine
  pub operation : O
  pub holds : Holds o c saved operation
  pub cause : IsCause c.step saved world e
