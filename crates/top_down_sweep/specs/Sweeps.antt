-- What is seen of a sweep from the root down, and what it keeps between turns.
use Rattle.std.specs.Prelude.{◌≡◌, ◌⊎◌, ℕ, ◌==◌, ◌||◌, ◌^◌, ◌≤◌, Bool, true, false, Option, Some, None, IsSome}
use Rattle.std.specs.Prelude.{IfSome}
use Rattle.file_numbers.specs.Files.{checkpoint_file}
use Rattle.shelf_model.specs.declared.file_no.FileNo.{FileNo}
use Rattle.shelf_model.specs.declared.sort_fault.SortFault.{SortFault}
use Rattle.shelf_model.specs.declared.sort_fault.SortFault.TheVariants.{Shelf, Damaged, RunsSpent}
use Rattle.rec_words.specs.Words.{level_of, terminal}
use Rattle.arc_file.specs.declared.unreduced.Unreduced.{Unreduced}
use Rattle.arc_file.specs.declared.writer.ArcWriter.{ArcWriter}
use Rattle.arc_file.specs.Writers as arcs
use Rattle.run_tiers.specs.declared.parts.Parts.{Parts}
use Rattle.run_tiers.specs.Parts.{WasTaken}
use Rattle.level_queue.specs.Queues as queues
use Rattle.sweep_core.specs.Accounts.{Accounts, CanBeTaken}
use Rattle.sweep_core.specs.declared.turn.Turn.{Turn}
use Rattle.sweep_core.specs.declared.turn.Turn.TheVariants as turn
use Rattle.tuple_asks.specs.declared.ask.Ask.{Ask}
use Rattle.tuple_asks.specs.declared.place.Phase.{Phase}
use Rattle.tuple_asks.specs.declared.place.Phase.TheVariants.{Fresh, Asking, Ended}
use Rattle.top_down_sweep.specs.declared.machine.Machine.{Machine}
use Rattle.tuple_asks.specs.declared.files.Files.{Files}
use Rattle.top_down_sweep.specs.declared.sweep.TopDownSweep.{TopDownSweep}
use Rattle.tuple_asks.specs.Items.{ask_words, IsAsk}
use Rattle.tuple_asks.specs.Operands.{IsRead, AreOperands}

-- its files
abbrev pub files_in : Machine → Files
files_in m = record {
  first = m.operands.first.file;
  second = m.operands.second.file;
  third = m.operands.third.file;
  inner = arcs.inner_file m.writer;
  ends = arcs.ends_file m.writer;
}

-- what no turn changes: the files, and of how many variables the diagrams are
pub record SweepTask : Type 0 where
  pub files : Files
  pub variables : ℕ

abbrev pub task_in : Machine → SweepTask
task_in m = record { files = files_in m; variables = m.place.variables }

-- it makes the two files of arcs
abbrev pub IsMade : Files → FileNo → Type 0
IsMade files f = (f ≡ files.inner) ⊎ (f ≡ files.ends)

abbrev pub machine_accounts : Accounts Machine
machine_accounts = record {
  makes = λ m f. IsMade (files_in m) f;
  step = λ m. m.parts.step;
  next = λ m. m.parts.next;
  credit = λ m. queues.credit m.queue;
  stock = λ m. queues.stock m.queue;
}

-- the queue holds asks, its runs have parts that were taken, and the files of arcs have none that can be taken, and are
-- no runs
pub record IsServed (m : Machine) : Type 0 where
  pub values : queues.HoldsValues IsAsk ask_words m.queue
  pub serves : queues.Serves m.parts m.queue
  pub inner_made : ¬ CanBeTaken m.parts.step m.parts.next (arcs.inner_file m.writer)
  pub ends_made : ¬ CanBeTaken m.parts.step m.parts.next (arcs.ends_file m.writer)
  pub inner_apart : ¬ queues.IsRunOf m.queue (arcs.inner_file m.writer)
  pub ends_apart : ¬ queues.IsRunOf m.queue (arcs.ends_file m.writer)

-- the arcs that were made stand in these files, and are few
pub record HasMade (inner ends : FileNo) (made : Unreduced) : Type 0 where
  pub inner_is : made.inner ≡ inner
  pub ends_are : made.ends ≡ ends
  pub inner_few : made.inner_count ≤ 2 ^ 46
  pub ends_few : made.ends_count ≤ 2 ^ 46

-- at first nothing was taken or read; the numbers of a level are no more than the arcs to nodes
abbrev pub IsPhaseAt : ArcWriter → Option Ask → Phase → Type 0
IsPhaseAt w last Fresh = last ≡ None
IsPhaseAt w last (Asking s) = IfSome s.last (λ x. x.number ≤ arcs.inner_count w)
IsPhaseAt w last (Ended made) = HasMade (arcs.inner_file w) (arcs.ends_file w) made

-- what is true of it whatever the folder holds
pub record IsSoundMachine (m : Machine) : Type 0 where
  pub served : IsServed m
  pub operands : AreOperands m.place.variables m.operands
  pub phase : IsPhaseAt m.writer (queues.last_of m.queue) m.place.phase

-- why it can't go on: a call of the folder failed, an operand is damaged, a file whose part was taken or the
-- checkpoints of its step, or no part number is left
abbrev pub Refuses : Machine → SortFault → Type 0
Refuses m Shelf = Unit
Refuses m (Damaged f at) = IsRead (files_in m) f ⊎ (WasTaken m.parts f ⊎ (f ≡ checkpoint_file m.parts.step))
Refuses m RunsSpent = 2 ^ 32 ≤ m.parts.next

-- what it made, once it has ended
abbrev pub made_at : Phase → Option Unreduced
made_at Fresh = None
made_at (Asking s) = None
made_at (Ended made) = Some made

-- asks are answered, or all is done
abbrev pub IsAsking : Phase → Type 0
IsAsking Fresh = ⊥
IsAsking (Asking s) = Unit
IsAsking (Ended made) = ⊥

abbrev pub HasEnded : Phase → Type 0
HasEnded Fresh = ⊥
HasEnded (Asking s) = ⊥
HasEnded (Ended made) = Unit

-- what a turn answers tells whether all is done
abbrev pub EndsAt : Turn → Phase → Type 0
EndsAt turn.More phase = IsAsking phase
EndsAt turn.Ended phase = HasEnded phase

-- the last ask that was taken is of no level below that one
abbrev pub IsTakenTo : ℕ → Option Ask → Type 0
IsTakenTo level last = IfSome last (λ a. level_of a.key ≤ level)

-- the files of a sweep, the part numbers that weren't taken, and what it made
abbrev pub files_of : {O : Type 0} → TopDownSweep O → Files
files_of s = files_in s.machine

abbrev pub parts_of : {O : Type 0} → TopDownSweep O → Parts
parts_of s = s.machine.parts

-- of how many variables the diagrams are
abbrev pub variables_of : {O : Type 0} → TopDownSweep O → ℕ
variables_of s = s.machine.place.variables

abbrev pub task_of : {O : Type 0} → TopDownSweep O → SweepTask
task_of s = task_in s.machine

-- with the operation, it is what no turn changes
abbrev pub whole_task : {O : Type 0} → TopDownSweep O → SweepTask × O
whole_task s = (task_of s, s.operation)

abbrev pub made_in : {O : Type 0} → TopDownSweep O → Option Unreduced
made_in s = made_at s.machine.place.phase

abbrev pub credit_of : {O : Type 0} → TopDownSweep O → ℕ
credit_of s = queues.credit s.machine.queue

abbrev pub stock_of : {O : Type 0} → TopDownSweep O → ℕ
stock_of s = queues.stock s.machine.queue

abbrev pub IsSound : {O : Type 0} → TopDownSweep O → Type 0
IsSound s = IsSoundMachine s.machine

abbrev pub Refused : {O : Type 0} → TopDownSweep O → SortFault → Type 0
Refused s e = Refuses s.machine e

-- the truth value 1 was met: an arc that was put leads to it or, once all is made, it is the root
abbrev pub has_root_one : Option Unreduced → Bool
has_root_one None = false
has_root_one (Some made) = made.root == terminal true

abbrev pub meets_one : {O : Type 0} → TopDownSweep O → Bool
meets_one s = s.machine.place.has_one || has_root_one (made_in s)

-- what a sweep of that kind may change, and what it owes
abbrev pub accounts : (O : Type 0) → Accounts (TopDownSweep O)
accounts O = record {
  makes = λ s f. IsMade (files_in s.machine) f;
  step = λ s. s.machine.parts.step;
  next = λ s. s.machine.parts.next;
  credit = λ s. queues.credit s.machine.queue;
  stock = λ s. queues.stock s.machine.queue;
}

-- what a turn answers tells whether it is known what was made
abbrev pub MakesAtEnd : Turn → Option Unreduced → Type 0
MakesAtEnd turn.More made = made ≡ None
MakesAtEnd turn.Ended made = IsSome made
