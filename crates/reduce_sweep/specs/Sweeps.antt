-- What is seen of a reduction, and what it keeps between turns.
use Rattle.std.specs.Prelude.{◌≡◌, ◌≢◌, ◌⊎◌, ℕ, ◌+◌, ◌*◌, ◌^◌, ◌≤◌, ◌<◌, Bool, true, false, Option, Some, None, IsSome}
use Rattle.shelf_model.specs.declared.file_no.FileNo.{FileNo}
use Rattle.shelf_model.specs.declared.sort_fault.SortFault.{SortFault}
use Rattle.shelf_model.specs.declared.sort_fault.SortFault.TheVariants.{Shelf, Damaged, RunsSpent}
use Rattle.block_stream.specs.Writes.{count_of}
use Rattle.node_file.specs.Writers as nodes
use Rattle.arc_file.specs.declared.arc.Arc.{Arc}
use Rattle.arc_file.specs.declared.reader.ArcReader.{ArcReader}
use Rattle.arc_file.specs.declared.unreduced.Unreduced.{Unreduced}
use Rattle.arc_file.specs.Streams.{file_of, left_of}
use Rattle.arc_file.specs.Readers.{inner_of, ends_of}
use Rattle.run_tiers.specs.declared.parts.Parts.{Parts}
use Rattle.run_tiers.specs.Parts.{WasTaken}
use Rattle.run_merge.specs.Sorters as sorters
use Rattle.level_queue.specs.Queues as queues
use Rattle.sweep_core.specs.Accounts.{Accounts}
use Rattle.sweep_core.specs.declared.turn.Turn.{Turn}
use Rattle.sweep_core.specs.declared.turn.Turn.TheVariants as turn
use Rattle.reduce_lists.specs.declared.held.Ahead.{Ahead}
use Rattle.reduce_lists.specs.declared.held.Lists.{Lists}
use Rattle.reduce_lists.specs.Held.{Held, AreServed, AreWithin}
use Rattle.reduce_sweep.specs.declared.phase.Numbered.{Numbered}
use Rattle.reduce_sweep.specs.declared.phase.Phase.{Phase}
use Rattle.reduce_sweep.specs.declared.phase.Phase.TheVariants.{Between, Collect, Number, Forward, Ended}
use Rattle.reduce_sweep.specs.declared.reduce.ReduceSweep.{ReduceSweep}

-- what it holds
abbrev pub held_of : ReduceSweep → Held
held_of r = record { ahead = r.ahead; lists = r.lists; writer = r.writer; parts = r.parts }

-- the file of the nodes
abbrev pub out_of : ReduceSweep → FileNo
out_of r = (nodes.filling_of r.writer).file

-- the file of the arcs to nodes, and that of the arcs to truth values
abbrev pub inner_file : ReduceSweep → FileNo
inner_file r = file_of (inner_of r.ahead.reader)

abbrev pub ends_file : ReduceSweep → FileNo
ends_file r = file_of (ends_of r.ahead.reader)

-- the arcs that it began with
abbrev pub arcs_of : ReduceSweep → Unreduced
arcs_of r = r.place.arcs

-- what no turn changes: the file of the nodes, the two arc files, the arcs that it began with, and the number of
-- variables
pub record Task : Type 0 where
  pub out : FileNo
  pub inner : FileNo
  pub ends : FileNo
  pub arcs : Unreduced
  pub variables : ℕ

abbrev pub task_of : ReduceSweep → Task
task_of r = record {
  out = out_of r;
  inner = inner_file r;
  ends = ends_file r;
  arcs = arcs_of r;
  variables = r.place.variables;
}

-- how many nodes the diagram has, once the reduction has ended
abbrev pub count_at : Phase → Option ℕ
count_at Between = None
count_at (Collect s) = None
count_at (Number n) = None
count_at Forward = None
count_at (Ended count) = Some count

abbrev pub count_in : ReduceSweep → Option ℕ
count_in r = count_at r.place.phase

-- the part numbers that weren't taken
abbrev pub parts_of : ReduceSweep → Parts
parts_of r = r.parts

-- how many calls are paid for that weren't made yet
abbrev pub credit_of : ReduceSweep → ℕ
credit_of r = queues.credit r.ahead.queue + sorters.credit r.lists.rows + sorters.credit r.lists.names

-- what is paid for parts that weren't taken yet, 256 for each part
abbrev pub stock_of : ReduceSweep → ℕ
stock_of r = queues.stock r.ahead.queue + sorters.stock r.lists.rows + sorters.stock r.lists.names

-- it makes the file of the nodes
abbrev pub accounts : Accounts ReduceSweep
accounts = record {
  makes = λ r f. f ≡ out_of r;
  step = λ r. r.parts.step;
  next = λ r. r.parts.next;
  credit = credit_of;
  stock = stock_of;
}

-- 1 where something is there, and else 0
abbrev pub one_if_some : {X : Type 0} → Option X → ℕ
one_if_some None = 0
one_if_some (Some x) = 1

-- what weighs on the turns to come: an arc to a node that isn't used, 4; one to a truth value, and an arc in the
-- queue, 3; a source that is collected, and a row, 2; a name, 1
abbrev pub arcs_weight : Ahead → ℕ
arcs_weight a = 4 * (left_of (inner_of a.reader) + one_if_some a.inner) + 3 *
    (left_of (ends_of a.reader) + one_if_some a.end)
    + 3 * queues.held a.queue

abbrev pub lists_weight : Lists → ℕ
lists_weight l = 2 * sorters.held l.rows + sorters.held l.names

-- it hasn't ended
abbrev pub IsGoing : Phase → Type 0
IsGoing phase = (count : ℕ) → phase ≢ Ended count

-- no more turns than these remain: none where it has ended
abbrev pub fuel_at : Phase → ℕ → ℕ
fuel_at Between n = n + 1
fuel_at (Collect s) n = n + 3
fuel_at (Number s) n = n + 1
fuel_at Forward n = n + 1
fuel_at (Ended count) n = 0

abbrev pub turns_left : ReduceSweep → ℕ
turns_left r = fuel_at r.place.phase (arcs_weight r.ahead + lists_weight r.lists)

-- no row has a number yet
abbrev pub none_numbered : Numbered
none_numbered = record { number = 0; last = None }

-- a row has a number only with a node of its own
pub record IsNumberedAt (level count : ℕ) (s : Numbered) : Type 0 where
  pub level_is : level ≤ 65534
  pub numbered : s.number ≤ count
  pub some : IsSome s.last → 1 ≤ s.number

-- what is true in a phase
abbrev pub IsPhaseAt : ℕ → ℕ → Phase → Type 0
IsPhaseAt level count Between = Unit
IsPhaseAt level count (Collect s) = level ≤ 65534
IsPhaseAt level count (Number s) = IsNumberedAt level count s
IsPhaseAt level count Forward = Unit
IsPhaseAt level count (Ended n) = Unit

-- no more arcs of a file aren't done with than it began with, those at hand counted; and these are no more than the
-- longest file has
pub record AreFew (arcs : Unreduced) (r : ArcReader) (inner end : Option Arc) : Type 0 where
  pub inner_few : left_of (inner_of r) + one_if_some inner ≤ arcs.inner_count
  pub ends_few : left_of (ends_of r) + one_if_some end ≤ arcs.ends_count
  pub inner_most : arcs.inner_count ≤ 2 ^ 46
  pub ends_most : arcs.ends_count ≤ 2 ^ 46

-- what is true of it whatever the folder holds
pub record IsSound (r : ReduceSweep) : Type 0 where
  pub served : AreServed r.ahead r.lists r.writer r.parts
  pub within : AreWithin (arcs_of r) r.ahead.reader
  pub few : AreFew (arcs_of r) r.ahead.reader r.ahead.inner r.ahead.end
  pub variables : r.writer.n ≡ r.place.variables
  pub phase : IsPhaseAt r.place.level (count_of (nodes.filling_of r.writer)) r.place.phase

-- why it can't go on: a call of the folder failed; one of the two arc files is damaged, or a run of its own, whose part
-- was taken; or no part number is left
abbrev pub Refuses : FileNo → FileNo → ReduceSweep → SortFault → Type 0
Refuses inner ends new Shelf = Unit
Refuses inner ends new (Damaged f at) = (f ≡ inner) ⊎ ((f ≡ ends) ⊎ WasTaken new.parts f)
Refuses inner ends new RunsSpent = 2 ^ 32 ≤ new.parts.next

-- an item of the level was handled, and fewer turns are left; or the phase is over and the next one begins, and no arc
-- was read
abbrev pub Handles : Phase → ReduceSweep → ReduceSweep → Bool → Type 0
Handles after old new true = (0 < turns_left new) × (turns_left new < turns_left old)
Handles after old new false = (new.place.phase ≡ after) × (turns_left new ≤ turns_left old)
    × (new.ahead.reader ≡ old.ahead.reader)

-- what a turn answers tells whether the count of nodes is known
abbrev pub CountsAtEnd : Turn → Option ℕ → Type 0
CountsAtEnd turn.More count = count ≡ None
CountsAtEnd turn.Ended count = IsSome count

-- a call of the folder failed, or one of the two arc files is damaged
abbrev pub IsArcDamage : FileNo → FileNo → SortFault → Type 0
IsArcDamage inner ends Shelf = Unit
IsArcDamage inner ends (Damaged f at) = (f ≡ inner) ⊎ (f ≡ ends)
IsArcDamage inner ends RunsSpent = ⊥
