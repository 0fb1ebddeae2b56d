-- What refuses a call of the queue: a file of its runs, whose parts were taken, or no part number.
use Rattle.std.proofs.Common.{◌≤◌, inl, inr}
use Rattle.std.specs.Prelude.{Result, Ok, Err, IfErr}
use Rattle.shelf_model.specs.declared.sort_fault.SortFault.{SortFault}
use Rattle.shelf_model.specs.declared.sort_fault.SortFault.TheVariants.{Shelf, Damaged, RunsSpent}
use Rattle.run_tiers.specs.declared.parts.Parts.{Parts}
use Rattle.run_merge.specs.Sorters as sorters
use Rattle.run_merge.proofs.RunFiles.{push_taken, read_taken, first_taken}
use Rattle.level_queue.specs.declared.queue.LevelQueue.{LevelQueue}
use Rattle.level_queue.specs.Queues as queues
use Rattle.tuple_asks.specs.declared.ask.Ask.{Ask}
use Rattle.top_down_sweep.specs.declared.machine.Machine.{Machine}
use Rattle.tuple_asks.specs.Items.{ask_words, IsAsk}
use Rattle.top_down_sweep.specs.Sweeps.{Refuses}
use Rattle.top_down_sweep.specs.Damage.{IsOfCheckpoint}

-- the first three parts were taken
pub serves_past : {T : Type 0} (parts : Parts) (q : LevelQueue T) → queues.Serves parts q → 3 ≤ parts.next
unfolding queues.Serves sorters.Serves
serves_past parts q serves = serves.past_made

-- where a push is refused
pub push_refuses : {A : Type 0} (m : Machine) (old : LevelQueue Ask) (result : Result A SortFault)
    → queues.Serves m.parts old
    → IfErr result (sorters.IsPushCause m.parts old.sorter) → IfErr result (Refuses m)
unfolding queues.Serves sorters.IsPushCause
push_refuses m old (Ok u) serves cause = tt
push_refuses m old (Err Shelf) serves cause = tt
push_refuses m old (Err (Damaged f at)) serves cause = inr (inl (push_taken m.parts old.sorter f at serves cause))
push_refuses m old (Err RunsSpent) serves cause = cause

-- where another call is
pub queue_refuses : {A : Type 0} (m : Machine) (old : LevelQueue Ask) (result : Result A SortFault)
    → queues.Serves m.parts old → queues.Serves m.parts m.queue → queues.HoldsValues IsAsk ask_words m.queue
    → IfErr result (queues.IsQueueCause old m.queue) → IfErr result (Refuses m)
unfolding queues.Serves
queue_refuses m old (Ok x) before serves values cause = tt
queue_refuses m old (Err Shelf) before serves values cause = tt
queue_refuses m old (Err (Damaged f at)) before serves values cause = inr (inl (elim cause [
  | inl next ↦ read_taken m.parts old.sorter f at before next
  | inr first ↦ first_taken IsAsk ask_words m.parts m.queue.sorter f at serves values.sorter first
]))
queue_refuses m old (Err RunsSpent) before serves values cause = absurd cause

-- where a checkpoint is damaged
pub checkpoint_refuses : (m : Machine) (e : SortFault) → IsOfCheckpoint m.parts.step e → Refuses m e
checkpoint_refuses m Shelf is = tt
checkpoint_refuses m (Damaged f at) is = inr (inr is)
checkpoint_refuses m RunsSpent is = absurd is
