-- What a call of the queue leaves and costs, and why it is refused.
use Rattle.std.proofs.Common.{◌≡◌, ℕ, ◌≤◌, ◌∙◌, Bool, refl, ap, arith}
use Rattle.std.specs.Prelude.{Option, Result, IfErr, IsTrue, length}
use Rattle.shelf_model.specs.declared.file_no.FileNo.{FileNo}
use Rattle.shelf_model.specs.declared.sort_fault.SortFault.{SortFault}
use Rattle.shelf_model.specs.Calls.{Told}
use Rattle.shelf_model.specs.Faults.{Faults}
use Rattle.shelf_model.specs.File.{File}
use Rattle.shelf_model.specs.Folder.{Folder, file_in}
use Rattle.shelf_model.specs.Moments.{Ran, Stays}
use Rattle.shelf_model.specs.World.{World, now, file}
use Rattle.shelf_model.proofs.Runs.{told, ran_end, ran_weakens}
use Rattle.arc_file.specs.Writers.{inner_file, ends_file, AreInStep}
use Rattle.run_tiers.specs.declared.parts.Parts.{Parts}
use Rattle.run_tiers.specs.Faults.{OnlySortShelf}
use Rattle.run_tiers.specs.Parts.{Took, OnlyTaken, Spilled, Paid, PaidParts}
use Rattle.run_merge.specs.Sorters as sorters
use Rattle.level_queue.specs.declared.queue.LevelQueue.{LevelQueue}
use Rattle.level_queue.specs.Queues as queues
use Rattle.level_queue.proofs.QueueLaws.{queue_serves_on}
use Rattle.sweep_core.specs.Accounts.{CanBeTaken}
use Rattle.tuple_asks.specs.declared.ask.Ask.{Ask}
use Rattle.top_down_sweep.specs.declared.machine.Machine.{Machine}
use Rattle.tuple_asks.specs.Items.{ask_words, IsAsk}
use Rattle.top_down_sweep.specs.Sweeps.{IsServed}
use Rattle.top_down_sweep.specs.Calls.{Does}
use Rattle.top_down_sweep.proofs.Doing.{does_spilled}
use Rattle.top_down_sweep.proofs.OwnRuns.{push_refuses, queue_refuses}

-- the files of arcs stay where parts were taken
pub spilled_at_work : (m : Machine) (after : Parts) (old new : World) → IsServed m → Spilled m.parts after old new
    → AreInStep m.writer old → AreInStep m.writer new
spilled_at_work m after old new served spilled step = record {
  inner_step = ap (λ (x : File). length x.bytes) (same (inner_file m.writer) served.inner_made) ∙ step.inner_step;
  ends_step = ap (λ (x : File). length x.bytes) (same (ends_file m.writer) served.ends_made) ∙ step.ends_step;
}
  where
    same : (f : FileNo) → ¬ CanBeTaken m.parts.step m.parts.next f → file new f ≡ file old f
    same f made = ran_end old new (OnlyTaken m.parts after (now old)) spilled f
        (λ taken. made (record { step_is = taken.step_is; from = taken.from }))

module _ {S : Type 0} (tells : S → Bool) (world : S → World) (counts : S → Faults) where
  -- an ask was put, or that was refused
  pub does_put : (n a : ℕ) (s t : S) (m : Machine) (q : LevelQueue Ask) (after : Parts)
      (result : Result Unit SortFault) → IsServed m
      → Told tells s t (Spilled m.parts after (world s) (world t))
      → (IsTrue (tells t) → Paid n (queues.credit m.queue) (queues.credit q) (world s) (world t))
      → Took m.parts after → PaidParts a (queues.stock m.queue) (queues.stock q) m.parts after
      → OnlySortShelf (counts s) (counts t) result → IfErr result (sorters.IsPushCause after m.queue.sorter)
      → Does tells world counts n a s t m (record m { queue = q; parts = after }) result
  does_put n a s t m q after result served did paid took spent faults cause =
      does_spilled tells world counts n a s t m q after result served did paid took spent faults
      (push_refuses (record m { queue = q; parts = after }) m.queue result
      (queue_serves_on m.queue m.parts after served.serves took) cause)

  -- the first ask was taken, or that was refused
  pub does_taken : (n a : ℕ) (s t : S) (m : Machine) (q : LevelQueue Ask) (after : Parts)
      (result : Result (Option Ask) SortFault) → IsServed m
      → Told tells s t (Spilled m.parts after (world s) (world t))
      → (IsTrue (tells t) → Paid n (queues.credit m.queue) (queues.credit q) (world s) (world t))
      → Took m.parts after → PaidParts a (queues.stock m.queue) (queues.stock q) m.parts after
      → OnlySortShelf (counts s) (counts t) result → queues.Serves after q → queues.HoldsValues IsAsk ask_words q
      → IfErr result (queues.IsQueueCause m.queue q)
      → Does tells world counts n a s t m (record m { queue = q; parts = after }) result
  does_taken n a s t m q after result served did paid took spent faults serves values cause =
      does_spilled tells world counts n a s t m q after result served did paid took spent faults
      (queue_refuses (record m { queue = q; parts = after }) m.queue result
      (queue_serves_on m.queue m.parts after served.serves took) serves values cause)

  -- it was shown, or that was refused
  pub does_shown : (n : ℕ) (s t : S) (m : Machine) (q : LevelQueue Ask) (result : Result (Option Ask) SortFault)
      → IsServed m → Told tells s t (Ran (Stays (now (world s))) (world s) (world t))
      → (IsTrue (tells t) → Paid n (queues.credit m.queue) (queues.credit q) (world s) (world t))
      → queues.stock q ≤ queues.stock m.queue → OnlySortShelf (counts s) (counts t) result
      → queues.Serves m.parts q → queues.HoldsValues IsAsk ask_words q → IfErr result (queues.IsQueueCause m.queue q)
      → Does tells world counts n 0 s t m (record m { queue = q }) result
  does_shown n s t m q result served did paid stock faults serves values cause =
      does_spilled tells world counts n 0 s t m q m.parts result served
      (told tells s t (Ran (Stays (now (world s))) (world s) (world t)) (Spilled m.parts m.parts (world s) (world t)) did
      (λ _ ran. ran_weakens (world s) (world t) (Stays (now (world s))) (OnlyTaken m.parts m.parts (now (world s)))
      (λ k same f untaken. ap (λ (d : Folder). file_in d f) same) ran)) paid
      (record { step_is = refl; later = omega arith; within = λ few. few }) (omega (arith, stock)) faults
      (queue_refuses (record m { queue = q }) m.queue result served.serves serves values cause)
