use Rattle.std.proofs.Common.{◌≡◌, ◌⊎◌, ◌+◌, ◌-◌, ◌^◌, ◌<◌, ◌≤◌, max, IsTrue, length}
use Rattle.std.specs.Prelude.{Ok}
use Rattle.shelf_model.specs.declared.file_no.FileNo.{FileNo}
use Rattle.shelf_model.specs.Calls.{Told}
use Rattle.shelf_model.specs.Moments.{Ran, Throughout, OnlyChanged}
use Rattle.shelf_model.specs.World.{now, file}
use Rattle.file_numbers.specs.Files.{checkpoint_file}
use Rattle.run_tiers.specs.Faults.{OnlySortShelf}
use Rattle.sweep_core.specs.Accounts.{StayEmpty}
use Rattle.sweep_checkpoint.specs.Saves.{gated_size, IsGateSure}
use Rattle.sweep_checkpoint.specs.Retires.{first_taken}
use Rattle.sweep_checkpoint.specs.Going.{IsOfGoing, IsLeftAlone, AreSure, SameGoing, IsPaidTo, interval_of, first_owed}
use Rattle.sweep_checkpoint.specs.Stops.{AreStops, stop_calls}
use Rattle.sweep_checkpoint.proofs.SavedHere.{AreLeft}
use Rattle.sweep_checkpoint.proofs.Spent.{SpentOn}
use Rattle.sweep_checkpoint.proofs.Stops.{ShownOn}
use Rattle.sweep_checkpoint.proofs.WentOn.{HasCome, SaysLast}
use Rattle.sweep_checkpoint.proofs.running.run_saved.Given as goal

-- what the turns and saves so far left
abbrev pub invariant-turns : goal.invariant-turns
invariant-turns g l = record {
  ready : g.P.Sweep.ready l.sweep;
  works : (0 < g.P.Sweep.fuel l.sweep) ⊎ (l.going.turns - l.going.shown < interval_of l.going.budget);
  in_step : IsTrue (g.S.Shelf.tells l.shelf) → g.P.Sweep.in_step l.sweep (g.S.Shelf.world l.shelf);
  trusts : IsTrue (g.S.Shelf.tells l.shelf) → g.P.Sweep.trusts l.fn.sweep (g.S.Shelf.world l.fn.shelf)
      → g.P.Sweep.trusts l.sweep (g.S.Shelf.world l.shelf);
  keeps : IsTrue (g.S.Shelf.tells l.shelf) → (job : g.P.Sweep.Job)
      → g.P.Sweep.remains l.fn.sweep (g.S.Shelf.world l.fn.shelf) job
      → g.P.Sweep.remains l.sweep (g.S.Shelf.world l.shelf) job;
  same : g.P.Sweep.task l.sweep ≡ g.P.Sweep.task l.fn.sweep;
  going : SameGoing l.fn.going l.going;
  made : (f : FileNo) → g.P.Sweep.accounts.makes l.sweep f → g.P.Sweep.accounts.makes l.fn.sweep f;
  making : (f : FileNo) → g.P.Sweep.accounts.makes l.fn.sweep f → g.P.Sweep.accounts.makes l.sweep f;
  step : g.P.Sweep.accounts.step l.sweep ≡ g.P.Sweep.accounts.step l.fn.sweep;
  later : g.P.Sweep.accounts.next l.fn.sweep ≤ g.P.Sweep.accounts.next l.sweep;
  within_parts : g.P.Sweep.accounts.next l.fn.sweep ≤ 2 ^ 32 → g.P.Sweep.accounts.next l.sweep ≤ 2 ^ 32;
  owed : first_owed l.fn.going.last (g.P.Sweep.accounts.next l.fn.sweep) ≤ first_taken l.going.last;
  few : IsTrue (g.S.Shelf.tells l.shelf) → (job : g.P.Sweep.Job) → g.P.Sweep.remains l.fn.sweep (g.S.Shelf.world l.fn.shelf) job
      → l.going.turns + g.P.Sweep.left l.sweep (g.S.Shelf.world l.shelf) job
      ≤ l.fn.going.turns + g.P.Sweep.left l.fn.sweep (g.S.Shelf.world l.fn.shelf) job;
  covers : IsTrue (g.S.Shelf.tells l.shelf) → gated_size l.fn.going.step (now (g.S.Shelf.world l.fn.shelf)).folder
      ≤ length (file (g.S.Shelf.world l.fn.shelf) (checkpoint_file l.fn.going.step)).bytes
      → gated_size l.fn.going.step (now (g.S.Shelf.world l.shelf)).folder
      ≤ length (file (g.S.Shelf.world l.shelf) (checkpoint_file l.fn.going.step)).bytes;
  grew : l.fn.going.turns ≤ l.going.turns;
  late : l.fn.going.shown ≤ l.fn.going.turns → l.going.shown ≤ l.going.turns;
  spent : l.going.turns < 2 ^ 64 - 1
      → SpentOn g.P.Sweep.accounts (interval_of l.fn.going.budget) (first_owed l.fn.going.last (g.P.Sweep.accounts.next l.fn.sweep))
      l.fn.going.shown (l.going.turns - l.fn.going.turns) l.going (IsTrue (g.S.Shelf.tells l.shelf)) (g.S.Shelf.world l.fn.shelf)
      (g.S.Shelf.world l.shelf) l.fn.sweep l.sweep;
  paid : l.going.turns < 2 ^ 64 - 1 → IsPaidTo g.P.Sweep.accounts l.fn.going l.fn.sweep → IsPaidTo g.P.Sweep.accounts l.going l.sweep;
  within : IsTrue (g.S.Shelf.tells l.shelf) → (job : g.P.Sweep.Job) → g.P.Sweep.remains l.fn.sweep (g.S.Shelf.world l.fn.shelf) job
      → l.going.shown ≤ max l.fn.going.shown (l.fn.going.turns + g.P.Sweep.left l.fn.sweep (g.S.Shelf.world l.fn.shelf) job);
  calls : IsTrue (g.S.Shelf.tells l.shelf) → (job : g.P.Sweep.Job) → g.P.Sweep.remains l.fn.sweep (g.S.Shelf.world l.fn.shelf) job
      → SpentOn g.P.Sweep.accounts (interval_of l.fn.going.budget) (first_owed l.fn.going.last (g.P.Sweep.accounts.next l.fn.sweep))
      l.fn.going.shown (g.P.Sweep.left l.fn.sweep (g.S.Shelf.world l.fn.shelf) job - g.P.Sweep.left l.sweep (g.S.Shelf.world l.shelf) job)
      l.going (IsTrue (g.S.Shelf.tells l.shelf)) (g.S.Shelf.world l.fn.shelf) (g.S.Shelf.world l.shelf) l.fn.sweep l.sweep;
  says : IsTrue (g.S.Shelf.tells l.shelf) → SaysLast l.fn.going l.going (now (g.S.Shelf.world l.fn.shelf)).folder (now (g.S.Shelf.world l.shelf)).folder;
  changes : Told g.S.Shelf.tells l.fn.shelf l.shelf (Ran (OnlyChanged (IsOfGoing (g.P.Sweep.accounts.makes l.fn.sweep) l.fn.going.step)
      (now (g.S.Shelf.world l.fn.shelf))) (g.S.Shelf.world l.fn.shelf) (g.S.Shelf.world l.shelf));
  alone : IsTrue (g.S.Shelf.tells l.shelf) → (f : FileNo)
      → IsLeftAlone (g.P.Sweep.accounts.makes l.fn.sweep) l.fn.going.step (g.P.Sweep.accounts.next l.fn.sweep) f
      → (file (g.S.Shelf.world l.shelf) f).bytes ≡ (file (g.S.Shelf.world l.fn.shelf) f).bytes;
  untaken : IsTrue (g.S.Shelf.tells l.shelf) → StayEmpty (g.P.Sweep.accounts.makes l.fn.sweep) l.fn.going.step
      (g.P.Sweep.accounts.next l.sweep) (g.S.Shelf.world l.fn.shelf) (g.S.Shelf.world l.shelf);
  images : IsTrue (g.S.Shelf.tells l.shelf) → (job : g.P.Sweep.Job) → g.P.Sweep.remains l.fn.sweep (g.S.Shelf.world l.fn.shelf) job
      → AreSure (g.P.Sweep.saving.operands (g.P.Sweep.task l.fn.sweep)) l.fn.going.step (now (g.S.Shelf.world l.fn.shelf)).folder
      → IsPaidTo g.P.Sweep.accounts l.fn.going l.fn.sweep
      → Throughout (g.S.Shelf.world l.fn.shelf) (g.S.Shelf.world l.shelf) (AreLeft g.P.Sweep.saving (g.P.Sweep.accounts.makes l.fn.sweep)
      l.fn.going.step (g.P.Sweep.accounts.next l.fn.sweep) l.fn.going.sweep (g.P.Sweep.task l.fn.sweep) job
      (l.fn.going.turns + g.P.Sweep.left l.fn.sweep (g.S.Shelf.world l.fn.shelf) job) (now (g.S.Shelf.world l.fn.shelf)).folder);
  come : IsTrue (g.S.Shelf.tells l.shelf) → (job : g.P.Sweep.Job) → g.P.Sweep.remains l.fn.sweep (g.S.Shelf.world l.fn.shelf) job
      → AreSure (g.P.Sweep.saving.operands (g.P.Sweep.task l.fn.sweep)) l.fn.going.step (now (g.S.Shelf.world l.fn.shelf)).folder
      → IsPaidTo g.P.Sweep.accounts l.fn.going l.fn.sweep
      → HasCome g.P.Sweep.saving (g.P.Sweep.accounts.makes l.fn.sweep) (g.P.Sweep.saving.operands (g.P.Sweep.task l.fn.sweep))
      l.fn.going.step (g.P.Sweep.accounts.next l.fn.sweep) l.fn.going.sweep (g.P.Sweep.task l.fn.sweep) job
      (l.fn.going.turns + g.P.Sweep.left l.fn.sweep (g.S.Shelf.world l.fn.shelf) job)
      (g.P.Sweep.accounts.next l.sweep) (now (g.S.Shelf.world l.fn.shelf)) (now (g.S.Shelf.world l.shelf));
  shows : IsTrue (g.S.Shelf.tells l.shelf) → IsGateSure l.fn.going.step (now (g.S.Shelf.world l.fn.shelf)).folder
      → l.fn.going.shown ≤ l.fn.going.turns
      → ShownOn l.fn.going.step l.fn.going.shown l.going.shown (now (g.S.Shelf.world l.fn.shelf)).folder
      (now (g.S.Shelf.world l.shelf)).folder;
  least : l.fn.going.shown ≤ l.fn.going.turns → l.fn.going.shown ≤ l.going.shown;
  recent : l.fn.going.shown ≤ l.fn.going.turns → l.going.turns < 2 ^ 61
      → l.going.turns - l.fn.going.turns ≤ (l.going.shown - l.fn.going.shown)
      + (interval_of l.fn.going.budget - (l.fn.going.turns - l.fn.going.shown));
  stops : IsTrue (g.S.Shelf.tells l.shelf) → IsGateSure l.fn.going.step (now (g.S.Shelf.world l.fn.shelf)).folder
      → 16384 ≤ interval_of l.fn.going.budget
      → l.fn.going.shown ≤ l.fn.going.turns → (job : g.P.Sweep.Job)
      → g.P.Sweep.remains l.fn.sweep (g.S.Shelf.world l.fn.shelf) job
      → l.fn.going.turns + g.P.Sweep.left l.fn.sweep (g.S.Shelf.world l.fn.shelf) job < 2 ^ 61
      → AreStops l.fn.going.step l.fn.going.shown
      ((g.S.Shelf.world l.fn.shelf).clock + stop_calls g.P.Sweep.accounts l.fn.going l.fn.sweep)
      (g.S.Shelf.world l.fn.shelf) (g.S.Shelf.world l.shelf);
  faults : OnlySortShelf {T = Unit} (g.S.Shelf.faults l.fn.shelf) (g.S.Shelf.faults l.shelf) (Ok tt);
}

-- each time at least one turn is made
abbrev pub decreases-turns : goal.decreases-turns
decreases-turns g l = g.P.Sweep.fuel l.sweep
