use Rattle.std.proofs.Common.{◌≡◌, ◌<◌, ◌≤◌, ◌+◌, ◌-◌, ◌*◌, ℕ, List, length}
use Rattle.std.specs.Prelude.{IsTrue}
use Rattle.std.specs.List.{list_all}
use Rattle.shelf_model.specs.World.{now}
use Rattle.shelf_model.specs.Calls.{Told}
use Rattle.script_reader.specs.Lines.{rise_from, shows_past}
use Rattle.file_writes.specs.Writes.{pieces}
use Rattle.sound_image.specs.Holds.{AreSound}
use Rattle.script_runner.specs.AtOnce.{most_spare}
use Rattle.script_runner.specs.Calls.{calls_before, IsGated, AreCounted}
use Rattle.script_runner.specs.JobOf.{job_in}
use Rattle.script_runner.specs.Lean.{IsLean}
use Rattle.script_runner.specs.Running.{AreEmptied}
use Rattle.script_runner.specs.Stops.{IsPaidRun}
use Rattle.script_runner.specs.Tidied.{may_wait}
use Rattle.script_runner.proofs.RunSteps.{done_at}
use Rattle.script_runner.proofs.Paying.{unpaid}
use Rattle.script_runner.proofs.Turns.{Turn}
use Rattle.script_runner.proofs.RunPaying.{PaysSoFar, spent_at}
use Rattle.script_runner.proofs.run.run_job.Given as goal

-- so many steps are committed, and the lines that remain end with no earlier one
abbrev pub invariant-loop-step : goal.invariant-loop-step
invariant-loop-step g l = record {
  so_far : Told g.W.Shelf.tells l.fn.station l.station
      (Turn (job_in l.fn.job) l.fn.job.lines.now l.step l.rest (g.W.Shelf.world l.fn.station) (g.W.Shelf.world l.station));
  calls : IsTrue (g.W.Shelf.tells l.station) → (paid : ℕ)
      → AreCounted (job_in l.fn.job) (now (g.W.Shelf.world l.fn.station)).folder paid
      → (g.W.Shelf.world l.station).clock + l.spare + 2 * length l.rest + unpaid (done_at (g.W.Shelf.world l.fn.station)) l.step paid
      ≤ (g.W.Shelf.world l.fn.station).clock + 10 + pieces (length (job_in l.fn.job).bytes)
      + calls_before (job_in l.fn.job) l.step + 2 * length l.fn.job.lines.now + paid;
  paid : IsTrue (g.W.Shelf.tells l.station) → (paid rest : ℕ)
      → IsPaidRun (job_in l.fn.job) (length l.fn.job.lines.now) paid rest (now (g.W.Shelf.world l.fn.station)).folder
      → PaysSoFar (job_in l.fn.job) paid
      (spent_at (length (job_in l.fn.job).bytes) (length l.fn.job.lines.now) (length l.rest) (done_at (g.W.Shelf.world l.fn.station)) l.step rest) rest l.spare
      (g.W.Shelf.world l.fn.station) (g.W.Shelf.world l.station);
  gated : IsTrue (g.W.Shelf.tells l.station) → AreSound (job_in l.fn.job) (now (g.W.Shelf.world l.fn.station)).folder
      → l.step < length l.fn.job.steps.now → IsGated l.gone_on l.step (now (g.W.Shelf.world l.fn.station)).folder;
  emptied : IsTrue (g.W.Shelf.tells l.station) → AreSound (job_in l.fn.job) (now (g.W.Shelf.world l.fn.station)).folder
      → AreEmptied l.fn.job.steps.now (may_wait (done_at (g.W.Shelf.world l.fn.station))) l.step (now (g.W.Shelf.world l.station)).folder;
  lean : IsTrue (g.W.Shelf.tells l.station) → AreSound (job_in l.fn.job) (now (g.W.Shelf.world l.fn.station)).folder
      → IsLean (job_in l.fn.job) (done_at (g.W.Shelf.world l.fn.station)) (now (g.W.Shelf.world l.fn.station)).folder
      → IsLean (job_in l.fn.job) l.step (now (g.W.Shelf.world l.station)).folder;
  spare_few : l.spare ≤ most_spare;
  rise : IsTrue (rise_from l.step l.rest);
  shown : IsTrue (list_all (shows_past (length l.fn.job.steps.now)) l.rest);
  folder_later : (g.W.Shelf.faults l.fn.station).folder ≤ (g.W.Shelf.faults l.station).folder;
  say_later : (g.W.Shelf.faults l.fn.station).say ≤ (g.W.Shelf.faults l.station).say;
  text_is : (path : List ℕ) → (g.W.Shelf.faults l.station).text path ≡ (g.W.Shelf.faults l.fn.station).text path;
}

abbrev pub decreases-loop-step : goal.decreases-loop-step
decreases-loop-step g l = length l.fn.job.steps.now - l.step
