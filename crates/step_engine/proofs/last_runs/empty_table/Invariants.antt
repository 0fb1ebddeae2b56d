use Rattle.std.proofs.Common.{◌+◌, ◌≤◌, take}
use Rattle.std.specs.Prelude.{IsTrue, Ok}
use Rattle.shelf_model.specs.World.{now}
use Rattle.shelf_model.specs.Calls.{Told}
use Rattle.shelf_model.specs.Moments.{Ran}
use Rattle.shelf_model.specs.Faults.{OnlyFolder}
use Rattle.sweep_checkpoint.specs.Retires.{NamedAmong, Emptied}
use Rattle.step_engine.specs.OneFile.{OnlyTidied}
use Rattle.step_engine.specs.LeftBehind.{IsRunOf}
use Rattle.step_engine.proofs.last_runs.empty_table.Given as goal

-- only the step's files were cut, and those of the runs so far are empty
abbrev pub invariant-loop-k : goal.invariant-loop-k
invariant-loop-k g l = record {
  so_far : Told g.S.Shelf.tells l.fn.shelf l.shelf
      (Ran (OnlyTidied l.fn.step l.number l.until (now (g.S.Shelf.world l.fn.shelf))) (g.S.Shelf.world l.fn.shelf) (g.S.Shelf.world l.shelf));
  emptied : IsTrue (g.S.Shelf.tells l.shelf)
      → Emptied (IsRunOf l.number l.until (λ p. NamedAmong p (take l.k l.table))) (g.S.Shelf.world l.fn.shelf) (g.S.Shelf.world l.shelf);
  calls : IsTrue (g.S.Shelf.tells l.shelf) → (g.S.Shelf.world l.shelf).clock ≤ (g.S.Shelf.world l.fn.shelf).clock + l.k;
  faults : OnlyFolder {T = Unit} (g.S.Shelf.faults l.fn.shelf) (g.S.Shelf.faults l.shelf) (Ok tt);
}
