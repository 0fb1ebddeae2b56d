use Rattle.std.proofs.Common.{◌≡◌, ◌+◌, ◌-◌, ◌<◌, ◌≤◌, ◌⊎◌, length, take}
use Rattle.std.specs.Prelude.{IsTrue, Ok}
use Rattle.shelf_model.specs.World.{now, file}
use Rattle.shelf_model.specs.Calls.{Told}
use Rattle.shelf_model.specs.Moments.{Ran, Stays}
use Rattle.shelf_model.specs.Faults.{OnlyFolder}
use Rattle.catalogue.specs.Files.{job_file}
use Rattle.catalogue.specs.Standings.{without_budget}
use Rattle.file_writes.specs.Writes.{pieces}
use Rattle.catalogue.proofs.compare.shared_with_stored.Given as goal

-- the bytes so far are the same, and the pieces that remain are still to be read
abbrev pub invariant-loop-at : goal.invariant-loop-at
invariant-loop-at g l = record {
  room : length l.piece ≡ 2048;
  within : l.at ≤ l.end;
  which : l.at < l.end → (l.at ≡ 0) ⊎ (12 ≤ l.at);
  so_far : Told g.S.Shelf.tells l.fn.shelf l.shelf
      (Ran (Stays (now (g.S.Shelf.world l.fn.shelf))) (g.S.Shelf.world l.fn.shelf) (g.S.Shelf.world l.shelf)
      × (take l.at (without_budget (file (g.S.Shelf.world l.fn.shelf) job_file).bytes) ≡ take l.at (without_budget l.job)));
  calls : IsTrue (g.S.Shelf.tells l.shelf) → (g.S.Shelf.world l.shelf).clock + pieces (l.end - l.at) ≤ (g.S.Shelf.world l.fn.shelf).clock + pieces l.end;
  faults : OnlyFolder {T = Unit} (g.S.Shelf.faults l.fn.shelf) (g.S.Shelf.faults l.shelf) (Ok tt);
}

abbrev pub decreases-loop-at : goal.decreases-loop-at
decreases-loop-at g l = l.end - l.at
