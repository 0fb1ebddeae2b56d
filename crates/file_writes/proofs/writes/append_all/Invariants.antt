use Rattle.std.proofs.Common.{◌≡◌, ◌+◌, ◌-◌, ◌≤◌, ◌++◌, length, take}
use Rattle.std.specs.Prelude.{IsTrue, Ok}
use Rattle.shelf_model.specs.World.{now, file}
use Rattle.shelf_model.specs.Calls.{Told}
use Rattle.shelf_model.specs.Moments.{Ran}
use Rattle.shelf_model.specs.Faults.{OnlyFolder}
use Rattle.file_writes.specs.Writes.{pieces, Growing}
use Rattle.file_writes.proofs.writes.append_all.Given as goal

-- so many bytes stand at the end, and the pieces that remain are still to be put there
abbrev pub invariant-loop-done : goal.invariant-loop-done
invariant-loop-done g l = record {
  within : l.done ≤ length l.bytes;
  so_far : Told g.S.Shelf.tells l.fn.shelf l.shelf
      (Ran (Growing l.f (length l.bytes) (now (g.S.Shelf.world l.fn.shelf))) (g.S.Shelf.world l.fn.shelf) (g.S.Shelf.world l.shelf)
      × ((file (g.S.Shelf.world l.shelf) l.f).bytes ≡ (file (g.S.Shelf.world l.fn.shelf) l.f).bytes ++ take l.done l.bytes));
  calls : IsTrue (g.S.Shelf.tells l.shelf) → (g.S.Shelf.world l.shelf).clock + pieces (length l.bytes - l.done) ≤ (g.S.Shelf.world l.fn.shelf).clock + pieces (length l.bytes);
  faults : OnlyFolder {T = Unit} (g.S.Shelf.faults l.fn.shelf) (g.S.Shelf.faults l.shelf) (Ok tt);
}

abbrev pub decreases-loop-done : goal.decreases-loop-done
decreases-loop-done g l = length l.bytes - l.done
