use Rattle.std.proofs.Common.{◌≡◌, ◌+◌, ◌*◌, ◌<◌, ◌≤◌}
use Rattle.std.specs.Prelude.{IsTrue, Ok}
use Rattle.shelf_model.specs.World.{now}
use Rattle.shelf_model.specs.Calls.{Told}
use Rattle.shelf_model.specs.Moments.{Ran}
use Rattle.shelf_model.specs.Faults.{OnlyFolder}
use Rattle.catalogue.specs.Commits.{DuringPut}
use Rattle.script_runner.specs.Together.{IsEntryWith, ArePutTogether}
use Rattle.script_runner.proofs.together.put_together.Given as goal

-- the entries so far stand behind those of the committed steps
abbrev pub invariant-loop-k : goal.invariant-loop-k
invariant-loop-k g l = record {
  so_far : Told g.S.Shelf.tells l.fn.shelf l.shelf
      (Ran (DuringPut l.entry.number l.entry (now (g.S.Shelf.world l.fn.shelf))) (g.S.Shelf.world l.fn.shelf) (g.S.Shelf.world l.shelf));
  within : (l.entry.number < l.k) × (l.k ≤ l.end);
  put : IsTrue (g.S.Shelf.tells l.shelf) → ArePutTogether l.steps l.entry l.k (now (g.S.Shelf.world l.shelf)).folder;
  last : (l.last.number + 1 ≡ l.k) × IsEntryWith l.steps l.entry l.last.number l.last;
  calls : IsTrue (g.S.Shelf.tells l.shelf)
      → (g.S.Shelf.world l.shelf).clock + 2 * l.entry.number ≤ (g.S.Shelf.world l.fn.shelf).clock + 2 * l.k;
  faults : OnlyFolder {T = Unit} (g.S.Shelf.faults l.fn.shelf) (g.S.Shelf.faults l.shelf) (Ok tt);
}
