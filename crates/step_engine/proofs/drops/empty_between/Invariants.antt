use Rattle.std.proofs.Common.{◌≡◌, ◌+◌, ◌<◌, ◌≤◌, max, ℕ, List, []}
use Rattle.std.specs.Prelude.{IsTrue}
use Rattle.shelf_model.specs.declared.file_no.FileNo.{FileNo}
use Rattle.shelf_model.specs.World.{now, file}
use Rattle.shelf_model.specs.Calls.{Told}
use Rattle.shelf_model.specs.Moments.{Ran}
use Rattle.step_engine.specs.OneFile.{OnlyTidied}
use Rattle.step_engine.proofs.drops.empty_between.Given as goal

-- the parts before this one were cut
abbrev pub invariant-loop-part : goal.invariant-loop-part
invariant-loop-part g l = record {
  so_far : Told g.S.Shelf.tells l.fn.shelf l.shelf
      (Ran (OnlyTidied l.fn.step l.number l.until (now (g.S.Shelf.world l.fn.shelf))) (g.S.Shelf.world l.fn.shelf) (g.S.Shelf.world l.shelf));
  within : l.part ≤ max l.from l.until;
  calls : IsTrue (g.S.Shelf.tells l.shelf) → (g.S.Shelf.world l.shelf).clock + l.from ≤ (g.S.Shelf.world l.fn.shelf).clock + l.part;
  empty : IsTrue (g.S.Shelf.tells l.shelf) → (f : FileNo) → f.step ≡ l.number → l.from ≤ f.part → f.part < l.part
      → (file (g.S.Shelf.world l.shelf) f).bytes ≡ [];
  folder_later : (g.S.Shelf.faults l.fn.shelf).folder ≤ (g.S.Shelf.faults l.shelf).folder;
  say_is : (g.S.Shelf.faults l.shelf).say ≡ (g.S.Shelf.faults l.fn.shelf).say;
  text_is : (path : List ℕ) → (g.S.Shelf.faults l.shelf).text path ≡ (g.S.Shelf.faults l.fn.shelf).text path;
}
