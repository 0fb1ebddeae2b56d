use Rattle.std.proofs.Common.{◌≡◌, ◌+◌, ◌<◌, ◌≤◌, ℕ, List, []}
use Rattle.std.specs.Prelude.{IsTrue}
use Rattle.shelf_model.specs.declared.file_no.FileNo.{FileNo}
use Rattle.shelf_model.specs.World.{now, file}
use Rattle.shelf_model.specs.Calls.{Told}
use Rattle.shelf_model.specs.Moments.{Ran, OnlyChanged}
use Rattle.step_going.specs.Lost.{IsLost}
use Rattle.step_going.proofs.lost.give_up_lost.Given as goal

-- the parts before this one were cut
abbrev pub invariant-loop-part : goal.invariant-loop-part
invariant-loop-part g l = record {
  so_far : Told g.S.Shelf.tells l.fn.shelf l.shelf
      (Ran (OnlyChanged (IsLost l.fn.step l.next) (now (g.S.Shelf.world l.fn.shelf))) (g.S.Shelf.world l.fn.shelf) (g.S.Shelf.world l.shelf));
  calls : IsTrue (g.S.Shelf.tells l.shelf) → (g.S.Shelf.world l.shelf).clock + l.next ≤ (g.S.Shelf.world l.fn.shelf).clock + l.part;
  empty : IsTrue (g.S.Shelf.tells l.shelf) → (f : FileNo) → IsLost l.fn.step l.next f → f.part < l.part → (file (g.S.Shelf.world l.shelf) f).bytes ≡ [];
  folder_later : (g.S.Shelf.faults l.fn.shelf).folder ≤ (g.S.Shelf.faults l.shelf).folder;
  say_is : (g.S.Shelf.faults l.shelf).say ≡ (g.S.Shelf.faults l.fn.shelf).say;
  text_is : (path : List ℕ) → (g.S.Shelf.faults l.shelf).text path ≡ (g.S.Shelf.faults l.fn.shelf).text path;
}
