use Rattle.std.proofs.Common.{◌+◌, ◌-◌, ◌≤◌, max}
use Rattle.std.specs.Prelude.{IsTrue, Ok}
use Rattle.shelf_model.specs.World.{now}
use Rattle.shelf_model.specs.Calls.{Told}
use Rattle.shelf_model.specs.Moments.{Ran, OnlyChanged}
use Rattle.shelf_model.specs.Faults.{OnlyFolder}
use Rattle.sweep_checkpoint.specs.Retires.{IsBetween, IsDropped, Emptied}
use Rattle.sweep_checkpoint.proofs.retiring.give_up_taken.Given as goal

-- only runs that are given up were cut, and those so far are empty
abbrev pub invariant-loop-part : goal.invariant-loop-part
invariant-loop-part g l = record {
  from : l.first ≤ l.part;
  until : l.part ≤ max l.first l.new.next_part;
  so_far : Told g.S.Shelf.tells l.fn.shelf l.shelf
      (Ran (OnlyChanged (IsDropped l.new (IsBetween l.first l.new.next_part)) (now (g.S.Shelf.world l.fn.shelf))) (g.S.Shelf.world l.fn.shelf) (g.S.Shelf.world l.shelf));
  emptied : IsTrue (g.S.Shelf.tells l.shelf)
      → Emptied (IsDropped l.new (IsBetween l.first l.part)) (g.S.Shelf.world l.fn.shelf) (g.S.Shelf.world l.shelf);
  calls : IsTrue (g.S.Shelf.tells l.shelf) → (g.S.Shelf.world l.shelf).clock ≤ (g.S.Shelf.world l.fn.shelf).clock + (l.part - l.first);
  faults : OnlyFolder {T = Unit} (g.S.Shelf.faults l.fn.shelf) (g.S.Shelf.faults l.shelf) (Ok tt);
}

abbrev pub decreases-loop-part : goal.decreases-loop-part
decreases-loop-part g l = l.new.next_part - l.part
