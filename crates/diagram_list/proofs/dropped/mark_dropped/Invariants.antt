use Rattle.std.proofs.Common.{◌≡◌, ◌+◌, ◌≤◌, length}
use Rattle.std.specs.Prelude.{IsTrue, Ok, Result}
use Rattle.shelf_model.specs.declared.fault.StreamFault.{StreamFault}
use Rattle.shelf_model.specs.World.{now}
use Rattle.shelf_model.specs.Calls.{Told}
use Rattle.shelf_model.specs.Moments.{Ran, Stays}
use Rattle.shelf_model.specs.Faults.{OnlyShelf}
use Rattle.catalogue.specs.Counts.{present}
use Rattle.diagram_list.specs.Lists.{WereRead}
use Rattle.diagram_list.proofs.dropped.mark_dropped.Given as goal

-- the first steps were read, and what they drop is marked
abbrev pub invariant-loop-k : goal.invariant-loop-k
invariant-loop-k g l = record {
  ran : Told g.S.Shelf.tells l.fn.shelf l.shelf (Ran (Stays (now (g.S.Shelf.world l.fn.shelf))) (g.S.Shelf.world l.fn.shelf) (g.S.Shelf.world l.shelf));
  read : IsTrue (g.S.Shelf.tells l.shelf) → WereRead l.k (present (now (g.S.Shelf.world l.fn.shelf)).folder) l.dropped;
  len : length l.dropped ≡ length l.fn.dropped;
  calls : IsTrue (g.S.Shelf.tells l.shelf) → (g.S.Shelf.world l.shelf).clock ≤ (g.S.Shelf.world l.fn.shelf).clock + l.k;
  faults : OnlyShelf (g.S.Shelf.faults l.fn.shelf) (g.S.Shelf.faults l.shelf) (let r : Result Unit StreamFault = Ok tt in r);
}
