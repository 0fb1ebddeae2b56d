use Rattle.std.proofs.Common.{◌≡◌, ◌⊎◌, ◌-◌, ◌<◌, ◌≤◌, min, List, take, IsTrue}
use Rattle.std.specs.Prelude.{Result, Ok}
use Rattle.rec_words.specs.declared.node.Node.{Node}
use Rattle.shelf_model.specs.declared.fault.StreamFault.{StreamFault}
use Rattle.shelf_model.specs.World.{file}
use Rattle.shelf_model.specs.Calls.{Told}
use Rattle.shelf_model.specs.Faults.{OnlyShelf}
use Rattle.node_file.specs.Readers.{file_of, trailer_of, left_of, given_of, waiting_of, Reads, AreLeft}
use Rattle.node_file.proofs.SkipLoads.{Skipped}
use Rattle.node_file.proofs.reader.NodeReader.skip_to.Given as goal

-- nodes down to the place were passed over
abbrev pub invariant-skip : goal.invariant-skip
invariant-skip g l = record {
  file_is : file_of l.self ≡ file_of l.fn.self;
  trailer_is : trailer_of l.self ≡ trailer_of l.fn.self;
  not_past : min l.place (left_of l.fn.self) ≤ left_of l.self;
  fewer : left_of l.self ≤ left_of l.fn.self;
  begun : (given_of l.self ≡ given_of l.fn.self) ⊎ (left_of l.self < left_of l.fn.self);
  looked : Told g.S.Shelf.tells l.fn.shelf l.shelf (Skipped (left_of l.fn.self - left_of l.self) (waiting_of l.self) (left_of l.self) (g.S.Shelf.world l.fn.shelf) (g.S.Shelf.world l.shelf));
  reads : IsTrue (g.S.Shelf.tells l.shelf) → Reads l.fn.self (file (g.S.Shelf.world l.fn.shelf) (file_of l.fn.self)).bytes
      → Reads l.self (file (g.S.Shelf.world l.fn.shelf) (file_of l.fn.self)).bytes;
  nodes : IsTrue (g.S.Shelf.tells l.shelf) → Reads l.fn.self (file (g.S.Shelf.world l.fn.shelf) (file_of l.fn.self)).bytes
      → (xs : List Node) → AreLeft l.fn.self (file (g.S.Shelf.world l.fn.shelf) (file_of l.fn.self)).bytes xs
      → AreLeft l.self (file (g.S.Shelf.world l.fn.shelf) (file_of l.fn.self)).bytes (take (left_of l.self) xs);
  faults : OnlyShelf (g.S.Shelf.faults l.fn.shelf) (g.S.Shelf.faults l.shelf) (let r : Result Unit StreamFault = Ok tt in r);
}

abbrev pub decreases-skip : goal.decreases-skip
decreases-skip g l = left_of l.self
