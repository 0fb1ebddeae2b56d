use Rattle.std.proofs.Common.{◌≡◌, ◌<◌, IsTrue}
use Rattle.std.specs.Prelude.{Result, Ok, IsSome}
use Rattle.shelf_model.specs.declared.sort_fault.SortFault.{SortFault}
use Rattle.shelf_model.specs.Calls.{Told}
use Rattle.shelf_model.specs.Moments.{Ran, Stays}
use Rattle.shelf_model.specs.World.{file, now}
use Rattle.run_tiers.specs.Faults.{OnlySortShelf}
use Rattle.node_file.specs.Readers.{file_of, trailer_of, left_of, given_of}
use Rattle.node_reading.specs.Reading.{IsBegun}
use Rattle.node_reading.proofs.Wholes.{HasComeBack}
use Rattle.node_reading.proofs.whole.read_whole.Given as goal

-- all nodes from the reader's place on were read
abbrev pub invariant-read : goal.invariant-read
invariant-read g l = record {
  file_is : file_of l.nodes ≡ l.fn.f;
  variables : (trailer_of l.nodes).n ≡ l.fn.n;
  begun : IsBegun l.nodes;
  given : left_of l.nodes < (trailer_of l.nodes).count → IsSome (given_of l.nodes);
  come : IsTrue (g.S.Shelf.tells l.shelf) → HasComeBack l.fn.n l.nodes (file (g.S.Shelf.world l.fn.shelf) l.fn.f).bytes (g.S.Shelf.world l.shelf);
  content : Told g.S.Shelf.tells l.fn.shelf l.shelf (Ran (Stays (now (g.S.Shelf.world l.fn.shelf))) (g.S.Shelf.world l.fn.shelf) (g.S.Shelf.world l.shelf));
  faults : OnlySortShelf (g.S.Shelf.faults l.fn.shelf) (g.S.Shelf.faults l.shelf) (let r : Result Unit SortFault = Ok tt in r);
}

abbrev pub decreases-read : goal.decreases-read
decreases-read g l = left_of l.nodes
