use Rattle.std.proofs.Common.{◌-◌, ◌≡◌, ◌≤◌, ℕ, List, IsTrue}
use Rattle.shelf_model.specs.World.{file}
use Rattle.shelf_model.specs.Calls.{Told}
use Rattle.block_stream.specs.Reads.{Looked}
use Rattle.node_file.specs.Nodes.{records_in}
use Rattle.packed_records.specs.Packed.{packed}
use Rattle.room_reduction.specs.Reading.{HoldNodes}
use Rattle.room_reduction.proofs.reading.read_nodes.Given as goal

-- the first nodes were read, with no more calls than nodes
abbrev pub invariant-pieces : goal.invariant-pieces
invariant-pieces g l = record {
  within : l.done ≤ l.count;
  read : IsTrue (g.S.Shelf.tells l.shelf)
      → HoldNodes l.done (records_in l.count (file (g.S.Shelf.world l.fn.shelf) l.f).bytes) (packed l.nodes);
  looked : Told g.S.Shelf.tells l.fn.shelf l.shelf
      (Looked l.done (g.S.Shelf.world l.fn.shelf) (g.S.Shelf.world l.shelf));
  folder_later : (g.S.Shelf.faults l.fn.shelf).folder ≤ (g.S.Shelf.faults l.shelf).folder;
  say_is : (g.S.Shelf.faults l.shelf).say ≡ (g.S.Shelf.faults l.fn.shelf).say;
  text_is : (path : List ℕ) → (g.S.Shelf.faults l.shelf).text path ≡ (g.S.Shelf.faults l.fn.shelf).text path;
}

-- each piece leaves fewer
abbrev pub decreases-pieces : goal.decreases-pieces
decreases-pieces g l = l.count - l.done
