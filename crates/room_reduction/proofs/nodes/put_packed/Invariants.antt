use Rattle.std.proofs.Common.{◌≡◌, ◌≤◌, ◌+◌, ◌++◌, ℕ, List, take, IsTrue}
use Rattle.shelf_model.specs.Calls.{Told}
use Rattle.block_stream.specs.Writes.{Wrote, SameFile, count_of}
use Rattle.node_file.specs.Nodes.{held_nodes}
use Rattle.node_file.specs.Writers.{Holds, filling_of, written_of}
use Rattle.packed_records.specs.Packed.{packed}
use Rattle.room_reduction.proofs.nodes.put_packed.Given as goal

-- the nodes so far stand behind what stood there
abbrev pub invariant-loop-place : goal.invariant-loop-place
invariant-loop-place g l = record {
  same : SameFile (filling_of l.fn.writer) (filling_of l.writer);
  variables : l.writer.n ≡ l.fn.writer.n;
  counted : count_of (filling_of l.writer) ≡ count_of (filling_of l.fn.writer) + l.place;
  bytes : IsTrue (g.S.Shelf.tells l.shelf) → Holds l.writer (g.S.Shelf.world l.shelf)
      (written_of l.fn.writer (g.S.Shelf.world l.fn.shelf) ++ held_nodes (take l.place (packed l.nodes)));
  wrote : Told g.S.Shelf.tells l.fn.shelf l.shelf
      (Wrote l.place (filling_of l.fn.writer).file (g.S.Shelf.world l.fn.shelf) (g.S.Shelf.world l.shelf));
  folder_later : (g.S.Shelf.faults l.fn.shelf).folder ≤ (g.S.Shelf.faults l.shelf).folder;
  say_is : (g.S.Shelf.faults l.shelf).say ≡ (g.S.Shelf.faults l.fn.shelf).say;
  text_is : (path : List ℕ) → (g.S.Shelf.faults l.shelf).text path ≡ (g.S.Shelf.faults l.fn.shelf).text path;
}
