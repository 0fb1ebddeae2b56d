use Rattle.std.proofs.Common.{◌≡◌, ◌≤◌, ◌+◌, ◌++◌, ℕ, List, length, take, IsTrue}
use Rattle.shelf_model.specs.Calls.{Told}
use Rattle.block_stream.specs.Writes.{Wrote, IsFilling, IsWriting, SameFile, count_of, written}
use Rattle.node_file.specs.Nodes.{held_nodes}
use Rattle.node_file.proofs.writer.put_window.Given as goal

-- the nodes so far stand behind what stood there
abbrev pub invariant-loop-node : goal.invariant-loop-node
invariant-loop-node g l = record {
  fills : IsFilling l.filling (length l.window);
  same : SameFile l.fn.filling l.filling;
  counted : count_of l.filling ≡ count_of l.fn.filling + l.node-index;
  bytes : IsTrue (g.S.Shelf.tells l.shelf) → IsWriting l.filling l.window (g.S.Shelf.world l.shelf)
      (written l.fn.filling l.fn.window (g.S.Shelf.world l.fn.shelf) ++ held_nodes (take l.node-index l.nodes));
  wrote : Told g.S.Shelf.tells l.fn.shelf l.shelf (Wrote l.node-index l.fn.filling.file (g.S.Shelf.world l.fn.shelf) (g.S.Shelf.world l.shelf));
  folder_later : (g.S.Shelf.faults l.fn.shelf).folder ≤ (g.S.Shelf.faults l.shelf).folder;
  say_is : (g.S.Shelf.faults l.shelf).say ≡ (g.S.Shelf.faults l.fn.shelf).say;
  text_is : (path : List ℕ) → (g.S.Shelf.faults l.shelf).text path ≡ (g.S.Shelf.faults l.fn.shelf).text path;
}
