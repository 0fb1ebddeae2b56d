use Rattle.std.proofs.Common.{◌≡◌, ◌≤◌, ◌+◌, ◌-◌, ◌++◌, ℕ, List, IsTrue}
use Rattle.shelf_model.specs.Calls.{Told}
use Rattle.block_stream.specs.Writes.{Wrote, InStep, SameFile, count_of}
use Rattle.node_file.specs.Nodes.{held_nodes}
use Rattle.node_file.specs.Writers.{Holds, filling_of, written_of}
use Rattle.arc_file.specs.declared.arc.Arc.{Arc}
use Rattle.arc_diagrams.specs.Arcs.{IsComplete}
use Rattle.room_reduction.specs.Sources.{AreSources, sources_in}
use Rattle.room_reduction.specs.Levels.{IsCounted, nodes_down_to}
use Rattle.room_reduction.proofs.writing.write_levels.Given as goal

-- the deeper levels are done and written
abbrev pub invariant-loop-deeper : goal.invariant-loop-deeper
invariant-loop-deeper g l = record {
  within : l.done.from + l.done.count ≤ l.index.total;
  counted : count_of (filling_of l.writer) ≡ count_of (filling_of l.fn.writer) + l.done.count;
  same : SameFile (filling_of l.fn.writer) (filling_of l.writer);
  variables : l.writer.n ≡ l.fn.writer.n;
  in_step : IsTrue (g.S.Shelf.tells l.shelf) → InStep (filling_of l.writer) (g.S.Shelf.world l.shelf);
  done_is : (root : ℕ) (arcs : List Arc) → IsComplete l.n root arcs
      → AreSources l.n root arcs (sources_in l.index.total l.fn.sources)
      → IsCounted l.n root arcs (l.n - l.deeper) l.done.from l.done.count (sources_in l.index.total l.sources);
  bytes : IsTrue (g.S.Shelf.tells l.shelf) → (root : ℕ) (arcs : List Arc) → IsComplete l.n root arcs
      → AreSources l.n root arcs (sources_in l.index.total l.fn.sources)
      → Holds l.writer (g.S.Shelf.world l.shelf)
      (written_of l.fn.writer (g.S.Shelf.world l.fn.shelf)
      ++ held_nodes (nodes_down_to (l.n - l.deeper) l.n arcs));
  wrote : Told g.S.Shelf.tells l.fn.shelf l.shelf
      (Wrote l.done.count (filling_of l.fn.writer).file (g.S.Shelf.world l.fn.shelf) (g.S.Shelf.world l.shelf));
  folder_later : (g.S.Shelf.faults l.fn.shelf).folder ≤ (g.S.Shelf.faults l.shelf).folder;
  say_is : (g.S.Shelf.faults l.shelf).say ≡ (g.S.Shelf.faults l.fn.shelf).say;
  text_is : (path : List ℕ) → (g.S.Shelf.faults l.shelf).text path ≡ (g.S.Shelf.faults l.fn.shelf).text path;
}
