use Rattle.std.proofs.Common.{ℕ, ◌+◌, ◌-◌, ◌*◌, ◌≤◌, List, length}
use Rattle.packed_records.specs.Packed.{packed}
use Rattle.arc_file.specs.declared.arc.Arc.{Arc}
use Rattle.arc_diagrams.specs.Arcs.{IsComplete}
use Rattle.room_reduction.specs.Sources.{AreSources, sources_in}
use Rattle.room_reduction.specs.Levels.{IsPacked}
use Rattle.room_reduction.proofs.levels.reduce_levels.Given as goal

-- the deeper levels are done
abbrev pub invariant-loop-deeper : goal.invariant-loop-deeper
invariant-loop-deeper l = record {
  within : l.done.from + l.done.count ≤ l.index.total;
  room : l.done.count ≤ 4 * length l.nodes;
  done_is : (root : ℕ) (arcs : List Arc) → IsComplete l.n root arcs
      → AreSources l.n root arcs (sources_in l.index.total l.fn.sources)
      → IsPacked l.n root arcs (l.n - l.deeper) l.done.from l.done.count (sources_in l.index.total l.sources)
      (packed l.nodes);
}
