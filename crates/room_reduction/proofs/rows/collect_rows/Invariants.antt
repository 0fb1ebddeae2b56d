use Rattle.std.proofs.Common.{ℕ, ◌+◌, ◌<◌}
use Rattle.run_files.specs.Items.{record_at}
use Rattle.room_reduction.specs.Sources.{sources_in}
use Rattle.room_reduction.specs.Levels.{KeepsEnds, AreKnown, IsRowOf}
use Rattle.room_reduction.proofs.rows.collect_rows.Given as goal

-- the sources so far have their rows
abbrev pub invariant-loop-place : goal.invariant-loop-place
invariant-loop-place l = record {
  rows_are : (f : ℕ → ℕ) → KeepsEnds f → AreKnown f l.end (sources_in l.index.total l.sources) → (k : ℕ) → k < l.place
      → IsRowOf f (l.from + k) (sources_in l.index.total l.sources) (record_at l.rows k);
}
