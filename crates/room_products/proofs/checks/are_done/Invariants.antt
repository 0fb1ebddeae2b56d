use Rattle.std.proofs.Common.{◌≡◌, ℕ, ◌<◌}
use Rattle.run_files.specs.Items.{record_at}
use Rattle.room_reduction.specs.Records.{word}
use Rattle.room_reduction.specs.Sources.{sources_in}
use Rattle.room_products.specs.Slots.{id_at}
use Rattle.room_products.proofs.checks.are_done.Given as goal

-- each slot so far has its source
abbrev pub invariant-loop-place : goal.invariant-loop-place
invariant-loop-place l = (k : ℕ) → k < l.place → (j : ℕ) × (j < l.index.total)
    × (word 0 (record_at (sources_in l.index.total l.sources) j) ≡ id_at (sources_in l.index.total l.slots) k)
