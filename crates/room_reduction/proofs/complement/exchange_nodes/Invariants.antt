use Rattle.std.proofs.Common.{ℕ, ◌-◌, ◌<◌}
use Rattle.run_files.specs.Items.{record_at}
use Rattle.packed_records.specs.Packed.{packed}
use Rattle.room_reduction.specs.Complements.{IsOther}
use Rattle.room_reduction.proofs.complement.exchange_nodes.Given as goal

-- the last nodes so far are the first sources
abbrev pub invariant-loop-place : goal.invariant-loop-place
invariant-loop-place l = (k : ℕ) → k < l.place
    → IsOther (record_at (packed l.nodes) (l.count - 1 - k)) (record_at (packed l.sources) k)
