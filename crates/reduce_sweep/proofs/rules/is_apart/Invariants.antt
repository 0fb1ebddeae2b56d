use Rattle.std.proofs.Common.{◌≢◌, ◌<◌, ℕ, get_or}
use Rattle.run_tiers.specs.Tables.{IsInUse, no_run}
use Rattle.reduce_sweep.proofs.rules.is_apart.Given as goal

-- none so far has that part
abbrev pub invariant-loop-slot : goal.invariant-loop-slot
invariant-loop-slot l = (i : ℕ) → i < l.slot → IsInUse (get_or l.table.runs i no_run)
    → (get_or l.table.runs i no_run).part ≢ l.part
