use Rattle.std.proofs.Common.{ℕ, ◌<◌, get_or}
use Rattle.run_tiers.specs.Tables.{no_run}
use Rattle.tuple_asks.specs.SavedRules.{IsOfRun}
use Rattle.tuple_asks.proofs.rules.names.Given as goal

-- no run so far has that file
abbrev pub invariant-loop-slot : goal.invariant-loop-slot
invariant-loop-slot l = (k : ℕ) → k < l.slot → IsOfRun l.step l.file (get_or l.runs k no_run) → ⊥
