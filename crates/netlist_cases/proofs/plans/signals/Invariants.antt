use Rattle.std.proofs.Common.{ℕ, ◌<◌, length, get_or}
use Rattle.blif_reader.specs.Answers.{net_of}
use Rattle.netlist_cases.proofs.plans.signals.Given as goal

-- what was found is a signal
abbrev pub invariant-loop-name : goal.invariant-loop-name
invariant-loop-name l = (i : ℕ) → i < length l.found.items → get_or l.found.items i 0 < length (net_of l.net).names
