use Rattle.std.proofs.Common.{◌≡◌, map, take, get_or}
use Rattle.net_plan.proofs.plan.numbers_of.Given as goal

-- the signals so far have their numbers
abbrev pub invariant-loop-signal : goal.invariant-loop-signal
invariant-loop-signal l = l.numbers.items ≡ map (λ s. get_or l.made s 0) (take l.signal-index l.signals)
