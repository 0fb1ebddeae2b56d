use Rattle.std.proofs.Common.{nat_lt, take}
use Rattle.std.specs.Prelude.{IsTrue}
use Rattle.std.specs.List.{list_all}
use Rattle.script_runner.proofs.say.count_before.Given as goal

-- the lines so far come before the step
abbrev pub invariant-loop-count : goal.invariant-loop-count
invariant-loop-count l = IsTrue (list_all (λ line. nat_lt line.last l.step) (take l.count l.lines))
