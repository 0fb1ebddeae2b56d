use Rattle.script_runner.specs.Tidied.{MayBeLast}
use Rattle.script_runner.proofs.tidy_last.last_commit.Given as goal

-- the steps behind it are drops
abbrev pub invariant-loop-first : goal.invariant-loop-first
invariant-loop-first l = MayBeLast l.steps l.done l.first

abbrev pub decreases-loop-first : goal.decreases-loop-first
decreases-loop-first l = l.first
