use Rattle.script_runner.specs.Said.{no_line}
use Rattle.script_runner.proofs.LineOrder.{rises_behind, rises_later}
use Rattle.script_runner.proofs.say.count_before.Goals as goal
use Rattle.std.proofs.Common.{arith}
use Rattle.std.proofs.lemmas.Grind.{common_steps}

pub returns-then-line-step-clause-rest : goal.returns-then-line-step-clause-rest
returns-then-line-step-clause-rest c =
    rises_later 0 c.args.step c.args.lines.now c.loop-count.count no_line c.loop-count-test.true c.if-line-step.true
    (rises_behind 0 c.args.lines.now c.loop-count.count c.requires)

pub loop-count-preserved : goal.loop-count-preserved
loop-count-preserved c = grind (arith, common_steps)

pub returns-clause-rest : goal.returns-clause-rest
returns-clause-rest c = grind (arith, common_steps)
