use Rattle.depth_first.specs.Walkers.{order_of}
use Rattle.blif_reader.specs.Answers.{net_of}
use Rattle.net_plan.proofs.Planned.{plan_makes, plan_stays}
use Rattle.net_plan.proofs.planner.plan_with.Goals as goal
use Rattle.std.proofs.Common.{arith}
use Rattle.std.proofs.lemmas.Grind.{common_steps}

pub returns-clause-tables : goal.returns-clause-tables
returns-clause-tables c =
    plan_makes (net_of c.args.net.now) c.args.levels.now c.args.wanted.now c.args.first (order_of c.visit.new.walker)
    c.args.net.now.sound c.in_ok-visit.ensures.order c.in_ok-visit.ensures.above c.in_ok-visit.ensures.signals
    c.requires.wanted c.plan_visited-planned.result c.plan_visited-planned.ensures.steps
    c.plan_visited-planned.ensures.made

pub returns-clause-goes_on : goal.returns-clause-goes_on
returns-clause-goes_on c =
    plan_stays (net_of c.args.net.now) c.args.levels.now c.args.wanted.now c.args.first (order_of c.visit.new.walker)
    c.args.net.now.sound c.in_ok-visit.ensures.order c.in_ok-visit.ensures.above c.in_ok-visit.ensures.signals
    c.requires.wanted c.requires.levels c.plan_visited-planned.result c.plan_visited-planned.ensures.steps
    c.plan_visited-planned.ensures.made

pub make_blank-requires-clause-inside : goal.make_blank-requires-clause-inside
make_blank-requires-clause-inside c = grind (arith, common_steps)

pub make_blank-requires-2-clause-inside : goal.make_blank-requires-2-clause-inside
make_blank-requires-2-clause-inside c = grind (arith, common_steps)

pub returns-clause-blank : goal.returns-clause-blank
returns-clause-blank c = grind (arith, common_steps)
