use Rattle.std.proofs.Common.{arith}
use Rattle.std.proofs.lemmas.Grind.{common_steps}
use Rattle.net_plan.proofs.plan.plan_visited.Goals as goal

pub push_signals-requires-clause-signals : goal.push_signals-requires-clause-signals
push_signals-requires-clause-signals c = grind (arith, common_steps)

pub push_signals-requires-clause-others : goal.push_signals-requires-clause-others
push_signals-requires-clause-others c = grind (arith, common_steps)

pub returns-in_err-push_signals-clause-too_many : goal.returns-in_err-push_signals-clause-too_many
returns-in_err-push_signals-clause-too_many c = grind (arith, common_steps)

pub returns-in_err-push_signals-clause-kept_others :
    goal.returns-in_err-push_signals-clause-kept_others
returns-in_err-push_signals-clause-kept_others c = grind (arith, common_steps)

pub mark_wanted-requires-clause-none : goal.mark_wanted-requires-clause-none
mark_wanted-requires-clause-none c = grind (arith, common_steps)

pub mark_wanted-requires-clause-inside : goal.mark_wanted-requires-clause-inside
mark_wanted-requires-clause-inside c = grind (arith, common_steps)

pub push_drops-requires-clause-kept : goal.push_drops-requires-clause-kept
push_drops-requires-clause-kept c = grind (arith, common_steps)

pub push_drops-requires-clause-inside : goal.push_drops-requires-clause-inside
push_drops-requires-clause-inside c = grind (arith, common_steps)

pub numbers_of-requires : goal.numbers_of-requires
numbers_of-requires c = grind (arith, common_steps)
