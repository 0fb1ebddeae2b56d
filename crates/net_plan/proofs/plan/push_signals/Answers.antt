use Rattle.std.proofs.Common.{ℕ, Err, subst, get_or, arith}
use Rattle.std.proofs.lemmas.List.{drop_more}
use Rattle.blif_reader.specs.Answers.{net_of}
use Rattle.net_plan.specs.Drafts.{Drafts}
use Rattle.net_plan.specs.Plan.{Planning, signal_draft}
use Rattle.net_plan.proofs.Planning.{passes_plan, makes_below}
use Rattle.net_plan.proofs.plan.push_signals.Goals as goal
use Rattle.std.proofs.lemmas.Grind.{common_steps}

pub returns-in_err-number-clause-steps : goal.returns-in_err-number-clause-steps
returns-in_err-number-clause-steps c =
    let p : Planning = record { steps = c.loop-signal.steps.items; made = c.loop-signal.made.items } in
    let s : ℕ = get_or c.args.visited.now c.loop-signal.signal-index 0 in
    let split = drop_more c.args.visited.now c.loop-signal.signal-index 0 c.loop-signal-test.true in
    let fails = subst (λ made. Drafts c.args.first c.loop-signal.steps.items c.push_signal.new.steps.items (signal_draft (net_of c.args.net.now) c.args.levels.now c.args.first (record { steps = c.loop-signal.steps.items; made = made }) s) (Err c.in_err-number.field-0.0)) c.as_slice.ensures.value c.in_err-number.ensures in
    passes_plan c.args.first c.loop-signal.steps.items c.push_signal.new.steps.items _ (signal_draft (net_of c.args.net.now) c.args.levels.now c.args.first p s) _ c.from_residual.result c.in_err-number.field-0.0 c.from_residual.ensures.1 fails
    (makes_below (net_of c.args.net.now) c.args.levels.now c.args.first s p _ _ _ split c.loop-signal.invariant.same)

pub loop-signal-preserved : goal.loop-signal-preserved
loop-signal-preserved c = grind (arith, common_steps)

pub returns-clause-steps : goal.returns-clause-steps
returns-clause-steps c = grind (arith, common_steps)

pub returns-clause-made : goal.returns-clause-made
returns-clause-made c = grind (arith, common_steps)
