use Rattle.std.proofs.Common.{◌∙◌}
use Rattle.bool_tables.proofs.PlanSteps.{tables_more}
use Rattle.bool_tables.proofs.eval.eval_steps.Goals as goal

pub loop-planned-preserved : goal.loop-planned-preserved
loop-planned-preserved c =
    tables_more c.args.n c.args.steps.now c.loop-planned.tables.items _ _ _ _ c.loop-planned.planned-index c.loop-planned-test.true
    c.as_slice.ensures.value c.in_ok-values.ensures c.of.ensures c.in_ok-push.ensures.items
    ∙ c.loop-planned.invariant
