use Rattle.std.proofs.Common.{◌∙◌, ◌++◌, ◌∷◌, [], sym, arith}
use Rattle.std.proofs.lemmas.List.FromFn.{map-range_with_len_more}
use Rattle.bool_tables.specs.Steps.{step_value}
use Rattle.bool_tables.proofs.Powers.{shifted, power_small}
use Rattle.bool_tables.proofs.eval.values_of.Goals as goal

pub value_in_step-requires-clause-within : goal.value_in_step-requires-clause-within
value_in_step-requires-clause-within c =
    omega (arith, shifted c.args.n c.requires, power_small c.args.n c.requires)

pub loop-place-preserved : goal.loop-place-preserved
loop-place-preserved c =
    c.in_ok-push.ensures.items
    ∙ (λ j. c.loop-place.invariant j ++ c.value_in_step.ensures j ∷ [])
    ∙ sym (map-range_with_len_more (step_value c.args.n c.args.tables.now c.args.step) 0 c.loop-place.place c.loop-place.place (omega arith))
