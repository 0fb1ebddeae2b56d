use Rattle.std.proofs.Common.{◌≡◌, ◌∙◌, get_or, ap, inl, inr, arith}
use Rattle.std.proofs.lemmas.Bool.{cases_lt}
use Rattle.step_work.specs.Plans.{no_step}
use Rattle.script_runner.proofs.together.drops_end.Goals as goal

pub loop-end-preserved : goal.loop-end-preserved
loop-end-preserved c = record {
  within = (omega arith, omega arith);
  few = let little = c.if-end-number-lt-MOST_WAITING.true in omega (arith, little);
  drops = λ k from below. elim (cases_lt k c.loop-end.end) [
    | inl earlier ↦ c.loop-end.invariant.drops k from earlier
    | inr last ↦
        let same : k ≡ c.loop-end.end = omega (arith, last, below) in
        (c.in-Drop.gone, ap (λ i. (get_or c.args.steps.now i no_step).step) same ∙ c.in-Drop.is)
  ];
}
