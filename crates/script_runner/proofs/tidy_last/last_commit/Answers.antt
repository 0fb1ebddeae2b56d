use Rattle.std.proofs.Common.{◌≡◌, ◌∙◌, get_or, ap, inl, inr, arith}
use Rattle.std.proofs.lemmas.Bool.{cases_lt}
use Rattle.step_work.specs.Plans.{no_step}
use Rattle.script_runner.proofs.LastTidied.{none_before_it}
use Rattle.script_runner.proofs.tidy_last.last_commit.Goals as goal

pub returns-in_default : goal.returns-in_default
returns-in_default c = record {
  is = c.loop-first.invariant;
  first = λ k last. none_before_it c.args.steps.now c.args.done c.loop-first.first k c.in_default.not-Drop c.loop-first.invariant.within last;
}

pub loop-first-preserved : goal.loop-first-preserved
loop-first-preserved c =
    let is = c.loop-first.invariant in
    let within = is.within in
    record {
      planned = is.planned;
      within = omega (arith, within);
      few = let little = c.if-done-first-lt-MOST_WAITING.true in omega (arith, little, within);
      drops = λ k from below. elim (cases_lt c.loop-first.first k) [
        | inl behind ↦ is.drops k (omega (arith, behind)) below
        | inr upto ↦
            let some = c.loop-first-test.true in
            let same : k ≡ c.loop-first.first = omega (arith, from, upto, some) in
            (c.in-Drop.gone, ap (λ i. (get_or c.args.steps.now i no_step).step) same ∙ c.in-Drop.is)
      ];
    }
