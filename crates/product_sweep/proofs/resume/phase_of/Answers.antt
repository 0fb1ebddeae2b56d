use Rattle.std.proofs.Common.{◌∙◌, refl, sym, subst}
use Rattle.std.specs.Prelude.{IsSome}
use Rattle.product_sweep.proofs.Turning.{unmade_works}
use Rattle.product_sweep.proofs.resume.phase_of.Goals as goal

-- all is made
pub returns-in-Some : goal.returns-in-Some
returns-in-Some c = record {
  one = c.meets_one.result;
  answer_is = refl;
  tells = record { value = c.meets_one.ensures.value; none = c.meets_one.ensures.none };
  made = subst IsSome c.made.ensures.gives.made_is (subst IsSome (sym c.in-Some.is) refl);
}

-- more is to be made
pub returns-in-None : goal.returns-in-None
returns-in-None c = unmade_works c.args.product.now (sym c.made.ensures.gives.made_is ∙ c.in-None.is)
