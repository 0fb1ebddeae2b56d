use Rattle.std.proofs.Common.{arith}
use Rattle.std.specs.Prelude.{[], ◌∷◌}
use Rattle.run_tiers.proofs.FaultLaws.{on_fault}
use Rattle.product_sweep.specs.Implications.{and_not}
use Rattle.product_sweep.proofs.Given.{two_tables, given_two}
use Rattle.product_sweep.proofs.Refuting.{work_same}
use Rattle.product_sweep.proofs.Turning.{unmade_works}
use Rattle.product_sweep.proofs.leq.LeqSweep.start.Goals as goal

-- nothing was made yet
pub returns-clause-ready : goal.returns-clause-ready
returns-clause-ready g c =
    let begun = c.in_ok-product.ensures.starts.begun in
    record { product = begun.ready; works = unmade_works c.in_ok-product.product begun.none_made }

-- the table of "left and not right" is to be made, by few turns
pub returns-clause-means : goal.returns-clause-means
returns-clause-means g c told t u first second first_apart second_apart = record {
  left_form = first.form;
  right_form = second.form;
  makes = (c.in_ok-product.ensures.starts.remains told (two_tables t u)
      (given_two c.args.parts.step c.args.n and_not c.args.f c.args.g _ t u first second first_apart
      second_apart)).makes;
}

pub returns-clause-half : goal.returns-clause-half
returns-clause-half g c told t u first second first_apart second_apart =
    let few = (c.in_ok-product.ensures.starts.remains told (two_tables t u)
    (given_two c.args.parts.step c.args.n and_not c.args.f c.args.g _ t u first second first_apart second_apart)).few in
    omega (arith, few, work_same and_not c.args.n (t ∷ u ∷ []))

-- no operand is damaged
pub returns-in_err-product-clause-undamaged : goal.returns-in_err-product-clause-undamaged
returns-in_err-product-clause-undamaged g c = on_fault c.from_residual.result c.in_err-product.field-0.0 _
    c.from_residual.ensures.1 (λ told t u first second first_apart second_apart.
    c.in_err-product.ensures.starts.undamaged told (two_tables t u)
    (given_two c.args.parts.step c.args.n and_not c.args.f c.args.g _ t u first second first_apart second_apart))
