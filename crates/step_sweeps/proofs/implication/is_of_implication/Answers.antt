use Rattle.std.proofs.Common.{◌∙◌}
use Rattle.step_sweeps.proofs.implication.is_of_implication.Goals as goal

pub returns-in_default : goal.returns-in_default
returns-in_default c = (
  λ is. absurd (cc),
  λ ours. absurd (c.in_default.ensures.none ours.names.operation _ (record {
    saved = ours.names.saved;
    holds = ours.names.holds;
    files_are = ours.names.files_are;
    variables_are = ours.names.variables_are;
  })),
)

pub returns : goal.returns
returns c =
    let named = c.in-Some.ensures.found in
    let of = c.are_made_of.ensures.0 c.if-not-are_made_of.false in (
      λ is. record {
        first_sweep = c.if-point-ne0.false;
        names = record {
          saved = named.saved;
          operation = c.in-Some.named.operation;
          holds = named.holds;
          files_are = named.files_are ∙ (λ i. record {
            first = of.first_is i;
            second = of.second_is i;
            third = of.third_is i;
            inner = of.inner_is i;
            ends = of.ends_are i;
          });
          variables_are = named.variables_are ∙ c.if-named-n.false;
        };
        fits = c.fits.ensures.0 is;
      },
      λ ours. c.fits.ensures.1 ours.fits,
    )
