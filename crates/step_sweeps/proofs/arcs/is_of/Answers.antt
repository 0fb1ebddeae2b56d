use Rattle.step_sweeps.proofs.arcs.is_of.Goals as goal

pub returns-in_default : goal.returns-in_default
returns-in_default c = (
  λ never. absurd (cc),
  λ is. absurd (c.in_default.ensures.none is.operation _ (record {
    saved = is.saved;
    holds = is.holds;
    files_are = is.files_are;
    variables_are = is.variables_are;
  })),
)
