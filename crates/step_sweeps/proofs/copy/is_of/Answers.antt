use Rattle.step_sweeps.proofs.copy.is_of.Goals as goal

pub returns-in_default : goal.returns-in_default
returns-in_default c = (λ never. absurd (cc), λ is. absurd (c.in_default.ensures.none is.task is.names))
