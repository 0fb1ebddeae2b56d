use Rattle.top_down_sweep.proofs.sweep.TopDownSweep.named.Goals as goal

-- no words of a sweep stand there
pub returns-in-None-clause-none : goal.returns-in-None-clause-none
returns-in-None-clause-none g c = λ operation task names. c.in-None.ensures.none (names.saved, operation) names.holds
