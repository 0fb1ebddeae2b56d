use Rattle.reduce_sweep.proofs.reduce.ReduceSweep.reads_arcs_of.Goals as goal

-- no words of a reduction stand there
pub returns-in-None : goal.returns-in-None
returns-in-None c = (λ is. absurd (cc), λ reads. absurd (c.in-None.ensures.none reads.saved reads.holds))
