use Rattle.sweep_checkpoint.proofs.going.within_word.Goals as goal

pub returns-clause-fits : goal.returns-clause-fits
returns-clause-fits c = c.ranges.number.fits
