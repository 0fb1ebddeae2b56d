use Rattle.bool_tables.proofs.StepHalves.{low_half-restricted, high_half-restricted}
use Rattle.bool_tables.proofs.laws.restricts_the_first.Goals as goal

pub returns : goal.returns
returns c = record { low = low_half-restricted; high = high_half-restricted }
