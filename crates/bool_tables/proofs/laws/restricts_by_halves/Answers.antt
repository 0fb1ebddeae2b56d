use Rattle.bool_tables.proofs.StepHalves.{low_half-restrict, high_half-restrict}
use Rattle.bool_tables.proofs.laws.restricts_by_halves.Goals as goal

pub returns : goal.returns
returns c = record { low = low_half-restrict; high = high_half-restrict }
