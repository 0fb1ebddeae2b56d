use Rattle.bool_tables.proofs.StepHalves.{low_half-pair, high_half-pair}
use Rattle.bool_tables.proofs.laws.pairs_by_halves.Goals as goal

pub returns : goal.returns
returns c = record { low = low_half-pair; high = high_half-pair }
