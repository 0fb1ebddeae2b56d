use Rattle.bool_tables.proofs.StepHalves.{low_half-ite, high_half-ite}
use Rattle.bool_tables.proofs.laws.choices_by_halves.Goals as goal

pub returns : goal.returns
returns c = record { low = low_half-ite; high = high_half-ite }
