use Rattle.bool_tables.proofs.StepHalves.{low_half-quantify, high_half-quantify}
use Rattle.bool_tables.proofs.laws.quantifies_by_halves.Goals as goal

pub returns : goal.returns
returns c = record { low = low_half-quantify; high = high_half-quantify }
