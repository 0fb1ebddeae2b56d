use Rattle.bool_tables.proofs.StepHalves.{low_half-quantify_first, high_half-quantify_first}
use Rattle.bool_tables.proofs.laws.quantifies_the_first.Goals as goal

pub returns : goal.returns
returns c = record { low = low_half-quantify_first; high = high_half-quantify_first }
