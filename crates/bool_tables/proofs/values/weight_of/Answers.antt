use Rattle.std.proofs.Common.{arith}
use Rattle.bool_tables.proofs.Powers.{shifted, power_small}
use Rattle.bool_tables.proofs.values.weight_of.Goals as goal

pub returns-clause-below : goal.returns-clause-below
returns-clause-below c = omega (arith, shifted c.saturating_sub-2.result (omega arith), power_small c.saturating_sub-2.result (omega arith))
