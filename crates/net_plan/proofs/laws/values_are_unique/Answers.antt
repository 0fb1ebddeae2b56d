use Rattle.net_plan.proofs.Unique.{one_value}
use Rattle.net_plan.proofs.laws.values_are_unique.Goals as goal

pub returns : goal.returns
returns c = one_value
