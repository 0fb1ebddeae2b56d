use Rattle.net_plan.proofs.Existence.{some_value}
use Rattle.net_plan.proofs.laws.values_exist.Goals as goal

pub returns : goal.returns
returns c = some_value
