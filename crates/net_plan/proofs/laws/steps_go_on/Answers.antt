use Rattle.net_plan.proofs.GoingOn.{steps_go_on}
use Rattle.net_plan.proofs.laws.steps_go_on.Goals as goal

pub returns : goal.returns
returns c = steps_go_on
