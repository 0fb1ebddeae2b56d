use Rattle.script_runner.proofs.LivesCost.{lives_cost, accepted_costs}
use Rattle.script_runner.proofs.WithinWork.{paid_within}
use Rattle.script_runner.proofs.laws.lives_cost.Goals as goal

pub returns : goal.returns
returns c = record { each = accepted_costs; cost = lives_cost; within = paid_within }
