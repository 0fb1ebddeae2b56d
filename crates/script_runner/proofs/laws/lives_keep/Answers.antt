use Rattle.script_runner.proofs.Lives.{lives_keep}
use Rattle.script_runner.proofs.Sources.{any_budget}
use Rattle.script_runner.proofs.laws.lives_keep.Goals as goal

pub returns : goal.returns
returns c = record { keeps = lives_keep; any_budget = any_budget }
