use Rattle.script_runner.proofs.Lives.{accepted_runs_end}
use Rattle.script_runner.proofs.laws.accepted_runs_end.Goals as goal

pub returns : goal.returns
returns c = record { ends = accepted_runs_end }
