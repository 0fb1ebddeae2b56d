use Rattle.script_runner.proofs.ListEndings.{lists_end}
use Rattle.script_runner.proofs.laws.lists_end.Goals as goal

pub returns : goal.returns
returns c = record { ends = lists_end }
