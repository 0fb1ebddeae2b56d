use Rattle.top_down_laws.proofs.EndLaws.{nothing_waits}
use Rattle.top_down_laws.proofs.laws.a_sweep_ends_with_a_diagram.Goals as goal

pub returns : goal.returns
returns c = nothing_waits
