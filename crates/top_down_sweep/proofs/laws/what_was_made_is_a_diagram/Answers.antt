use Rattle.top_down_sweep.proofs.Makings.{diagram_made}
use Rattle.top_down_sweep.proofs.laws.what_was_made_is_a_diagram.Goals as goal

pub returns : goal.returns
returns c = diagram_made
