use Rattle.top_down_laws.proofs.ReadTurns.{wanted_is_read}
use Rattle.top_down_laws.proofs.laws.a_wanted_node_is_read.Goals as goal

pub returns : goal.returns
returns c = wanted_is_read
