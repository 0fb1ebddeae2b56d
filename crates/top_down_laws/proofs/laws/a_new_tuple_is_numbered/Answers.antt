use Rattle.top_down_laws.proofs.NewTurn.{new_is_numbered}
use Rattle.top_down_laws.proofs.laws.a_new_tuple_is_numbered.Goals as goal

pub returns : goal.returns
returns c = new_is_numbered
