use Rattle.top_down_laws.proofs.EndLaws.{asks_for_one}
use Rattle.top_down_laws.proofs.laws.an_ask_is_for_one_tuple.Goals as goal

pub returns : goal.returns
returns c = asks_for_one
