use Rattle.top_down_laws.proofs.KnownTurn.{known_is_answered}
use Rattle.top_down_laws.proofs.laws.a_known_tuple_is_answered.Goals as goal

pub returns : goal.returns
returns c = known_is_answered
