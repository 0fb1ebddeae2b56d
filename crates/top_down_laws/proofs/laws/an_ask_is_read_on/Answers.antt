use Rattle.top_down_laws.proofs.ReadTurns.{ask_is_read_on}
use Rattle.top_down_laws.proofs.laws.an_ask_is_read_on.Goals as goal

pub returns : goal.returns
returns c = ask_is_read_on
