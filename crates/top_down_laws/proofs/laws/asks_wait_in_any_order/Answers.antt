use Rattle.top_down_laws.proofs.StartLaws.{in_any_order}
use Rattle.top_down_laws.proofs.laws.asks_wait_in_any_order.Goals as goal

pub returns : goal.returns
returns c = in_any_order
