use Rattle.top_down.proofs.VerdictLaws.{first_awaits, known_awaits, new_awaits, refutes, holds_at_last}
use Rattle.top_down.proofs.laws.open_asks_decide_a_table_of_ones.Goals as goal

pub returns : goal.returns
returns c = record { first = first_awaits; known = known_awaits; renewed = new_awaits; refuted = refutes; holds = holds_at_last }
