use Rattle.top_down_laws.proofs.TurnCounts.{count_begins, count_in_any_order, read_is_counted, read_on_is_counted, known_is_counted, new_is_counted, turns_are_few}
use Rattle.top_down_laws.proofs.laws.turns_are_counted.Goals as goal

pub returns : goal.returns
returns c = record {
  begins = count_begins;
  any_order = count_in_any_order;
  read = read_is_counted;
  read_on = read_on_is_counted;
  known = known_is_counted;
  numbered = new_is_counted;
  few = turns_are_few;
}
