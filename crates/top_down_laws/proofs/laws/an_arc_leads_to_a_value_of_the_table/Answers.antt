use Rattle.top_down_laws.proofs.EndValues.{end_is_value}
use Rattle.top_down_laws.proofs.laws.an_arc_leads_to_a_value_of_the_table.Goals as goal

pub returns : goal.returns
returns c = end_is_value
