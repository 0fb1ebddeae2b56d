use Rattle.top_down_laws.proofs.EndLaws.{root_stands, written_stands}
use Rattle.top_down_laws.proofs.laws.what_is_written_stands_for_the_table.Goals as goal

pub returns : goal.returns
returns c = record { root = root_stands; written = written_stands }
