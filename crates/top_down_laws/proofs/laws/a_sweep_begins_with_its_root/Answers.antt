use Rattle.top_down_laws.proofs.StartLaws.{constant_ends, root_is_asked}
use Rattle.top_down_laws.proofs.laws.a_sweep_begins_with_its_root.Goals as goal

pub returns : goal.returns
returns c = record { constant = constant_ends; asked = root_is_asked }
