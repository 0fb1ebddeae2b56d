use Rattle.canon_file.proofs.LevelLaws.{has_form}
use Rattle.canon_file.proofs.laws.small_tables_have_a_form.Goals as goal

pub returns : goal.returns
returns c = has_form
