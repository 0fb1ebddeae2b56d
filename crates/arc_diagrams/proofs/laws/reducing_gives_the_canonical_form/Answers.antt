use Rattle.arc_diagrams.proofs.ReduceLaws.{reduces}
use Rattle.arc_diagrams.proofs.laws.reducing_gives_the_canonical_form.Goals as goal

pub returns : goal.returns
returns c = reduces
