use Rattle.canon_file.proofs.PartLaws.{pieces-parts}
use Rattle.canon_file.proofs.laws.pieces_are_parts.Goals as goal

pub returns : goal.returns
returns c = pieces-parts
