use Rattle.node_file.proofs.CanonFiles.{canonical_file}
use Rattle.node_file.proofs.laws.canonical_files_are_read.Goals as goal

pub returns : goal.returns
returns c = canonical_file
