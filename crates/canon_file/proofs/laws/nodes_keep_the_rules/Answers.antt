use Rattle.canon_file.proofs.FileLaws.{is_node_file}
use Rattle.canon_file.proofs.laws.nodes_keep_the_rules.Goals as goal

pub returns : goal.returns
returns c n t a = is_node_file n t a.few a.whole a.fits
