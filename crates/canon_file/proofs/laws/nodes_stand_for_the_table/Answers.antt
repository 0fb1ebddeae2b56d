use Rattle.canon_file.proofs.StandLaws.{nodes_stand}
use Rattle.canon_file.proofs.WalkLaws.{nodes_walk}
use Rattle.canon_file.proofs.laws.nodes_stand_for_the_table.Goals as goal

pub returns : goal.returns
returns c = record {
  table = λ n t a. nodes_stand n t a.few a.whole a.fits;
  walks = λ n t bits a digits. nodes_walk n t bits a.few a.whole a.fits digits;
}
