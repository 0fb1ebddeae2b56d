use Rattle.level_queue.proofs.TableLaws.{tables_kept}
use Rattle.level_queue.proofs.laws.tables_stay.Goals as goal

pub returns : goal.returns
returns g c step tables last old new xs stay list = tables_kept g.T.Spill.is_value g.T.Spill.words g.T.Ord.cmp step tables last old new xs stay list
