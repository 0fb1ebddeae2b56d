use Rattle.level_queue.proofs.TableLaws.{tables_kept_frozen}
use Rattle.level_queue.proofs.laws.tables_stay_frozen.Goals as goal

pub returns : goal.returns
returns g c tables last before after old new xs serves ran firm list = tables_kept_frozen g.T.Spill.is_value g.T.Spill.words g.T.Ord.cmp tables last before after old new xs serves ran firm list
