use Rattle.level_queue.proofs.TableLaws.{queue_kept_frozen}
use Rattle.level_queue.proofs.laws.list_stays_frozen.Goals as goal

pub returns : goal.returns
returns g c q before after old new xs serves ran list = queue_kept_frozen g.T.Spill.is_value g.T.Spill.words g.T.Ord.cmp q before after old new xs serves ran list
