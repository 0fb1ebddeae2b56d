use Rattle.level_queue.proofs.QueueLaws.{queue_in_step_kept}
use Rattle.level_queue.proofs.laws.in_step_stays.Goals as goal

pub returns : goal.returns
returns g c q old new same step = queue_in_step_kept q old new same step
