use Rattle.resumable.proofs.Reached.{still_resumable}
use Rattle.resumable.proofs.laws.the_same_is_resumable.Goals as goal

pub returns : goal.returns
returns c = still_resumable
