use Rattle.top_down_laws.proofs.SoundLaws.{asks_are_sound}
use Rattle.top_down_laws.proofs.laws.asks_that_wait_are_sound.Goals as goal

pub returns : goal.returns
returns c = asks_are_sound
