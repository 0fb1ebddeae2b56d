use Rattle.sound_image.proofs.Waiting.{sound_while_waiting_committed}
use Rattle.sound_image.proofs.laws.waiting_steps_are_committed_soundly.Goals as goal

pub returns : goal.returns
returns c = λ job committed waiting old m image files few rests waits during is_image.
    sound_while_waiting_committed job few rests committed waiting old m files waits during image is_image
