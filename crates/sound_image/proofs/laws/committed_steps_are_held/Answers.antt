use Rattle.sound_image.proofs.Waiting.{none_after_commits, holds_after_commits}
use Rattle.sound_image.proofs.laws.committed_steps_are_held.Goals as goal

pub returns : goal.returns
returns c = λ job committed waiting old m files few rests waits some during all. (
  holds_after_commits job few rests committed waiting old m files waits during some all,
  none_after_commits job few rests committed waiting old m files waits during some,
)
