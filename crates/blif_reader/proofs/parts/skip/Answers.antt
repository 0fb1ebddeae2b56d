use Rattle.blif_reader.specs.Lines.{words_left}
use Rattle.blif_reader.proofs.Windows.{skips_one}
use Rattle.blif_reader.proofs.parts.skip.Goals as goal

pub loop-word-preserved : goal.loop-word-preserved
loop-word-preserved c = skips_one c.next.result c.loop-word._word (words_left c.loop-word.words) (words_left c.next.new.self) (words_left c.args.words.now) c.loop-word.invariant c.next.ensures.steps
