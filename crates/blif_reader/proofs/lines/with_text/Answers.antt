use Rattle.std.proofs.Common.{ap, length, arith}
use Rattle.text_words.specs.Text.{Word}
use Rattle.blif_reader.proofs.Pieces.{words_few}
use Rattle.blif_reader.proofs.lines.with_text.Goals as goal

pub with_word-sum-requires : goal.with_word-sum-requires
with_word-sum-requires c = let one = ap (length {A = Word}) c.in-Some.ensures.steps in omega (arith, one, c.loop-word.invariant.count, words_few 0 c.args.text.now, c.requires.small, c.requires.few)

pub returns-clause-count : goal.returns-clause-count
returns-clause-count c = omega (arith, c.loop-word.invariant.count, words_few 0 c.args.text.now, c.requires.small)
