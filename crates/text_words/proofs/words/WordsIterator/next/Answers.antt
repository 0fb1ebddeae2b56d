use Rattle.std.proofs.Common.{arith, ap, length}
use Rattle.text_words.specs.Text.{Word}
use Rattle.text_words.proofs.Pieces.{none_left, one_left}
use Rattle.text_words.proofs.words.WordsIterator.next.Goals as goal

pub returns-then-len-eq0-clause-steps : goal.returns-then-len-eq0-clause-steps
returns-then-len-eq0-clause-steps c =
    none_left c.args.self.now.at c.blanks_len-skipped.result c.word_len-len.result c.args.self.now.rest.now c.split_at.result.1.now c.split_at-2.result.1.now
    c.blanks_len-skipped.ensures.first c.split_at.ensures.back c.word_len-len.ensures.first c.if-len-eq0.true c.split_at-2.ensures.back

pub returns-else-len-eq0-clause-steps : goal.returns-else-len-eq0-clause-steps
returns-else-len-eq0-clause-steps c =
    one_left c.args.self.now.at c.blanks_len-skipped.result c.word_len-len.result c.args.self.now.rest.now c.split_at.result.1.now c.split_at-2.result.0.now c.split_at-2.result.1.now
    c.blanks_len-skipped.ensures.first c.split_at.ensures.back c.word_len-len.ensures.first c.if-len-eq0.false c.split_at-2.ensures.front c.split_at-2.ensures.back

pub returns-else-len-eq0-clause-goes : goal.returns-else-len-eq0-clause-goes
returns-else-len-eq0-clause-goes c =
    let steps = one_left c.args.self.now.at c.blanks_len-skipped.result c.word_len-len.result c.args.self.now.rest.now c.split_at.result.1.now c.split_at-2.result.0.now c.split_at-2.result.1.now
    c.blanks_len-skipped.ensures.first c.split_at.ensures.back c.word_len-len.ensures.first c.if-len-eq0.false c.split_at-2.ensures.front c.split_at-2.ensures.back in
    let count = ap (length {A = Word}) steps in
    record { on = λ _. (tt, tt, omega (arith, count)); keeps = tt; rests = λ _. tt }
