use Rattle.std.proofs.Common.{◌∙◌, sym}
use Rattle.text_words.specs.Left as left
use Rattle.blif_reader.proofs.Joins.{words_end, words_step}
use Rattle.blif_reader.proofs.lines.JoinedWordsIterator.next.Goals as goal

pub lines-preserved : goal.lines-preserved
lines-preserved c =
    words_step (left.words_left c.lines.self.words) _ c.lines.self.joins c.code-joins.result.1 (left.line_of c.in-Some-next.line) _ (left.lines_left c.lines.self.lines) c.code-joins.result.0.now _
    c.in_default.ensures.steps.0 c.if-not-self.false c.in-Some-next.ensures.steps c.code-joins.ensures.text c.code-joins.ensures.joins c.of-self.ensures c.lines.invariant

pub returns-in_default-next-clause-steps : goal.returns-in_default-next-clause-steps
returns-in_default-next-clause-steps c = (
  sym c.lines.invariant ∙ words_end (left.words_left c.lines.self.words) c.lines.self.joins (left.lines_left c.lines.self.lines) c.in_default.ensures.steps.0 c.in_default-next.ensures.steps.0,
  words_end (left.words_left c.next.new.self) c.lines.self.joins (left.lines_left c.next-in-lines.new.self) c.in_default.ensures.steps.1 c.in_default-next.ensures.steps.1,
)
