use Rattle.std.proofs.Common.{◌≡◌, ap, subst, length, drop, cond, arith}
use Rattle.text_words.specs.Text as text
use Rattle.text_words.specs.Left.{line_of, lines_left}
use Rattle.blif_reader.specs.Text.{joined, first_words}
use Rattle.blif_reader.specs.Lines.{shape_in, with_words, words_joined}
use Rattle.blif_reader.proofs.Joins.{shape_step, behind_step, shape_end, behind_end}
use Rattle.blif_reader.proofs.lines.with_joined.Goals as goal

pub with_text-sum-requires-clause-few : goal.with_text-sum-requires-clause-few
with_text-sum-requires-clause-few c = let one = ap (length {A = text.Line}) c.in-Some.ensures.steps in omega (arith, one, c.lines.invariant.count, c.requires.lines)

pub returns-then-not-joins-clause-shape : goal.returns-then-not-joins-clause-shape
returns-then-not-joins-clause-shape c =
    subst (λ b. with_words (shape_in c.with_text-sum.result) (words_joined b (lines_left c.next.new.self)) ≡ with_words (shape_in c.args.shape) (first_words (joined (lines_left c.args.lines.now)))) c.if-not-joins.true
    (shape_step (shape_in c.lines.sum) _ _ (line_of c.in-Some.line) _ _ c.code-joins.result.0.now c.code-joins.result.1 c.in-Some.ensures.steps c.code-joins.ensures.text c.code-joins.ensures.joins c.with_text-sum.ensures.shape c.lines.invariant.shape)

pub returns-then-not-joins-clause-behind : goal.returns-then-not-joins-clause-behind
returns-then-not-joins-clause-behind c =
    subst (λ b. cond b (drop 1 (joined (lines_left c.next.new.self))) (joined (lines_left c.next.new.self)) ≡ drop 1 (joined (lines_left c.args.lines.now))) c.if-not-joins.true
    (behind_step _ (line_of c.in-Some.line) _ _ c.code-joins.result.1 c.in-Some.ensures.steps c.code-joins.ensures.joins c.lines.invariant.behind)

pub lines-preserved : goal.lines-preserved
lines-preserved c =
    let one = ap (length {A = text.Line}) c.in-Some.ensures.steps in
    record {
      shape = subst (λ b. with_words (shape_in c.with_text-sum.result) (words_joined b (lines_left c.next.new.self)) ≡ with_words (shape_in c.args.shape) (first_words (joined (lines_left c.args.lines.now)))) c.if-not-joins.false
          (shape_step (shape_in c.lines.sum) _ _ (line_of c.in-Some.line) _ _ c.code-joins.result.0.now c.code-joins.result.1 c.in-Some.ensures.steps c.code-joins.ensures.text c.code-joins.ensures.joins c.with_text-sum.ensures.shape c.lines.invariant.shape);
      behind = subst (λ b. cond b (drop 1 (joined (lines_left c.next.new.self))) (joined (lines_left c.next.new.self)) ≡ drop 1 (joined (lines_left c.args.lines.now))) c.if-not-joins.false
          (behind_step _ (line_of c.in-Some.line) _ _ c.code-joins.result.1 c.in-Some.ensures.steps c.code-joins.ensures.joins c.lines.invariant.behind);
      fewer = omega (arith, one, c.lines.invariant.fewer);
      count = omega (arith, one, c.lines.invariant.count, c.with_text-sum.ensures.count);
    }

pub returns-clause-shape : goal.returns-clause-shape
returns-clause-shape c = shape_end _ _ _ c.in_default.ensures.steps.0 c.lines.invariant.shape

pub returns-clause-behind : goal.returns-clause-behind
returns-clause-behind c = behind_end _ _ _ c.in_default.ensures.steps.0 c.in_default.ensures.steps.1 c.lines.invariant.behind
