use Rattle.std.proofs.Common.{◌∷◌, ◌∙◌, ap, sym, arith}
use Rattle.text_words.specs.Left.{lines_left}
use Rattle.blif_reader.specs.Grammar.{shape_of}
use Rattle.blif_reader.specs.Text.{words_at}
use Rattle.blif_reader.proofs.Pieces.{lines_few, lines_some}
use Rattle.blif_reader.proofs.Joins.{begins_with, shape_is}
use Rattle.blif_reader.proofs.lines.next_line.Goals as goal

pub with_joined-shape-requires-clause-lines : goal.with_joined-shape-requires-clause-lines
with_joined-shape-requires-clause-lines c =
    let rest = c.in_ok-number.ensures.rest in
    omega (arith, lines_few c.in_ok-number.number c.in_ok-number.text.now (lines_left c.args.lines.now) rest, rest.few)

pub returns : goal.returns
returns c =
    let rest = c.in_ok-number.ensures.rest in
    let begins = begins_with (lines_left c.args.lines.now) c.in_ok-number.number c.in_ok-number.text.now rest in
    record {
      first = begins.0 ∙ ap (λ js. record { number = c.in_ok-number.number; words = words_at c.in_ok-number.number c.in_ok-number.text.now } ∷ js) (sym c.with_joined-shape.ensures.behind);
      shown = c.with_joined-shape.ensures.shape ∙ shape_is _ ∙ ap shape_of begins.1;
      fewer = omega (arith, lines_some c.in_ok-number.number c.in_ok-number.text.now (lines_left c.args.lines.now) rest, c.with_joined-shape.ensures.fewer);
    }
