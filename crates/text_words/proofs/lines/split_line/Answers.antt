use Rattle.std.proofs.Common.{arith, ◌≡◌, ◌∙◌, ◌∷◌, ap, sym, take, length}
use Rattle.std.specs.List.{slice_split}
use Rattle.text_words.specs.Text.{is_feed}
use Rattle.text_words.proofs.Pieces.{split_last, split_more}
use Rattle.text_words.proofs.lines.split_line.Goals as goal

pub returns-then-n-text-clause-split : goal.returns-then-n-text-clause-split
returns-then-n-text-clause-split c =
    let same : c.line_len-n.result ≡ length c.args.text.now = omega (arith, c.line_len-n.ensures.within, c.if-n-text.true) in
    split_last is_feed c.args.text.now c.line_len-n.result c.line_len-n.ensures.first same

pub returns-clause-split : goal.returns-clause-split
returns-clause-split c = split_more is_feed c.args.text.now c.line_len-n.result c.line_len-n.ensures.first c.if-n-text.false ∙ ap (λ t. take c.line_len-n.result c.args.text.now ∷ slice_split is_feed t) (sym c.split_at.ensures.back)
