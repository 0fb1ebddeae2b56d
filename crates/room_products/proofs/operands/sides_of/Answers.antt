use Rattle.std.proofs.Common.{◌∙◌, sym, arith}
use Rattle.room_products.proofs.SideLaws.{packed_sides}
use Rattle.room_products.proofs.operands.sides_of.Goals as goal

pub returns : goal.returns
returns c targets gives =
    let (low, high) = packed_sides targets c.args.nodes.records.now c.args.nodes.count c.saturating_add-place.result
    c.args.level c.args.word gives c.if-place-nodes.false c.if-place-nodes-2.false
    (sym c.word_at.ensures ∙ c.if-word_at-word.false) (omega (arith, c.if-word-end.false, c.from.ensures)) in
    (c.word_at-low.ensures ∙ low, c.word_at-high.ensures ∙ high)
