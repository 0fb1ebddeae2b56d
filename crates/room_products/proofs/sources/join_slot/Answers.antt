use Rattle.std.proofs.Common.{◌≡◌, ◌∙◌, Bool, false, true, refl, arith}
use Rattle.rec_words.specs.Words.{level_of}
use Rattle.packed_records.specs.Packed.{packed}
use Rattle.packed_records.proofs.PackedLaws.{length-packed}
use Rattle.top_down.specs.Operations.{two}
use Rattle.room_products.proofs.SlotJoining.{pair_on, slot_side, slot_joined}
use Rattle.room_products.proofs.sources.join_slot.Goals as goal

pub returns-clause-joined : goal.returns-clause-joined
returns-clause-joined c n root roots targets top rule rows joining =
    let lefts = c.in_ok-lefts.ensures targets.first rows.first in
    let rights = c.in_ok-rights.ensures targets.second rows.second in
    let leads : (side : Bool) → pair_on targets (level_of c.word_at-source.result) side c.word_at-first.result
    c.word_at-second.result ≡ slot_side targets (packed c.args.slots.now) c.args.place side =
    λ side j. pair_on targets (level_of (c.word_at-source.ensures j)) side (c.word_at-first.ensures j)
    (c.word_at-second.ensures j) in
    let put = c.if-not-put_source.ensures in
    let unused = c.if-place-begun.false in
    let source = c.word_at-source.ensures in
    let room = put.within refl in
    slot_joined c.args.operands.op n root roots targets (packed c.args.slots.now) (packed c.answer_pair.new.slots)
    (packed c.answer_pair-2.new.slots) c.args.firsts.now c.answer_pair.new.firsts c.answer_pair-2.new.firsts
    c.args.begun.count c.in_ok-low.low.count c.in_ok-high.high.count (packed c.args.sources.now)
    (packed c.put_source.new.sources) c.args.begun.done c.args.place c.in_ok-low.low.word c.in_ok-high.high.word _ _ top
    rule
    (omega (arith, unused)) ((λ j. two (lefts.0 j) (rights.0 j)) ∙ leads false)
    ((λ j. two (lefts.1 j) (rights.1 j)) ∙ leads true)
    c.in_ok-low.ensures.kept c.in_ok-high.ensures.kept c.in_ok-low.ensures.answered c.in_ok-high.ensures.answered
    c.in_ok-low.ensures.answer c.in_ok-high.ensures.answer
    (record {
      within = omega (arith, room, length-packed c.put_source.new.sources);
      source_is = put.source refl ∙ source;
      low_is = put.low refl;
      high_is = put.high refl;
      others = put.others refl;
      greater = λ some. let less = put.greater refl some in omega (arith, less, source);
    })
    joining
