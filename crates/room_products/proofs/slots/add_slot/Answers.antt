use Rattle.std.proofs.Common.{◌∙◌, ◌+◌, ◌*◌, ◌/◌, refl, ap, arith}
use Rattle.rec_words.specs.Words.{level_numbers}
use Rattle.packed_records.specs.Packed.{packed}
use Rattle.packed_records.proofs.PackedLaws.{length-packed}
use Rattle.top_down.specs.Operations.{two}
use Rattle.room_reduction.specs.Records.{word}
use Rattle.room_products.proofs.AddedSlots.{slots_added, level_of_two, more_slots}
use Rattle.room_products.proofs.slots.add_slot.Goals as goal

-- the slots before the new one are kept
pub returns-clause-kept : goal.returns-clause-kept
returns-clause-kept c =
    let put = c.if-not-put_record.ensures in
    let linked = c.link_slot.ensures in
    slots_added c.args.slots.now c.put_record.new.room c.link_slot.new.slots c.args.count c.put_record.auto.room
    c.link_slot.auto.slots
    put.others linked.pairs linked.ids

-- and the new one has the next identifier of its level
pub returns-clause-added : goal.returns-clause-added
returns-clause-added c n rule asked low are =
    let put = c.if-not-put_record.ensures in
    let linked = c.link_slot.ensures in
    let old = c.args.slots.now in
    let new = c.link_slot.new.slots in
    let count = c.args.count in
    let pair = two c.args.first c.args.second in
    let level = c.min-level.result / level_numbers in
    let kept = slots_added old c.put_record.new.room new count c.put_record.auto.room c.link_slot.auto.slots
    put.others linked.pairs
    linked.ids in
    let least = c.min-level.ensures in
    let shallow = c.if-level-gt65534.false in
    let level_is = ap (λ m. m / level_numbers) least
    ∙ level_of_two c.args.first c.args.second (omega (arith, least, shallow)) in
    let free = c.if-count-min.false in
    let room = c.min.ensures in
    let used = c.used_of-used.ensures in
    let more = c.if-used-ge-MOST.false in
    more_slots n rule (packed old) (packed new) c.args.firsts.now c.link_slot.new.firsts count level pair kept
    (linked.pairs count ∙ ap (λ r. two (word 0 r) (word 1 r)) (put.own refl))
    (linked.ids count ∙ ap (word 2) (put.own refl) ∙ ap (λ k. level * level_numbers + k) used) level_is
    (omega (arith, more, used)) linked.used linked.others
    (omega (arith, free, room, length-packed old)) asked low are
