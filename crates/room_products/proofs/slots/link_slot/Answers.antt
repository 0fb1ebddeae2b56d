use Rattle.std.proofs.Common.{◌∙◌, ◌+◌, ◌-◌, [], ap, arith, get_or-set_other, get_or-set_same}
use Rattle.packed_records.specs.Packed.{packed}
use Rattle.top_down.specs.Operations.{two}
use Rattle.room_products.specs.Level.{level_in}
use Rattle.room_products.specs.Slots.{pair_at, id_at}
use Rattle.room_products.proofs.AddedSlots.{words_linked}
use Rattle.room_products.proofs.slots.link_slot.Goals.{then-last-gt0+then-last-slots, else-last-gt0}
use Rattle.room_products.proofs.slots.link_slot.Goals as goal

-- the number that is written stands in the last column
pub returns-clause-pairs : goal.returns-clause-pairs
returns-clause-pairs c k = elim c.if-last-gt0.branch [
  | then-last-gt0+then-last-slots w ↦
      let put = w.put_number.ensures in
      let last = c.of-known.result.last_slot - 1 in
      let same = words_linked c.args.slots.now w.put_number.new.room last w.put_number.auto.room
      (omega (arith, w.if-last-gt0.true, w.if-last-slots.true)) put.columns put.others k in
      ap (λ s. pair_at (packed s) k) w.slots-is ∙ (λ j. two (same 0 (omega arith) j) (same 1 (omega arith) j))
  | else-last-gt0 w ↦ ap (λ s. pair_at (packed s) k) w.slots-is
]

pub returns-clause-ids : goal.returns-clause-ids
returns-clause-ids c k = elim c.if-last-gt0.branch [
  | then-last-gt0+then-last-slots w ↦
      let put = w.put_number.ensures in
      let last = c.of-known.result.last_slot - 1 in
      ap (λ s. id_at (packed s) k) w.slots-is
      ∙ words_linked c.args.slots.now w.put_number.new.room last w.put_number.auto.room
      (omega (arith, w.if-last-gt0.true, w.if-last-slots.true)) put.columns put.others k 2 (omega arith)
  | else-last-gt0 w ↦ ap (λ s. id_at (packed s) k) w.slots-is
]

-- one identifier more of the level is used
pub returns-clause-used : goal.returns-clause-used
returns-clause-used c =
    ap (λ r. (level_in r).used)
    (get_or-set_same c.args.firsts.now c.args.level c.to_rec.result (record { w = [] }) c.requires.level)
    ∙ ap (λ r. (level_in r).used) c.to_rec.ensures ∙ ap (λ k. k + 1) c.used_of-used.ensures

pub returns-clause-others : goal.returns-clause-others
returns-clause-others c i other =
    ap (λ r. (level_in r).used)
    (get_or-set_other c.args.firsts.now c.args.level i c.to_rec.result (record { w = [] }) other)
