use Rattle.std.proofs.Common.{◌∙◌, ap, arith, []}
use Rattle.top_down.specs.Operations.{product_rule}
use Rattle.packed_records.specs.Packed.{packed}
use Rattle.room_products.specs.Level.{level_in}
use Rattle.room_products.specs.declared.level.Level.{Level}
use Rattle.room_products.proofs.MarkedLevels.{joining_marked}
use Rattle.room_products.proofs.levels.join_level.Goals as goal

pub loop-source-init : goal.loop-source-init
loop-source-init c = record {
  within = c.requires.within;
  done_within = c.requires.done;
  joined = λ n root roots targets top rule rows joining.
      joining_marked c.args.firsts.now c.args.level c.to_rec.result c.requires.level
      (ap (λ r. (level_in r).used) c.to_rec.ensures ∙ ap (λ (x : Level). x.used) c.of-known.ensures) n root roots
      (product_rule c.args.operands.op) targets [] (packed c.args.slots.now) c.args.begun.count
      (packed c.args.sources.now) c.args.begun.done joining;
}

pub loop-source-preserved : goal.loop-source-preserved
loop-source-preserved c =
    let so_far = c.loop-source.invariant in
    let turn = c.in_ok-count.ensures in
    let one_more = turn.done in
    record {
      within = turn.within;
      done_within = omega (arith, one_more);
      joined = λ n root roots targets top rule rows joining.
          turn.joined n root roots targets top rule rows
          (so_far.joined n root roots targets top rule rows joining);
    }
