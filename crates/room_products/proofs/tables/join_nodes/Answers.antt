use Rattle.std.specs.Prelude.{is_some, []}
use Rattle.std.proofs.Common.{◌∙◌, sym, ap, subst}
use Rattle.top_down.specs.Operations.{product_rule, two}
use Rattle.packed_records.specs.Packed.{packed}
use Rattle.room_products.specs.Joining.{IsJoining}
use Rattle.room_products.proofs.FirstSlot.{roots_low, roots_asked, no_slots, first_joining}
use Rattle.room_products.proofs.DiagramLaws.{rows_of_table}
use Rattle.room_products.proofs.tables.join_nodes.Goals as goal

-- the sources of all slots are those of a diagram of the table
pub returns-clause-joined : goal.returns-clause-joined
returns-clause-joined c n targets few laws given asked =
    let rule = product_rule c.args.asked.op in
    let roots = two c.args.asked.first c.args.asked.second in
    let root = c.in_ok-root.root in
    let none = sym (ap is_some c.end_of.ensures) ∙ sym c.is_some.ensures ∙ c.if-is_some.false in
    let low = roots_low c.args.asked.op n targets roots laws asked none in
    let are = c.in_ok-root.ensures.added n rule (roots_asked n rule targets roots laws asked) low
    (no_slots n rule (packed c.args.slots.now) c.index_nodes.new.firsts) in
    let begun = first_joining n root roots rule targets (packed c.add_slot.new.slots) c.add_slot.new.firsts
    (packed c.args.sources.now) are c.in_ok-root.ensures.pair c.in_ok-root.ensures.id in
    let ended = c.in_ok-ended.ensures.joined n root roots targets few laws given begun in
    let slots = packed c.join_levels.new.slots in
    let sources = packed c.join_levels.new.sources in
    rows_of_table n root roots rule targets slots c.join_levels.new.firsts c.in_ok-ended.ended.count sources few laws
    (subst (λ d. IsJoining n root roots rule targets [] slots c.join_levels.new.firsts
    c.in_ok-ended.ended.count sources d) c.if-ended-count.false ended)
    (c.are_done.ensures c.if-not-are_done.false) asked
