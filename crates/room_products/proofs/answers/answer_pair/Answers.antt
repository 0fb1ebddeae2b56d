use Rattle.std.proofs.Common.{rules, ◌≡◌, None}
use Rattle.top_down.specs.Operations.{two, product_goal, product_rule}
use Rattle.packed_records.specs.Packed.{packed}
use Rattle.room_products.specs.Goals.{end_in}
use Rattle.room_products.proofs.AnsweredPairs.{asked_there, below_all, joining_more}
use Rattle.room_products.proofs.answers.answer_pair.Goals as goal

pub returns-clause-answered : goal.returns-clause-answered
returns-clause-answered c n root i roots targets owed sources done within rule asked joining =
    let pair = two c.args.first c.args.second in
    let none : end_in (product_goal c.args.op pair) ≡ None = search rules in
    let slots_are = c.in_ok-word.ensures.added n (product_rule c.args.op) (asked_there n i c.args.op pair asked)
    (below_all n i c.args.op targets pair within rule asked none) joining.slots_are in
    joining_more n root roots (product_rule c.args.op) targets owed (packed c.args.slots.now)
    (packed c.add_slot.new.slots) c.args.firsts.now c.add_slot.new.firsts sources c.args.count done
    c.in_ok-word.word c.in_ok-word.ensures.kept c.in_ok-word.ensures.id slots_are joining
