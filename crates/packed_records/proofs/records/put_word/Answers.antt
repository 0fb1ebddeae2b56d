use Rattle.std.proofs.Common.{◌*◌, ◌<◌, length, ap, ◌∙◌, arith}
use Rattle.packed_records.specs.Numbers.{widened}
use Rattle.packed_records.proofs.PackedLaws.{word_packed, packed_same_at, packed_same_word}
use Rattle.packed_records.proofs.records.put_word.Goals as goal

pub returns-clause-own : goal.returns-clause-own
returns-clause-own c put =
    let put = c.put_number in
    let within : c.args.place < 4 * length put.new.room = omega (arith, c.requires.place, put.auto.room) in
    word_packed put.new.room c.args.place c.args.column within c.requires.column
    ∙ ap widened put.ensures.own ∙ c.in-Some.ensures

pub returns-clause-columns : goal.returns-clause-columns
returns-clause-columns c column other =
    let put = c.put_number in
    packed_same_word c.args.room.now put.new.room c.args.place column put.auto.room c.requires.place
    (λ few. put.ensures.columns column few other)

pub returns-clause-others : goal.returns-clause-others
returns-clause-others c k other =
    let put = c.put_number in
    packed_same_at c.args.room.now put.new.room k put.auto.room (λ column few. put.ensures.others k column few other)
