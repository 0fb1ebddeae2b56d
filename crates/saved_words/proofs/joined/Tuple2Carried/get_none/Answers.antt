use Rattle.std.proofs.Common.{refl}
use Rattle.saved_words.proofs.Placing.{zeros_behind, zeros_missing}
use Rattle.saved_words.proofs.joined.Tuple2Carried.get_none.Goals as goal

pub returns-then-get_none-clause-zeros : goal.returns-then-get_none-clause-zeros
returns-then-get_none-clause-zeros g c = zeros_behind g.A.Carried.count g.B.Carried.count c.args.from.now _
    c.get_none-then-get_none.result
    (c.if-get_none.ensures.zeros.0 refl) (c.if-get_none.ensures.moves refl) c.get_none-then-get_none.ensures.zeros

pub returns-else-get_none-clause-zeros : goal.returns-else-get_none-clause-zeros
returns-else-get_none-clause-zeros g c = zeros_missing g.A.Carried.count g.B.Carried.count c.args.from.now
    c.get_none.result c.if-get_none.false c.get_none.ensures.zeros
