use Rattle.std.proofs.Common.{◌≡◌, ◌≤◌, length, arith}
use Rattle.block_stream.proofs.ReadLaws.{value_more, values_at, none_past}
use Rattle.block_stream.proofs.front.values_len.Goals as goal

pub loop-n-preserved : goal.loop-n-preserved
loop-n-preserved g c =
    value_more g.T.Spill.is_value g.T.Spill.words c.loop-n.n c.args.records.now _ c.in-Some._item c.loop-n-test.true c.loop-n.invariant c.in-Some.ensures.value c.in-Some.ensures.found

pub returns-clause-values : goal.returns-clause-values
returns-clause-values g c =
    let all : c.loop-n.n ≡ length c.args.records.now = omega arith in
    values_at g.T.Spill.is_value g.T.Spill.words c.loop-n.n (length c.args.records.now) c.args.records.now all c.loop-n.invariant

pub returns-clause-ended : goal.returns-clause-ended
returns-clause-ended g c =
    let all : length c.args.records.now ≤ length c.args.records.now = omega arith in
    none_past g.T.Spill.is_value g.T.Spill.words (length c.args.records.now) c.args.records.now all
