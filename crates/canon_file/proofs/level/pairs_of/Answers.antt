use Rattle.std.proofs.Common.{arith}
use Rattle.canon_file.proofs.LevelLaws.{pairs_pushed, pairs_all}
use Rattle.canon_file.proofs.level.pairs_of.Goals as goal

pub loop-k-preserved : goal.loop-k-preserved
loop-k-preserved c =
    pairs_pushed c.args.pointers.now c.loop-k.k c.index-pointers-k.result c.index-pointers-k-in-loop-k.result _ _ _ (omega arith)
    c.index-pointers-k.is c.index-pointers-k-in-loop-k.is c.in_ok-push.ensures.items c.loop-k.invariant

pub returns : goal.returns
returns c = pairs_all c.args.pointers.now c.loop-k.k _ (omega arith) c.loop-k.invariant
