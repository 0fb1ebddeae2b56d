use Rattle.std.proofs.Common.{subst, sym, arith}
use Rattle.list_laws.specs.Members.{Has}
use Rattle.canon_file.proofs.SearchLaws.{has_at}
use Rattle.canon_file.proofs.level.pointers_of.Goals as goal
use Rattle.std.proofs.lemmas.Grind.{common_steps}

pub pointer_of-requires-clause-known : goal.pointer_of-requires-clause-known
pointer_of-requires-clause-known c =
    c.requires.known c.pair-item.result
    (subst (λ r. Has r c.args.pairs.now) (sym c.pair-item.is) (has_at c.args.pairs.now c.loop-pair.pair-index c.pair-item.result c.loop-pair-test.true))

pub loop-pair-preserved : goal.loop-pair-preserved
loop-pair-preserved c = grind (arith, common_steps)

pub returns : goal.returns
returns c = grind (arith, common_steps)
