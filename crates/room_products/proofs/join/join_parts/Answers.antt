use Rattle.std.proofs.Common.{◌+◌, ◌*◌, ◌/◌, ◌≤◌, subst, arith}
use Rattle.std.specs.Prelude.{IfSome}
use Rattle.copied_diagrams.specs.Operands.{pair_table}
use Rattle.room_reduction.specs.Sources.{sources_in}
use Rattle.room_reduction.proofs.FilledLaws.{ok_weaker}
use Rattle.room_products.specs.Joined.{AreOfTable}
use Rattle.room_products.proofs.JoinRuns.{told_looked, told_after}
use Rattle.room_products.proofs.join.join_parts.Goals as goal

-- the sources are those of the operator's diagram
pub returns-clause-made : goal.returns-clause-made
returns-clause-made g c =
    let n = c.args.n in
    ok_weaker _ _ c.reduce_joined.result (λ done made told t u left right.
    let mid = c.reduce_joined.ensures.content.before told in
    let are = c.in_ok-joined.ensures.joined mid n t u c.requires.variables left right in
    made told (pair_table n c.args.op t u)
    (subst (λ o. IfSome o (λ j. AreOfTable n j.root (pair_table n c.args.op t u)
    (sources_in j.count c.join_operands.new.area))) c.in-Some.is are)) c.reduce_joined.ensures.made

-- the operands are read, and then one file is made
pub returns-clause-content : goal.returns-clause-content
returns-clause-content g c =
    let few : c.in-Some.joined.count ≤ 4 * (c.args.most / 4) =
    subst (λ o. IfSome o (λ j. j.count ≤ 4 * (c.args.most / 4))) c.in-Some.is c.in_ok-joined.ensures.few in
    told_after g.S.Shelf.tells g.S.Shelf.world c.args.out
    (c.args.pair.left.trailer.count + c.args.pair.right.trailer.count)
    (c.in-Some.joined.count + 6) _ _ _ _ (omega (arith, few)) c.join_operands.ensures.content
    c.reduce_joined.ensures.content

pub returns-in_default-clause-content : goal.returns-in_default-clause-content
returns-in_default-clause-content g c =
    told_looked g.S.Shelf.tells g.S.Shelf.world c.args.out
    (c.args.pair.left.trailer.count + c.args.pair.right.trailer.count)
    _ _ _ (omega arith) c.join_operands.ensures.content

pub returns-in_err-joined-clause-content : goal.returns-in_err-joined-clause-content
returns-in_err-joined-clause-content g c =
    told_looked g.S.Shelf.tells g.S.Shelf.world c.args.out
    (c.args.pair.left.trailer.count + c.args.pair.right.trailer.count)
    _ _ _ (omega arith) c.join_operands.ensures.content
