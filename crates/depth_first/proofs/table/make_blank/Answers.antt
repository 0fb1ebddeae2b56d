use Rattle.std.proofs.Common.{length, subst, arith}
use Rattle.std.proofs.lemmas.List.{drop_all}
use Rattle.depth_first.specs.Tables.{IsBlankBut}
use Rattle.depth_first.proofs.Blanks.{blank_all}
use Rattle.depth_first.proofs.table.make_blank.Goals as goal
use Rattle.std.proofs.lemmas.Grind.{common_steps}

pub returns : goal.returns
returns g c =
    blank_all c.args.blank c.loop-place.table (length c.args.table.now) c.loop-place.invariant.size
    (subst (λ places. IsBlankBut places c.args.blank c.loop-place.table)
    (drop_all c.loop-place.place-index c.args.places.now (omega arith)) c.loop-place.invariant.others)

pub loop-place-preserved : goal.loop-place-preserved
loop-place-preserved g c = grind (arith, common_steps)
