use Rattle.std.proofs.Common.{arith}
use Rattle.copy_sweep.proofs.Rebuilding.{rules_of, rebuilt_after}
use Rattle.copy_sweep.proofs.copy.CopySweepSweep.rebuild.Goals as goal

-- the file that is made is cut behind what was kept of it, or this failed
pub returns-in_err-cut_behind-clause-content : goal.returns-in_err-cut_behind-clause-content
returns-in_err-cut_behind-clause-content g c =
    let holds = c.in-Some.ensures.found in
    rebuilt_after g.S.Shelf.tells g.S.Shelf.world c.args.from.now c.in-Some.saved holds
    (rules_of c.args.from.now c.in-Some.saved c.requires.fits holds) _ _ _ c.agree.ensures.content
    c.cut_behind.ensures.content

pub returns-clause-content : goal.returns-clause-content
returns-clause-content g c =
    let holds = c.in-Some.ensures.found in
    rebuilt_after g.S.Shelf.tells g.S.Shelf.world c.args.from.now c.in-Some.saved holds
    (rules_of c.args.from.now c.in-Some.saved c.requires.fits holds) _ _ _ c.agree.ensures.content
    c.cut_behind.ensures.content

-- the lengths of both files are asked for, and one of them is cut
pub returns-in_err-agree-clause-calls : goal.returns-in_err-agree-clause-calls
returns-in_err-agree-clause-calls g c = λ told task names. let few = c.agree.ensures.calls told in omega (arith, few)

pub returns-in_err-cut_behind-clause-calls : goal.returns-in_err-cut_behind-clause-calls
returns-in_err-cut_behind-clause-calls g c = λ told task names.
    let few = c.agree.ensures.calls (c.cut_behind.ensures.content.before told) in
    let more = c.cut_behind.ensures.calls told in
    omega (arith, few, more)

pub returns-clause-calls : goal.returns-clause-calls
returns-clause-calls g c = λ told task names.
    let few = c.agree.ensures.calls (c.cut_behind.ensures.content.before told) in
    let more = c.cut_behind.ensures.calls told in
    omega (arith, few, more)
