use Rattle.std.proofs.Common.{ap}
use Rattle.reduce_sweep.specs.declared.reduce.ReduceSweep.{ReduceSweep}
use Rattle.std.proofs.lemmas.Result.{on_ok_weaker}
use Rattle.reduce_sweep.proofs.Doing.{does_then}
use Rattle.reduce_sweep.proofs.ForwardingKeeps.{passed_along}
use Rattle.reduce_sweep.proofs.reduce.ReduceSweep.forward_along.Goals as goal

-- an arc was pushed, and another one passed over
pub returns-clause-does : goal.returns-clause-does
returns-clause-does g c = does_then g.S.Shelf.tells g.S.Shelf.world g.S.Shelf.faults 48 1 3 0 _ _ _ c.args.self.now
    c.push.new.self c.read_inner.new.self c.push.result c.read_inner.result
    c.requires.fit.sound (ap (λ (r : ReduceSweep). r.ahead.reader) c.push.ensures.rest) c.in_ok-push.ensures.trusts
    c.push.ensures.does c.read_inner.ensures.does

pub returns-clause-along : goal.returns-clause-along
returns-clause-along g c = passed_along c.args.self.now.ahead.inner c.args.self.now c.push.new.self
    c.read_inner.new.self _ _ _ _ _ c.args.told c.read_inner.result
    (ap (λ (r : ReduceSweep). r.ahead.inner) c.push.ensures.rest)
    (λ told. c.read_inner.ensures.does.leaves.content.before told) c.in_ok-push.ensures.joined
    c.read_inner.ensures.passed

pub returns-clause-trusts : goal.returns-clause-trusts
returns-clause-trusts g c = on_ok_weaker c.read_inner.result
    (λ keeps told lists. keeps told (c.in_ok-push.ensures.trusts (c.read_inner.ensures.does.leaves.content.before told)
    lists)) c.read_inner.ensures.trusts
