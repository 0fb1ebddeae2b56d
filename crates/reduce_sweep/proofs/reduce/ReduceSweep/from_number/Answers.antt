use Rattle.std.proofs.Common.{subst}
use Rattle.reduce_sweep.specs.declared.phase.Phase.TheVariants.{Between, Forward}
use Rattle.reduce_sweep.specs.Sweeps.{Handles}
use Rattle.reduce_sweep.proofs.Doing.{does_then}
use Rattle.std.proofs.lemmas.Result.{on_ok_weaker}
use Rattle.reduce_sweep.proofs.TurnKeeps.{handles_then}
use Rattle.reduce_sweep.proofs.reduce.ReduceSweep.from_number.Goals as goal

-- the phase is over, and the next one begins
pub forward-requires-clause-phase : goal.forward-requires-clause-phase
forward-requires-clause-phase g c = (subst (Handles (Forward) c.args.self.now c.give_number.new.self) c.if-branch.false
    c.in_ok-give_number.ensures.handles).0

pub returns-clause-does : goal.returns-clause-does
returns-clause-does g c = does_then g.S.Shelf.tells g.S.Shelf.world g.S.Shelf.faults 19 51 1 3 _ _ _ c.args.self.now
    c.give_number.new.self c.forward.new.self c.give_number.result c.forward.result
    c.requires.fit.sound (subst (Handles (Forward) c.args.self.now c.give_number.new.self) c.if-branch.false
    c.in_ok-give_number.ensures.handles).2 c.in_ok-give_number.ensures.trusts c.give_number.ensures.does
    c.forward.ensures.does

pub returns-clause-handles : goal.returns-clause-handles
returns-clause-handles g c = handles_then (Forward) Between c.args.self.now c.give_number.new.self c.forward.new.self
    c.forward.result
    (subst (Handles (Forward) c.args.self.now c.give_number.new.self) c.if-branch.false
    c.in_ok-give_number.ensures.handles) c.forward.ensures.handles

pub returns-clause-keeps : goal.returns-clause-keeps
returns-clause-keeps g c = on_ok_weaker c.forward.result
    (λ keeps told d working. keeps told d (c.in_ok-give_number.ensures.keeps
    (c.forward.ensures.does.leaves.content.before told) d working)) c.forward.ensures.keeps

pub returns-clause-trusts : goal.returns-clause-trusts
returns-clause-trusts g c = on_ok_weaker c.forward.result
    (λ keeps told lists. keeps told (c.in_ok-give_number.ensures.trusts
    (c.forward.ensures.does.leaves.content.before told) lists)) c.forward.ensures.trusts
