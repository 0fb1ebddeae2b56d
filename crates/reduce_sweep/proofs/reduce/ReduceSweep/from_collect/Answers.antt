use Rattle.std.proofs.Common.{subst}
use Rattle.reduce_sweep.specs.declared.phase.Phase.TheVariants.{Between, Number}
use Rattle.reduce_sweep.specs.Sweeps.{Handles, none_numbered}
use Rattle.reduce_sweep.proofs.Doing.{does_then}
use Rattle.std.proofs.lemmas.Result.{on_ok_weaker}
use Rattle.reduce_sweep.proofs.TurnKeeps.{handles_then}
use Rattle.reduce_sweep.proofs.reduce.ReduceSweep.from_collect.Goals as goal

-- the phase is over, and the next one begins
pub from_number-requires-clause-phase : goal.from_number-requires-clause-phase
from_number-requires-clause-phase g c = (subst (Handles (Number none_numbered) c.args.self.now c.collect.new.self)
    c.if-branch.false c.in_ok-collect.ensures.handles).0

pub returns-clause-does : goal.returns-clause-does
returns-clause-does g c = does_then g.S.Shelf.tells g.S.Shelf.world g.S.Shelf.faults 32 70 1 4 _ _ _ c.args.self.now
    c.collect.new.self c.from_number.new.self c.collect.result c.from_number.result
    c.requires.fit.sound (subst (Handles (Number none_numbered) c.args.self.now c.collect.new.self) c.if-branch.false
    c.in_ok-collect.ensures.handles).2 c.in_ok-collect.ensures.trusts c.collect.ensures.does c.from_number.ensures.does

pub returns-clause-handles : goal.returns-clause-handles
returns-clause-handles g c = handles_then (Number none_numbered) Between c.args.self.now c.collect.new.self
    c.from_number.new.self c.from_number.result
    (subst (Handles (Number none_numbered) c.args.self.now c.collect.new.self) c.if-branch.false
    c.in_ok-collect.ensures.handles) c.from_number.ensures.handles

pub returns-clause-keeps : goal.returns-clause-keeps
returns-clause-keeps g c = on_ok_weaker c.from_number.result
    (λ keeps told d working. keeps told d (c.in_ok-collect.ensures.keeps
    (c.from_number.ensures.does.leaves.content.before told) d working)) c.from_number.ensures.keeps

pub returns-clause-trusts : goal.returns-clause-trusts
returns-clause-trusts g c = on_ok_weaker c.from_number.result
    (λ keeps told lists. keeps told (c.in_ok-collect.ensures.trusts
    (c.from_number.ensures.does.leaves.content.before told) lists)) c.from_number.ensures.trusts
