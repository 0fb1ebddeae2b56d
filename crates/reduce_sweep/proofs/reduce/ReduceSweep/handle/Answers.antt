use Rattle.std.proofs.Common.{subst, arith}
use Rattle.reduce_sweep.specs.declared.phase.Phase.TheVariants.{Between}
use Rattle.reduce_sweep.specs.Sweeps.{Handles}
use Rattle.reduce_sweep.proofs.Doing.{does_then, does_more}
use Rattle.std.proofs.lemmas.Result.{on_ok_weaker}
use Rattle.reduce_sweep.proofs.TurnKeeps.{falls_then, left_step, lists_in, left_remains, left_counts}
use Rattle.reduce_sweep.proofs.reduce.ReduceSweep.handle.Goals as goal

-- an item of the level was handled
pub returns-then-branch-clause-in_step : goal.returns-then-branch-clause-in_step
returns-then-branch-clause-in_step g c = λ told. left_step c.handle_level.new.self.place.phase _ c.handle_level.new.self
    _
    (subst (Handles Between c.args.self.now c.handle_level.new.self) c.if-branch.true
    c.in_ok-handle_level.ensures.handles).0 (c.in_ok-handle_level.ensures.fit.at_work told)

pub returns-then-branch-clause-trusts : goal.returns-then-branch-clause-trusts
returns-then-branch-clause-trusts g c = λ told lists. lists_in c.handle_level.new.self.place.phase
    c.handle_level.new.self _ (c.in_ok-handle_level.ensures.trusts told lists)

pub returns-then-branch-clause-ends : goal.returns-then-branch-clause-ends
returns-then-branch-clause-ends g c = left_counts c.handle_level.new.self.place.phase _
    (subst (Handles Between c.args.self.now c.handle_level.new.self) c.if-branch.true
    c.in_ok-handle_level.ensures.handles).0

pub returns-then-branch-clause-keeps : goal.returns-then-branch-clause-keeps
returns-then-branch-clause-keeps g c = λ told d working. left_remains c.handle_level.new.self.place.phase _
    c.handle_level.new.self _ d
    (subst (Handles Between c.args.self.now c.handle_level.new.self) c.if-branch.true
    c.in_ok-handle_level.ensures.handles).0 (c.in_ok-handle_level.ensures.keeps told d working)

-- the next level opens, or all is done
pub open_level-requires-clause-phase : goal.open_level-requires-clause-phase
open_level-requires-clause-phase g c = (subst (Handles Between c.args.self.now c.handle_level.new.self)
    c.if-branch.false c.in_ok-handle_level.ensures.handles).0

pub returns-clause-does : goal.returns-clause-does
returns-clause-does g c = does_more g.S.Shelf.tells g.S.Shelf.world g.S.Shelf.faults 118 134 5 6 _ _ _ _
    c.open_level.result (omega arith) (omega arith)
    (does_then g.S.Shelf.tells g.S.Shelf.world g.S.Shelf.faults 102 16 5 0 _ _ _ c.args.self.now c.handle_level.new.self
    c.open_level.new.self c.handle_level.result c.open_level.result
    c.requires.fit.sound (subst (Handles Between c.args.self.now c.handle_level.new.self) c.if-branch.false
    c.in_ok-handle_level.ensures.handles).2 c.in_ok-handle_level.ensures.trusts c.handle_level.ensures.does
    c.open_level.ensures.does)

pub returns-clause-falls : goal.returns-clause-falls
returns-clause-falls g c = falls_then Between c.args.self.now c.handle_level.new.self c.open_level.new.self
    c.open_level.result
    (subst (Handles Between c.args.self.now c.handle_level.new.self) c.if-branch.false
    c.in_ok-handle_level.ensures.handles) c.open_level.ensures.falls

pub returns-clause-keeps : goal.returns-clause-keeps
returns-clause-keeps g c = on_ok_weaker c.open_level.result
    (λ keeps told d working. keeps told d (c.in_ok-handle_level.ensures.keeps
    (c.open_level.ensures.does.leaves.content.before told) d working)) c.open_level.ensures.keeps

pub returns-clause-trusts : goal.returns-clause-trusts
returns-clause-trusts g c = on_ok_weaker c.open_level.result
    (λ keeps told lists. keeps told (c.in_ok-handle_level.ensures.trusts
    (c.open_level.ensures.does.leaves.content.before told) lists)) c.open_level.ensures.trusts
