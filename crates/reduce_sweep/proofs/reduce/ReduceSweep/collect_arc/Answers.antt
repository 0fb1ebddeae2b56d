use Rattle.std.proofs.Common.{◌∙◌, ap}
use Rattle.reduce_sweep.specs.declared.reduce.ReduceSweep.{ReduceSweep}
use Rattle.reduce_sweep.specs.declared.phase.Phase.{Phase}
use Rattle.reduce_sweep.proofs.Doing.{does_then}
use Rattle.reduce_sweep.proofs.CollectingKeeps.{arc_collected, at_closed}
use Rattle.std.proofs.lemmas.Result.{on_ok_weaker}
use Rattle.reduce_sweep.proofs.reduce.ReduceSweep.collect_arc.Goals as goal

-- the arc was noted, and passed over
pub returns-clause-does : goal.returns-clause-does
returns-clause-does g c = does_then g.S.Shelf.tells g.S.Shelf.world g.S.Shelf.faults 16 8 1 0 _ _ _ c.args.self.now
    c.note.new.self c.pass.new.self c.note.result c.pass.result
    c.requires.fit.sound (ap (λ (r : ReduceSweep). r.ahead.reader) c.note.ensures.rest) c.in_ok-note.ensures.trusts
    c.note.ensures.does c.pass.ensures.does

pub returns-clause-keeps : goal.returns-clause-keeps
returns-clause-keeps g c = on_ok_weaker c.pass.result (λ passed told d k holds left at greatest here.
    let p = c.args.self.now.place in
    let (rows, names, closed, held) = c.in_ok-note.ensures.closed (c.pass.ensures.does.leaves.content.before told) k
    holds in
    arc_collected p c.args.source c.pass.new.self _ d k c.args.queued c.args.arc.now rows names c.requires.phase
    (ap (λ (r : ReduceSweep). r.place) c.pass.ensures.rest ∙ ap (λ (r : ReduceSweep). r.place) c.note.ensures.rest
    ∙ ap (λ (f : Phase). record p { phase = f }) c.in_ok-note.ensures.phase)
    left greatest here closed (passed told _ c.args.arc.now (at_closed c.args.queued k rows names c.args.arc.now at)
    held)) c.pass.ensures.passed

pub returns-clause-trusts : goal.returns-clause-trusts
returns-clause-trusts g c = on_ok_weaker c.pass.result
    (λ keeps told lists. keeps told (c.in_ok-note.ensures.trusts (c.pass.ensures.does.leaves.content.before told)
    lists)) c.pass.ensures.trusts
