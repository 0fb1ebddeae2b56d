use Rattle.tuple_asks.specs.declared.place.Phase.TheVariants as phases
use Rattle.node_reading.proofs.NodeReading.{if_handed}
use Rattle.list_laws.proofs.AnswerLaws.{on_ok_both}
use Rattle.top_down_sweep.specs.Changes.{ShowsAsk}
use Rattle.top_down_sweep.proofs.TurnKeeps.{handling, works_remain, ended_remains, fewer_since, ended_left}
use Rattle.top_down_sweep.proofs.Phases.{step_at, trusted_at}
use Rattle.top_down_sweep.proofs.Orders.{put_at, put_kept, put_ordered}
use Rattle.top_down_sweep.specs.declared.machine.Machine.{Machine}
use Rattle.std.proofs.Common.{◌∙◌, ap, sym, subst, arith}
use Rattle.std.specs.Prelude.{Option, Some, None, IfSome, IsTrue}
use Rattle.tuple_asks.specs.Knowing.{FileBytes}
use Rattle.top_down_sweep.proofs.Known.{shown_asks, handled_asks}
use Rattle.top_down_sweep.specs.Calls.{IsFirst}
use Rattle.top_down_sweep.specs.Waiting.{HoldsSome, HoldsFirst}
use Rattle.top_down_sweep.specs.Trusting.{working_holds}
use Rattle.top_down_sweep.proofs.Holding.{if_err_map}
use Rattle.std.proofs.lemmas.Result.{on_ok_weaker}
use Rattle.top_down_sweep.proofs.FuelLaws.{end_falls, handle_falls}
use Rattle.top_down_sweep.proofs.Doing.{then_more, then_ok, refused_second, no_damage}
use Rattle.top_down_sweep.proofs.machine.Machine.go_on.Goals as goal

-- there is no ask
pub returns-in_default-clause-does : goal.returns-in_default-clause-does
returns-in_default-clause-does g c = then_more g.S.Shelf.tells g.S.Shelf.world g.S.Shelf.faults 8 4
    0 0 113 6 _ _ _ c.args.self.now c.first_ask.new.self c.end.new.self c.first_ask.result
    c.end.result
    (omega arith) (omega arith) c.first_ask.ensures.does c.end.ensures.does

-- it is shown
pub handle-requires-clause-shown : goal.handle-requires-clause-shown
handle-requires-clause-shown g c = subst (λ found. IfSome found (IsFirst c.first_ask.new.self))
    (c.in-Some.is ∙ ap Some (sym c.ask.ensures.value)) c.in_ok-first.ensures.shown

pub returns-in_err-handle-clause-does : goal.returns-in_err-handle-clause-does
returns-in_err-handle-clause-does g c = refused_second g.S.Shelf.tells g.S.Shelf.world
    g.S.Shelf.faults 8 105 0 6 113 6 _ _ _ c.args.self.now c.first_ask.new.self c.handle.new.self
    c.first_ask.result c.handle.result
    c.from_residual-in_err-handle.result c.in_err-handle.field-0.0 (omega arith) (omega arith)
    c.first_ask.ensures.does c.handle.ensures.does c.from_residual-in_err-handle.ensures.1
    c.in_err-handle.was

-- it was handled
pub returns-clause-does : goal.returns-clause-does
returns-clause-does g c = then_ok g.S.Shelf.tells g.S.Shelf.world g.S.Shelf.faults 8 105 0 6 113 6 _
    _ _ c.args.self.now c.first_ask.new.self c.handle.new.self c.first_ask.result c.handle.result _
    (omega arith) (omega arith) c.first_ask.ensures.does c.handle.ensures.does

-- there is no ask
pub returns-in_default-clause-falls : goal.returns-in_default-clause-falls
returns-in_default-clause-falls g c = end_falls _ c.end.new.self _ c.end.result c.end.ensures.turn
    c.end.ensures.made

-- the first one was handled
pub returns-clause-falls : goal.returns-clause-falls
returns-clause-falls g c = handle_falls c.args.self.now c.first_ask.new.self c.handle.new.self _
    c.requires.phase c.in_ok-handle.ensures.phase c.first_ask.ensures.rest c.first_ask.ensures.last
    c.in_ok-first.ensures.load c.in_ok-handle.ensures.falls

-- the files of arcs end behind those that were put
pub returns-clause-in_step : goal.returns-clause-in_step
returns-clause-in_step g c told = step_at c.handle.new.self _ c.in_ok-handle.ensures.phase
    (c.in_ok-handle.ensures.fit.at_work told)

-- the ask is the first of those that wait, and the arcs that were put are in order
pub returns-clause-trusts : goal.returns-clause-trusts
returns-clause-trusts g c told (holds, put) =
    let mid = c.handle.ensures.does.leaves.content.before told in
    let s = c.args.asking.now in
    let old = g.S.Shelf.world c.args.shelf.now in
    let rule = g.O.Operation.rule c.args.operation.now in
    let begins = g.O.Operation.begins c.args.operation.now in
    trusted_at rule begins c.handle.new.self _ c.in_ok-handle.ensures.phase
    (handled_asks g.S.Shelf.tells g.S.Shelf.world g.S.Shelf.faults 105 6 _ _ c.first_ask.new.self c.handle.new.self
    c.handle.result rule begins c.ask.result c.in_ok-first.ensures.fit.sound c.handle.ensures.does told
    (c.in_ok-handle.ensures.holds told)
    (shown_asks g.S.Shelf.tells g.S.Shelf.world g.S.Shelf.faults 8 0 _ _ c.args.self.now c.first_ask.new.self
    c.first_ask.result rule begins c.ask.result c.requires.fit.sound c.first_ask.ensures.does mid
    (subst (λ found. IfSome found (λ a. IsTrue (g.S.Shelf.tells c.first_ask.new.shelf)
    → (bytes : Option FileBytes) → HoldsSome bytes c.args.self.now (g.S.Shelf.world c.args.shelf.now)
    → HoldsFirst bytes a c.first_ask.new.self (g.S.Shelf.world c.first_ask.new.shelf)))
    (c.in-Some.is ∙ ap Some (sym c.ask.ensures.value)) c.in_ok-first.ensures.holds
    mid) holds))
    (c.in_ok-handle.ensures.ordered told (put_at c.first_ask.new.self
    (g.S.Shelf.world c.first_ask.new.shelf) s
    (ap (λ (m : Machine). m.place.phase) c.first_ask.ensures.rest ∙ c.requires.phase)
    (put_kept s c.args.self.now c.first_ask.new.self old
    (g.S.Shelf.world c.first_ask.new.shelf) c.first_ask.ensures.last (c.in_ok-first.ensures.arcs mid)
    put)))

pub returns-in_default-clause-trusts : goal.returns-in_default-clause-trusts
returns-in_default-clause-trusts g c = on_ok_weaker c.end.result (λ trusts told both.
    let mid = c.end.ensures.does.leaves.content.before told in
    let s = c.args.asking.now in
    trusts told _ _ (put_ordered s c.first_ask.new.self (g.S.Shelf.world c.first_ask.new.shelf)
    (put_kept s c.args.self.now c.first_ask.new.self (g.S.Shelf.world c.args.shelf.now)
    (g.S.Shelf.world c.first_ask.new.shelf) c.first_ask.ensures.last (c.in_ok-first.ensures.arcs mid)
    both.1))) c.end.ensures.trusts

-- damage is that of an operand where the ask is handled, and else there is none
pub returns-in_err-first-clause-damage : goal.returns-in_err-first-clause-damage
returns-in_err-first-clause-damage g c = if_handed _ c.from_residual.result _ c.from_residual.ensures.1
    (λ told holds. no_damage _ _ _ _ _ (c.in_err-first.ensures.undamaged told None holds.some))

pub returns-in_default-clause-damage : goal.returns-in_default-clause-damage
returns-in_default-clause-damage g c = if_err_map c.end.result
    (λ e none told holds. no_damage _ _ _ _ e none) c.end.ensures.undamaged

pub returns-in_err-handle-clause-damage : goal.returns-in_err-handle-clause-damage
returns-in_err-handle-clause-damage g c = if_handed _ c.from_residual-in_err-handle.result _
    c.from_residual-in_err-handle.ensures.1 (λ told holds.
    let mid = c.handle.ensures.does.leaves.content.before told in
    c.in_err-handle.ensures.damage told
    (shown_asks g.S.Shelf.tells g.S.Shelf.world g.S.Shelf.faults 8 0 _ _ c.args.self.now c.first_ask.new.self
    c.first_ask.result (g.O.Operation.rule c.args.operation.now) (g.O.Operation.begins c.args.operation.now)
    c.ask.result c.requires.fit.sound c.first_ask.ensures.does mid
    (subst (λ found. IfSome found (λ a. IsTrue (g.S.Shelf.tells c.first_ask.new.shelf)
    → (bytes : Option FileBytes) → HoldsSome bytes c.args.self.now (g.S.Shelf.world c.args.shelf.now)
    → HoldsFirst bytes a c.first_ask.new.self (g.S.Shelf.world c.first_ask.new.shelf)))
    (c.in-Some.is ∙ ap Some (sym c.ask.ensures.value)) c.in_ok-first.ensures.holds
    mid) holds))

-- where no ask is left, what was put is of the task
pub returns-in_default-clause-keeps : goal.returns-in_default-clause-keeps
returns-in_default-clause-keeps g c = on_ok_both c.end.result (λ phase files told t rule h.
    ended_remains t (g.O.Operation.begins c.args.operation.now) c.args.asking.now c.args.self.now
    c.first_ask.new.self c.end.new.self _ _ _ _ h
    (subst (λ found. ShowsAsk c.first_ask.new.self
    (g.S.Shelf.world c.first_ask.new.shelf) h.contents found) c.in_default.is
    (c.in_ok-first.ensures.list (c.end.ensures.does.leaves.content.before told) h.contents h.stands))
    c.ptr.ensures.value phase c.end.ensures.one (files told)) c.end.ensures.made c.end.ensures.files

-- and what the handling of the first one leaves remains
pub returns-clause-keeps : goal.returns-clause-keeps
returns-clause-keeps g c told t rule h = works_remain t _ c.handle.new.self.place.phase
    c.handle.new.self _ (c.in_ok-handle.ensures.keeps told t rule
    (handling t c.args.asking.now c.ask.result c.args.self.now c.first_ask.new.self _ _ h
    c.first_ask.ensures.last
    (subst (λ found. ShowsAsk c.first_ask.new.self (g.S.Shelf.world c.first_ask.new.shelf)
    h.contents found) (c.in-Some.is ∙ ap Some (sym c.ask.ensures.value))
    (c.in_ok-first.ensures.list (c.handle.ensures.does.leaves.content.before told) h.contents
    h.stands)))).0

-- one turn less remains, or none where it ended
pub returns-clause-fewer : goal.returns-clause-fewer
returns-clause-fewer g c told t rule h =
    let shown = subst (λ found. ShowsAsk c.first_ask.new.self
    (g.S.Shelf.world c.first_ask.new.shelf) h.contents found) (c.in-Some.is ∙ ap Some (sym c.ask.ensures.value))
    (c.in_ok-first.ensures.list (c.handle.ensures.does.leaves.content.before told) h.contents
    h.stands) in
    let after = c.in_ok-handle.ensures.keeps told t rule
    (handling t c.args.asking.now c.ask.result c.args.self.now c.first_ask.new.self _ _ h
    c.first_ask.ensures.last shown) in
    fewer_since t c.args.asking.now c.args.self.now c.first_ask.new.self c.handle.new.self
    (g.S.Shelf.world c.args.shelf.now) (g.S.Shelf.world c.first_ask.new.shelf)
    (g.S.Shelf.world c.handle.new.shelf) h.contents h.stands shown.2 after.1

pub returns-in_default-clause-fewer : goal.returns-in_default-clause-fewer
returns-in_default-clause-fewer g c told t rule h = ended_left t (phases.Asking c.args.asking.now)
    c.args.self.now c.end.new.self (g.S.Shelf.world c.args.shelf.now)
    (g.S.Shelf.world c.end.new.shelf) c.end.result c.end.ensures.turn _ c.end.ensures.made

-- where something of a task remains no damage is found
pub returns-in_err-first-clause-undamaged : goal.returns-in_err-first-clause-undamaged
returns-in_err-first-clause-undamaged g c = if_handed _ c.from_residual.result _
    c.from_residual.ensures.1 (λ told t h. c.in_err-first.ensures.undamaged told None
    (working_holds t c.args.asking.now c.args.self.now _ h))

pub returns-in_err-handle-clause-undamaged : goal.returns-in_err-handle-clause-undamaged
returns-in_err-handle-clause-undamaged g c = if_handed _ c.from_residual-in_err-handle.result _
    c.from_residual-in_err-handle.ensures.1 (λ told t h. c.in_err-handle.ensures.undamaged told t
    (handling t c.args.asking.now c.ask.result c.args.self.now c.first_ask.new.self _ _ h
    c.first_ask.ensures.last
    (subst (λ found. ShowsAsk c.first_ask.new.self
    (g.S.Shelf.world c.first_ask.new.shelf) h.contents found) (c.in-Some.is ∙ ap Some (sym c.ask.ensures.value))
    (c.in_ok-first.ensures.list (c.handle.ensures.does.leaves.content.before told) h.contents
    h.stands))))
