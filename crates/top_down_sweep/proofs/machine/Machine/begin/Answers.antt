use Rattle.tuple_asks.specs.declared.place.Phase.TheVariants as phases
use Rattle.top_down.specs.Rules.{Rule}
use Rattle.std.proofs.Common.{◌≡◌, ◌∙◌, sym, ap, subst, arith}
use Rattle.top_down.specs.declared.tuple.Goal.TheVariants.{Go}
use Rattle.tuple_asks.specs.Readings.{roots_of}
use Rattle.top_down_sweep.proofs.Known.{kept_asks, first_known}
use Rattle.list_laws.proofs.AnswerLaws.{on_ok_both}
use Rattle.top_down_sweep.proofs.TurnKeeps.{works_remain, constant_remains, ended_left}
use Rattle.top_down_sweep.proofs.FuelLaws.{end_falls}
use Rattle.top_down_sweep.proofs.Orders.{none_ordered}
use Rattle.top_down_sweep.proofs.Phases.{step_at, trusted_at}
use Rattle.top_down_sweep.specs.Ordered.{IsOrderedAt}
use Rattle.std.proofs.lemmas.Result.{on_ok_weaker}
use Rattle.top_down_sweep.proofs.Doing.{does_more, does_ok, does_err}
use Rattle.top_down_sweep.proofs.machine.Machine.begin.Goals as goal

-- it is constant
pub returns-in-End-clause-falls : goal.returns-in-End-clause-falls
returns-in-End-clause-falls g c = end_falls _ c.end.new.self _ c.end.result c.end.ensures.turn
    c.end.ensures.made

-- no arc was put
pub returns-in-End-clause-trusts : goal.returns-in-End-clause-trusts
returns-in-End-clause-trusts g c = on_ok_weaker c.end.result (λ trusts told fresh.
    trusts told _ _ (none_ordered c.args.self.now.writer (g.S.Shelf.world c.args.shelf.now) fresh.2))
    c.end.ensures.trusts

-- the root's ask waits
pub returns-in_ok-ask_first-in-Go-clause-in_step : goal.returns-in_ok-ask_first-in-Go-clause-in_step
returns-in_ok-ask_first-in-Go-clause-in_step g c told = step_at c.ask_first.new.self _
    c.in_ok-ask_first-in-Go.ensures.phase (c.in_ok-ask_first-in-Go.ensures.fit.at_work told)

pub returns-in_ok-ask_first-in-Go-clause-trusts : goal.returns-in_ok-ask_first-in-Go-clause-trusts
returns-in_ok-ask_first-in-Go-clause-trusts g c told fresh =
    let rule = g.O.Operation.rule c.args.operation.now in
    let begins = g.O.Operation.begins c.args.operation.now in
    let says : rule.goal (begins (roots_of c.args.self.now.operands)) ≡ Go c.in-Go.tuple =
    ap rule.goal (sym (c.roots-roots.ensures ∙ ap begins c.roots.ensures)) ∙ sym c.goal.ensures ∙ c.in-Go.is in
    trusted_at rule begins c.ask_first.new.self _ c.in_ok-ask_first-in-Go.ensures.phase
    (kept_asks g.S.Shelf.tells g.S.Shelf.world g.S.Shelf.faults 48 3 _ _ c.args.self.now c.ask_first.new.self
    c.ask_first.result rule begins c.requires.fit.sound c.ask_first.ensures.does told
    (λ bytes stays of holds. c.in_ok-ask_first-in-Go.ensures.holds told fresh.1 bytes
    (first_known rule begins c.args.self.now _ c.in-Go.tuple bytes c.requires.fit.sound.operands fresh.0.some.1.reading
    says stays of) holds) fresh.0)
    (c.in_ok-ask_first-in-Go.ensures.ordered told (subst (λ p. IsOrderedAt p c.args.self.now
    (g.S.Shelf.world c.args.shelf.now)) (sym c.requires.phase) fresh.2))

-- then that truth value is a diagram of the task's table
pub returns-in-End-clause-keeps : goal.returns-in-End-clause-keeps
returns-in-End-clause-keeps g c = on_ok_both c.end.result (λ phase files told t rule fresh.
    constant_remains t (g.O.Operation.begins c.args.operation.now) c.args.self.now c.end.new.self _
    _ c.in-End.value _ fresh
    (ap (λ (r : Rule). r.goal t.roots) rule ∙ ap (g.O.Operation.rule c.args.operation.now).goal (sym (c.roots-roots.ensures ∙ ap (g.O.Operation.begins c.args.operation.now) c.roots.ensures ∙ fresh.roots_are))
    ∙ sym c.goal.ensures ∙ c.in-End.is)
    c.terminal.ensures phase c.end.ensures.one (files told)) c.end.ensures.made c.end.ensures.files

-- and otherwise the root is asked for
pub returns-in_ok-ask_first-in-Go-clause-keeps : goal.returns-in_ok-ask_first-in-Go-clause-keeps
returns-in_ok-ask_first-in-Go-clause-keeps g c told t rule fresh = works_remain t _
    c.ask_first.new.self.place.phase c.ask_first.new.self _
    (c.in_ok-ask_first-in-Go.ensures.keeps told t
    (ap (λ (r : Rule). r.goal t.roots) rule
    ∙ ap (g.O.Operation.rule c.args.operation.now).goal (sym (c.roots-roots.ensures
    ∙ ap (g.O.Operation.begins c.args.operation.now) c.roots.ensures ∙ fresh.roots_are))
    ∙ sym c.goal.ensures ∙ c.in-Go.is) fresh.stands).0

-- one turn less remains, or none where it ended
pub returns-in_ok-ask_first-in-Go-clause-fewer : goal.returns-in_ok-ask_first-in-Go-clause-fewer
returns-in_ok-ask_first-in-Go-clause-fewer g c told t rule fresh =
    (c.in_ok-ask_first-in-Go.ensures.keeps told t
    (ap (λ (r : Rule). r.goal t.roots) rule
    ∙ ap (g.O.Operation.rule c.args.operation.now).goal (sym (c.roots-roots.ensures
    ∙ ap (g.O.Operation.begins c.args.operation.now) c.roots.ensures ∙ fresh.roots_are))
    ∙ sym c.goal.ensures ∙ c.in-Go.is) fresh.stands).1

pub returns-in-End-clause-fewer : goal.returns-in-End-clause-fewer
returns-in-End-clause-fewer g c told t rule fresh = ended_left t phases.Fresh c.args.self.now
    c.end.new.self (g.S.Shelf.world c.args.shelf.now) (g.S.Shelf.world c.end.new.shelf) c.end.result c.end.ensures.turn _ c.end.ensures.made

-- what each way out leaves and costs
pub returns-in-End-clause-does : goal.returns-in-End-clause-does
returns-in-End-clause-does g c = does_more g.S.Shelf.tells g.S.Shelf.world g.S.Shelf.faults 4 48 0 3 _ _ _ _
    c.end.result (omega arith) (omega arith) c.end.ensures.does

pub returns-in_ok-ask_first-in-Go-clause-does : goal.returns-in_ok-ask_first-in-Go-clause-does
returns-in_ok-ask_first-in-Go-clause-does g c = does_ok g.S.Shelf.tells g.S.Shelf.world g.S.Shelf.faults 48 3 _ _ _ _
    c.ask_first.result _ c.ask_first.ensures.does

pub returns-in_err-ask_first-in-Go-clause-does : goal.returns-in_err-ask_first-in-Go-clause-does
returns-in_err-ask_first-in-Go-clause-does g c = does_err g.S.Shelf.tells g.S.Shelf.world g.S.Shelf.faults 48 3 _ _ _ _
    c.from_residual.result c.ask_first.result c.in_err-ask_first-in-Go.field-0.0 c.from_residual.ensures.1
    c.in_err-ask_first-in-Go.was c.ask_first.ensures.does
