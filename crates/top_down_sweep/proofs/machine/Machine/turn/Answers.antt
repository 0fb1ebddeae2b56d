use Rattle.std.proofs.Common.{sym, subst, arith}
use Rattle.std.specs.Prelude.{None}
use Rattle.top_down_sweep.specs.Turns.{TurnsFall}
use Rattle.top_down_sweep.proofs.Holding.{if_err_map}
use Rattle.std.proofs.lemmas.Result.{on_ok_weaker}
use Rattle.top_down_sweep.specs.Meaning.{RemainsIn}
use Rattle.top_down_sweep.proofs.Phases.{trusts_in}
use Rattle.top_down_sweep.specs.Trusting.{fresh_holds}
use Rattle.top_down_sweep.proofs.Doing.{no_damage, does_more}
use Rattle.top_down_sweep.proofs.Idle.{does_none}
use Rattle.top_down_sweep.proofs.machine.Machine.turn.Goals as goal

-- what its turns put stands there in each phase
pub returns-in-Fresh-clause-trusts : goal.returns-in-Fresh-clause-trusts
returns-in-Fresh-clause-trusts g c = on_ok_weaker c.begin.result (λ trusts told old.
    trusts told (trusts_in _ _ c.args.self.now _ _ c.in-Fresh.is old)) c.begin.ensures.trusts

pub returns-in-Asking-clause-trusts : goal.returns-in-Asking-clause-trusts
returns-in-Asking-clause-trusts g c = on_ok_weaker c.go_on.result (λ trusts told old.
    trusts told (trusts_in _ _ c.args.self.now _ _ c.in-Asking.is old)) c.go_on.ensures.trusts

-- and where it does, damage is that of an operand
pub returns-in-Fresh-clause-damage : goal.returns-in-Fresh-clause-damage
returns-in-Fresh-clause-damage g c = if_err_map c.begin.result (λ e none told old. no_damage _ _ _ _ e
    (none told None (trusts_in (g.O.Operation.rule c.args.operation.now) (g.O.Operation.begins c.args.operation.now)
    c.args.self.now _ _ c.in-Fresh.is old).0.some)) c.begin.ensures.undamaged

pub returns-in-Asking-clause-damage : goal.returns-in-Asking-clause-damage
returns-in-Asking-clause-damage g c = if_err_map c.go_on.result (λ e damage told old. damage told
    (trusts_in _ _ c.args.self.now _ _ c.in-Asking.is old).0) c.go_on.ensures.damage

-- what remains of a task in each phase
pub returns-in-Fresh-clause-keeps : goal.returns-in-Fresh-clause-keeps
returns-in-Fresh-clause-keeps g c = on_ok_weaker c.begin.result (λ keeps told t rule remains.
    keeps told t rule (subst (λ p. RemainsIn t (g.O.Operation.begins c.args.operation.now) p c.args.self.now
    (g.S.Shelf.world c.args.shelf.now)) c.in-Fresh.is remains))
    c.begin.ensures.keeps

pub returns-in-Asking-clause-keeps : goal.returns-in-Asking-clause-keeps
returns-in-Asking-clause-keeps g c = on_ok_weaker c.go_on.result (λ keeps told t rule remains.
    keeps told t rule (subst (λ p. RemainsIn t (g.O.Operation.begins c.args.operation.now) p c.args.self.now
    (g.S.Shelf.world c.args.shelf.now)) c.in-Asking.is remains))
    c.go_on.ensures.keeps

-- where something remains no damage is found
pub returns-in-Fresh-clause-undamaged : goal.returns-in-Fresh-clause-undamaged
returns-in-Fresh-clause-undamaged g c = if_err_map c.begin.result (λ e none told t remains. none told
    None (fresh_holds t _ c.args.self.now _ (subst (λ p. RemainsIn t (g.O.Operation.begins c.args.operation.now) p
    c.args.self.now (g.S.Shelf.world c.args.shelf.now)) c.in-Fresh.is remains))) c.begin.ensures.undamaged

pub returns-in-Asking-clause-undamaged : goal.returns-in-Asking-clause-undamaged
returns-in-Asking-clause-undamaged g c = if_err_map c.go_on.result (λ e none told t remains.
    none told t (subst (λ p. RemainsIn t (g.O.Operation.begins c.args.operation.now) p c.args.self.now
    (g.S.Shelf.world c.args.shelf.now)) c.in-Asking.is remains))
    c.go_on.ensures.undamaged

-- one turn less remains, or none where it ended
pub returns-in-Fresh-clause-fewer : goal.returns-in-Fresh-clause-fewer
returns-in-Fresh-clause-fewer g c told t rule remains =
    let old = g.S.Shelf.world c.args.shelf.now in
    let begins = g.O.Operation.begins c.args.operation.now in
    subst (λ p. TurnsFall t p c.args.self.now old c.begin.new.self
    (g.S.Shelf.world c.begin.new.shelf) c.begin.result) (sym c.in-Fresh.is)
    (c.begin.ensures.fewer told t rule
    (subst (λ p. RemainsIn t begins p c.args.self.now old) c.in-Fresh.is remains))

pub returns-in-Asking-clause-fewer : goal.returns-in-Asking-clause-fewer
returns-in-Asking-clause-fewer g c told t rule remains =
    let old = g.S.Shelf.world c.args.shelf.now in
    let begins = g.O.Operation.begins c.args.operation.now in
    subst (λ p. TurnsFall t p c.args.self.now old c.go_on.new.self
    (g.S.Shelf.world c.go_on.new.shelf) c.go_on.result) (sym c.in-Asking.is)
    (c.go_on.ensures.fewer told t rule
    (subst (λ p. RemainsIn t begins p c.args.self.now old) c.in-Asking.is remains))

-- what each phase leaves and costs
pub returns-in-Fresh-clause-does : goal.returns-in-Fresh-clause-does
returns-in-Fresh-clause-does g c = does_more g.S.Shelf.tells g.S.Shelf.world g.S.Shelf.faults 48 113 3 6 _ _ _ _
    c.begin.result (omega arith) (omega arith) c.begin.ensures.does

pub returns-in-Asking-clause-does : goal.returns-in-Asking-clause-does
returns-in-Asking-clause-does g c = c.go_on.ensures.does

pub returns-in-Ended-clause-does : goal.returns-in-Ended-clause-does
returns-in-Ended-clause-does g c = does_none g.S.Shelf.tells g.S.Shelf.world g.S.Shelf.faults 113 6 _ _ _
