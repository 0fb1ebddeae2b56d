use Rattle.top_down_sweep.specs.Meaning.{Contents}
use Rattle.std.proofs.lemmas.Result.{on_ok_weaker}
use Rattle.node_reading.proofs.NodeReading.{if_handed}
use Rattle.top_down_sweep.proofs.Holding.{first_holds, first_fits, again_fits, if_err_map}
use Rattle.std.proofs.Common.{[], ◌∷◌, ◌∙◌, sym, subst, arith}
use Rattle.tuple_asks.specs.declared.ask.Ask.{Ask}
use Rattle.tuple_asks.specs.Operands.{Fits}
use Rattle.top_down_sweep.specs.Waiting.{KnowsAsk}
use Rattle.top_down_sweep.specs.Changes.{JoinAsks}
use Rattle.top_down_sweep.proofs.Doing.{then_more, does_more, does_err, on_ok}
use Rattle.top_down_sweep.proofs.machine.Machine.ask_again.Goals as goal

-- an ask was taken and another one was put
pub returns-clause-does : goal.returns-clause-does
returns-clause-does g c = then_more g.S.Shelf.tells g.S.Shelf.world g.S.Shelf.faults 8 48 0 3 56 3 _
    _ _ c.args.self.now c.take.new.self c.push.new.self c.take.result c.push.result
    (omega arith) (omega arith) c.take.ensures.does c.push.ensures.does

-- it was the first of those that wait, and fits with the members that were read
pub returns-clause-holds : goal.returns-clause-holds
returns-clause-holds g c = on_ok_weaker c.push.result (λ holds told bytes knows first.
    holds told (subst (λ (b : Ask). Fits c.take.new.self.operands b)
    (sym c.new.ensures) (again_fits c.args.self.now c.take.new.self c.args.ask.now _
    c.take.ensures.rest c.requires.later (first_fits bytes c.args.ask.now c.args.self.now _ first))) bytes
    (subst (λ (b : Ask). KnowsAsk bytes b) (sym c.new.ensures) knows)
    (c.in_ok-take.ensures.holds (c.push.ensures.does.leaves.content.before told) bytes
    (first_holds bytes c.args.ask.now c.args.self.now _ first))) c.push.ensures.holds

-- no damage is found
pub returns-clause-undamaged : goal.returns-clause-undamaged
returns-clause-undamaged g c = if_err_map c.push.result (λ e none told bytes first. none told bytes
    (c.in_ok-take.ensures.holds (c.push.ensures.does.leaves.content.before told) bytes
    (first_holds bytes c.args.ask.now c.args.self.now _ first))) c.push.ensures.undamaged

pub returns-in_err-take-clause-undamaged : goal.returns-in_err-take-clause-undamaged
returns-in_err-take-clause-undamaged g c = if_handed _ c.from_residual.result _
    c.from_residual.ensures.1 (λ told bytes first. c.in_err-take.ensures.undamaged told bytes
    (first_holds bytes c.args.ask.now c.args.self.now _ first))

-- it was the first one, and another one joins the others
pub returns-clause-list : goal.returns-clause-list
returns-clause-list g c = on_ok_weaker c.push.result (λ joins told k stands.
    let taken = c.in_ok-take.ensures.list (c.push.ensures.does.leaves.content.before told) k stands
    in
    let after : Contents = record k { asks = taken.0 } in (
      taken.0,
      taken.1,
      subst (λ (b : Ask). JoinAsks c.push.new.self (g.S.Shelf.world c.push.new.shelf) after (b ∷ []))
          c.new.ensures (joins told after taken.2),
    )) c.push.ensures.list

-- the files of arcs stay
pub returns-clause-arcs : goal.returns-clause-arcs
returns-clause-arcs g c = on_ok_weaker c.push.result (λ keeps told xs ys held. keeps told xs ys
    (c.in_ok-take.ensures.arcs (c.push.ensures.does.leaves.content.before told) xs ys held))
    c.push.ensures.arcs

-- it couldn't be taken
pub returns-in_err-take-clause-does : goal.returns-in_err-take-clause-does
returns-in_err-take-clause-does g c = does_more g.S.Shelf.tells g.S.Shelf.world g.S.Shelf.faults 8 56 0 3 _ _
    c.args.self.now c.take.new.self c.from_residual.result (omega arith) (omega arith)
    (does_err g.S.Shelf.tells g.S.Shelf.world g.S.Shelf.faults 8 0 _ _ c.args.self.now c.take.new.self
    c.from_residual.result c.take.result c.in_err-take.field-0.0 c.from_residual.ensures.1 c.in_err-take.was
    c.take.ensures.does)

-- as many wait, and it was taken last
pub returns-clause-fit : goal.returns-clause-fit
returns-clause-fit g c = c.push.ensures.fit

pub returns-clause-load : goal.returns-clause-load
returns-clause-load g c = on_ok_weaker c.push.result (λ put. put ∙ sym c.in_ok-take.ensures.load) c.push.ensures.load

pub returns-clause-last : goal.returns-clause-last
returns-clause-last g c = on_ok c.push.result (c.push.ensures.last ∙ c.in_ok-take.ensures.last)
