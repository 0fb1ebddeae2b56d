use Rattle.std.proofs.Common.{◌≡◌, false, not, sym, subst, rules}
use Rattle.std.specs.Prelude.{Ok}
use Rattle.sweep_core.specs.declared.turn.Turn.{Turn}
use Rattle.sweep_core.specs.declared.turn.Turn.TheVariants.{More, Ended}
use Rattle.node_reading.proofs.NodeReading.{is_handed}
use Rattle.table_work.specs.declared.sweep.TableSweep.{TableSweep}
use Rattle.sweep_operations.specs.declared.product.Product.{Product}
use Rattle.product_sweep.specs.declared.leq.LeqPhase.{LeqPhase}
use Rattle.product_sweep.specs.declared.leq.LeqPhase.TheVariants.{Making, Answered}
use Rattle.product_sweep.specs.Implications.{Turned}
use Rattle.product_sweep.specs.LeqPhases.{TellsOne}
use Rattle.product_sweep.proofs.Turning.{ProductTurned, leq, going_on, all_made, make_refused, ended_early, early_refused}
use Rattle.product_sweep.proofs.leq.LeqSweep.make.Goals as goal

-- an arc leads to 1, and the files can't be ended
pub returns-in_err-end_early : goal.returns-in_err-end_early
returns-in_err-end_early g c =
    let q : TableSweep Product = record { sweep = c.end_early.new.self } in
    subst (λ (phase : LeqPhase). Turned g.S.Shelf.tells g.S.Shelf.world g.S.Shelf.faults c.args.shelf.now
    c.end_early.new.shelf (leq c.args.self.now.product phase) (leq q phase) c.from_residual.result)
    (sym c.requires.phase)
    (subst (Turned g.S.Shelf.tells g.S.Shelf.world g.S.Shelf.faults c.args.shelf.now c.end_early.new.shelf
    (leq c.args.self.now.product Making) (leq q Making))
    (sym (is_handed c.from_residual.result _ c.from_residual.ensures.1))
    (early_refused g.S.Shelf.tells g.S.Shelf.world g.S.Shelf.faults c.args.shelf.now c.end_early.new.shelf
    c.args.self.now.product q c.in_err-end_early.field-0.0 (record {
      ready = c.in_err-end_early.ensures.ready;
      firm = c.in_err-end_early.ensures.firm;
      leaves = c.in_err-end_early.ensures.leaves;
      same = c.in_err-end_early.ensures.same;
      refused = c.in_err-end_early.ensures.refused;
      undamaged = c.in_err-end_early.ensures.undamaged;
    })))

-- they are ended
pub returns-then-meets_one : goal.returns-then-meets_one
returns-then-meets_one g c =
    let q : TableSweep Product = record { sweep = c.end_early.new.self } in
    subst (λ (phase : LeqPhase). Turned g.S.Shelf.tells g.S.Shelf.world g.S.Shelf.faults c.args.shelf.now
    c.end_early.new.shelf (leq c.args.self.now.product phase) (leq q (Answered false)) (Ok Ended))
    (sym c.requires.phase)
    (ended_early g.S.Shelf.tells g.S.Shelf.world g.S.Shelf.faults c.args.shelf.now c.end_early.new.shelf
    c.args.self.now.product q c.in_ok-end_early.field-0 c.requires.ready.product
    (subst (TellsOne c.args.self.now.product) c.if-meets_one.true (record {
      value = c.meets_one.ensures.value;
      none = c.meets_one.ensures.none;
    }))
    (record {
      ready = c.in_ok-end_early.ensures.ready;
      firm = c.in_ok-end_early.ensures.firm;
      leaves = c.in_ok-end_early.ensures.leaves;
      same = c.in_ok-end_early.ensures.same;
      refused = c.in_ok-end_early.ensures.refused;
      undamaged = c.in_ok-end_early.ensures.undamaged;
    }))

-- no arc can be made
pub returns-in_err-turn : goal.returns-in_err-turn
returns-in_err-turn g c =
    subst (λ (phase : LeqPhase). Turned g.S.Shelf.tells g.S.Shelf.world g.S.Shelf.faults c.args.shelf.now
    c.turn.new.shelf (leq c.args.self.now.product phase) (leq c.turn.new.self phase)
    c.from_residual-in_err-turn.result)
    (sym c.requires.phase)
    (subst (Turned g.S.Shelf.tells g.S.Shelf.world g.S.Shelf.faults c.args.shelf.now c.turn.new.shelf
    (leq c.args.self.now.product Making) (leq c.turn.new.self Making))
    (sym (is_handed c.from_residual-in_err-turn.result _ c.from_residual-in_err-turn.ensures.1))
    (make_refused g.S.Shelf.tells g.S.Shelf.world g.S.Shelf.faults c.args.shelf.now c.turn.new.shelf
    c.args.self.now.product c.turn.new.self c.in_err-turn.field-0.0 (record {
      ready = c.in_err-turn.ensures.ready;
      in_step = c.in_err-turn.ensures.in_step;
      falls = c.in_err-turn.ensures.falls;
      firm = c.in_err-turn.ensures.firm;
      keeps = c.in_err-turn.ensures.keeps;
      fewer = c.in_err-turn.ensures.fewer;
      trusts = c.in_err-turn.ensures.trusts;
      damaged = c.in_err-turn.ensures.damage;
      undamaged = c.in_err-turn.ensures.undamaged;
      leaves = c.in_err-turn.ensures.leaves;
      same = λ i. (c.in_err-turn.ensures.same i).0;
      spent = c.in_err-turn.ensures.spent;
    })))

-- all are made
pub returns-then-eq : goal.returns-then-eq
returns-then-eq g c =
    let ended : c.in_ok-turn.turn ≡ Ended = search rules in
    let Turns = λ (t : Turn). ProductTurned g.S.Shelf.tells g.S.Shelf.world g.S.Shelf.faults c.args.shelf.now
    c.turn.new.shelf c.args.self.now.product c.turn.new.self (Ok t) in
    let Answers = λ (t : Turn) (phase : LeqPhase). Turned g.S.Shelf.tells g.S.Shelf.world g.S.Shelf.faults
    c.args.shelf.now c.turn.new.shelf (leq c.args.self.now.product phase)
    (leq c.turn.new.self (Answered (not c.meets_one-then-eq.result))) (Ok t) in
    subst (Answers c.in_ok-turn.turn) (sym c.requires.phase) (subst (λ (t : Turn). Answers t Making) (sym ended)
    (all_made g.S.Shelf.tells g.S.Shelf.world g.S.Shelf.faults c.args.shelf.now c.turn.new.shelf
    c.args.self.now.product c.turn.new.self c.meets_one-then-eq.result
    (subst Turns ended (record {
      ready = c.in_ok-turn.ensures.ready;
      in_step = c.in_ok-turn.ensures.in_step;
      falls = c.in_ok-turn.ensures.falls;
      firm = c.in_ok-turn.ensures.firm;
      keeps = c.in_ok-turn.ensures.keeps;
      fewer = c.in_ok-turn.ensures.fewer;
      trusts = c.in_ok-turn.ensures.trusts;
      damaged = c.in_ok-turn.ensures.damage;
      undamaged = c.in_ok-turn.ensures.undamaged;
      leaves = c.in_ok-turn.ensures.leaves;
      same = λ i. (c.in_ok-turn.ensures.same i).0;
      spent = c.in_ok-turn.ensures.spent;
    }))
    (record { value = c.meets_one-then-eq.ensures.value; none = c.meets_one-then-eq.ensures.none })))

-- some are left to be made
pub returns-else-eq : goal.returns-else-eq
returns-else-eq g c =
    let more : c.in_ok-turn.turn ≡ More = search rules in
    let Turns = λ (t : Turn). ProductTurned g.S.Shelf.tells g.S.Shelf.world g.S.Shelf.faults c.args.shelf.now
    c.turn.new.shelf c.args.self.now.product c.turn.new.self (Ok t) in
    let Goes = λ (t : Turn) (phase : LeqPhase). Turned g.S.Shelf.tells g.S.Shelf.world g.S.Shelf.faults
    c.args.shelf.now c.turn.new.shelf (leq c.args.self.now.product phase) (leq c.turn.new.self phase) (Ok t) in
    subst (Goes c.in_ok-turn.turn) (sym c.requires.phase) (subst (λ (t : Turn). Goes t Making) (sym more)
    (going_on g.S.Shelf.tells g.S.Shelf.world g.S.Shelf.faults c.args.shelf.now c.turn.new.shelf
    c.args.self.now.product c.turn.new.self
    (subst Turns more (record {
      ready = c.in_ok-turn.ensures.ready;
      in_step = c.in_ok-turn.ensures.in_step;
      falls = c.in_ok-turn.ensures.falls;
      firm = c.in_ok-turn.ensures.firm;
      keeps = c.in_ok-turn.ensures.keeps;
      fewer = c.in_ok-turn.ensures.fewer;
      trusts = c.in_ok-turn.ensures.trusts;
      damaged = c.in_ok-turn.ensures.damage;
      undamaged = c.in_ok-turn.ensures.undamaged;
      leaves = c.in_ok-turn.ensures.leaves;
      same = λ i. (c.in_ok-turn.ensures.same i).0;
      spent = c.in_ok-turn.ensures.spent;
    }))))
