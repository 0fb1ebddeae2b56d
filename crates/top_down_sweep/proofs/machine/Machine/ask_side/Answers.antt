use Rattle.rec_words.specs.Words.{level_of}
use Rattle.top_down_sweep.specs.Changes.{goal_below}
use Rattle.top_down_sweep.proofs.TurnKeeps.{goal_from, serves_end, serves_go, valued}
use Rattle.arc_file.specs.Writers.{HoldsArcs}
use Rattle.top_down.specs.Asks.{side_arcs}
use Rattle.arc_file.specs.declared.arc.Arc.{Arc}
use Rattle.std.proofs.lemmas.Result.{on_ok_weaker}
use Rattle.std.proofs.Common.{◌∙◌, ◌++◌, ap, sym, subst, append-nil, arith}
use Rattle.top_down_sweep.proofs.Known.{some_both, below_known}
use Rattle.top_down_sweep.proofs.Doing.{does_more}
use Rattle.top_down_sweep.proofs.machine.Machine.ask_side.Goals as goal

-- where the side is constant the asks that wait stay
pub returns-in-End-clause-holds : goal.returns-in-End-clause-holds
returns-in-End-clause-holds g c = on_ok_weaker c.put.result (λ holds told read bytes stays knows. holds told bytes)
    c.put.ensures.holds

-- and else the tuple is one that the files know
pub returns-in-Go-clause-holds : goal.returns-in-Go-clause-holds
returns-in-Go-clause-holds g c = on_ok_weaker c.ask_for.result (λ holds told read bytes stays knows.
    let rule = g.O.Operation.rule c.args.operation.now in
    holds told read bytes (some_both bytes (λ b stay known. below_known rule (g.O.Operation.begins c.args.operation.now) b
    (level_of c.args.uid) c.args.high c.args.members.now c.in-Go.tuple stay known
    (goal_from rule _ c.args.uid c.args.high _ _ _ c.args.members.now _ _ c.level_at.ensures.level
    c.on_side-lows.ensures c.on_side-highs.ensures c.below-below.ensures c.goal.ensures c.in-Go.is)) stays knows))
    c.ask_for.ensures.holds

-- the side is constant
pub returns-in-End-clause-served : goal.returns-in-End-clause-served
returns-in-End-clause-served g c = on_ok_weaker c.put.result (λ put told k stands.
    let rule = g.O.Operation.rule c.args.operation.now in
    let arc : Arc = record {
      source = c.args.uid;
      high = c.args.high;
      target = c.terminal.result;
    } in
    serves_end c.put.new.self (g.S.Shelf.world c.put.new.shelf) k c.args.uid c.args.high
    c.in-End.value (goal_below rule (level_of c.args.uid) c.args.high c.args.members.now)
    (goal_from rule _ c.args.uid c.args.high _ _ _ c.args.members.now _ _ c.level_at.ensures.level
    c.on_side-lows.ensures c.on_side-highs.ensures c.below-below.ensures c.goal.ensures c.in-End.is) arc
    (λ i. record {
      source = c.args.uid;
      high = c.args.high;
      target = c.terminal.ensures i;
    }) (put told k stands)) c.put.ensures.written

pub returns-in-End-clause-arcs : goal.returns-in-End-clause-arcs
returns-in-End-clause-arcs g c = on_ok_weaker c.put.result (λ put told xs ys held.
    let rule = g.O.Operation.rule c.args.operation.now in
    let arc : Arc = record {
      source = c.args.uid;
      high = c.args.high;
      target = c.terminal.result;
    } in
    valued (HoldsArcs c.put.new.self.writer (g.S.Shelf.world c.put.new.shelf)) xs ys c.args.uid
    c.args.high c.in-End.value (goal_below rule (level_of c.args.uid) c.args.high c.args.members.now)
    (goal_from rule _ c.args.uid c.args.high _ _ _ c.args.members.now _ _ c.level_at.ensures.level
    c.on_side-lows.ensures c.on_side-highs.ensures c.below-below.ensures c.goal.ensures c.in-End.is) arc
    (λ i. record {
      source = c.args.uid;
      high = c.args.high;
      target = c.terminal.ensures i;
    }) (put told xs ys held)) c.put.ensures.arcs

-- it goes on
pub returns-in-Go-clause-served : goal.returns-in-Go-clause-served
returns-in-Go-clause-served g c = on_ok_weaker c.ask_for.result (λ joins told k stands.
    let rule = g.O.Operation.rule c.args.operation.now in
    serves_go c.ask_for.new.self (g.S.Shelf.world c.ask_for.new.shelf) k c.args.uid c.args.high
    c.in-Go.tuple (goal_below rule (level_of c.args.uid) c.args.high c.args.members.now)
    (goal_from rule _ c.args.uid c.args.high _ _ _ c.args.members.now _ _ c.level_at.ensures.level
    c.on_side-lows.ensures c.on_side-highs.ensures c.below-below.ensures c.goal.ensures c.in-Go.is)
    (joins told k stands)) c.ask_for.ensures.list

pub returns-in-Go-clause-arcs : goal.returns-in-Go-clause-arcs
returns-in-Go-clause-arcs g c = on_ok_weaker c.ask_for.result (λ keeps told xs ys held.
    let rule = g.O.Operation.rule c.args.operation.now in
    subst (HoldsArcs c.ask_for.new.self.writer (g.S.Shelf.world c.ask_for.new.shelf) xs)
    (sym (ap (λ goal. ys ++ side_arcs c.args.uid c.args.high goal)
    (goal_from rule _ c.args.uid c.args.high _ _ _ c.args.members.now _ _ c.level_at.ensures.level
    c.on_side-lows.ensures c.on_side-highs.ensures c.below-below.ensures c.goal.ensures c.in-Go.is)
    ∙ append-nil ys)) (keeps told xs ys held)) c.ask_for.ensures.arcs

-- what either leaves and costs
pub returns-in-End-clause-does : goal.returns-in-End-clause-does
returns-in-End-clause-does g c = does_more g.S.Shelf.tells g.S.Shelf.world g.S.Shelf.faults 1 48 0 3 _ _ _ _
    c.put.result (omega arith) (omega arith) c.put.ensures.does

pub returns-in-Go-clause-does : goal.returns-in-Go-clause-does
returns-in-Go-clause-does g c = c.ask_for.ensures.does
