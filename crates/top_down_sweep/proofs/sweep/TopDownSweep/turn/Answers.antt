use Rattle.top_down_sweep.proofs.Doing.{task_same}
use Rattle.top_down_sweep.proofs.OperandsStay.{still_on}
use Rattle.top_down_sweep.proofs.TurnKeeps.{made_where}
use Rattle.top_down_sweep.proofs.Orders.{ended_ordered}
use Rattle.top_down_sweep.proofs.Holding.{if_err_map}
use Rattle.std.proofs.lemmas.Result.{on_ok_weaker}
use Rattle.top_down_sweep.proofs.sweep.TopDownSweep.turn.Goals as goal

-- the machine's files stay, and its number of variables
pub returns-clause-same : goal.returns-clause-same
returns-clause-same g c = task_same c.args.self.now.machine c.turn.new.self c.turn.ensures.does.same

-- what the machine keeps is kept, and no operand is written
pub returns-clause-keeps : goal.returns-clause-keeps
returns-clause-keeps g c = on_ok_weaker c.turn.result (λ keeps told t remains. record {
  on_files = still_on g.S.Shelf.tells g.S.Shelf.world g.S.Shelf.faults 113 6 c.args.shelf.now
      c.turn.new.shelf c.args.self.now.machine c.turn.new.self c.turn.result t _ _ c.requires.ready
      c.turn.ensures.does told remains.on_files;
  left = keeps told t remains.on_files.rule_is remains.left;
}) c.turn.ensures.keeps

pub returns-clause-whole : goal.returns-clause-whole
returns-clause-whole g c = on_ok_weaker c.turn.result
    (λ keeps told t remains. made_where t _ c.turn.new.self.place.phase c.turn.new.self _
    (keeps told t remains.on_files.rule_is remains.left)) c.turn.ensures.keeps

pub returns-clause-undamaged : goal.returns-clause-undamaged
returns-clause-undamaged g c = if_err_map c.turn.result
    (λ e none told t remains. none told t remains.left) c.turn.ensures.undamaged

-- one turn less remains, or none where it ended
pub returns-clause-fewer : goal.returns-clause-fewer
returns-clause-fewer g c told w remains = c.turn.ensures.fewer told w.task remains.on_files.rule_is
    remains.left w.tuples w.all_met

-- once it has ended, the two files are arcs in their order
pub returns-clause-ordered : goal.returns-clause-ordered
returns-clause-ordered g c = on_ok_weaker c.turn.result (λ trusts told old.
    ended_ordered (g.O.Operation.rule c.args.self.now.operation) (g.O.Operation.begins c.args.self.now.operation)
    c.turn.new.self.place.phase c.turn.new.self _ (trusts told old)) c.turn.ensures.trusts
