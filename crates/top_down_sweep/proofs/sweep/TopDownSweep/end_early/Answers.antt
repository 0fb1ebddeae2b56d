use Rattle.top_down_sweep.proofs.Orders.{trusted_ordered, ended_ordered}
use Rattle.top_down_sweep.proofs.sweep.TopDownSweep.end_early.Goals as goal

-- the arcs that were put are in order
pub returns-in_ok-end-in_default-clause-trusts : goal.returns-in_ok-end-in_default-clause-trusts
returns-in_ok-end-in_default-clause-trusts g c told old =
    let m = c.args.self.now.machine in
    c.in_ok-end-in_default.ensures.trusts told _ _ (trusted_ordered _ _ m.place.phase m
    (g.S.Shelf.world c.args.shelf.now) c.in_default.not-Ended old)

pub returns-in_ok-end-in_default-clause-ordered : goal.returns-in_ok-end-in_default-clause-ordered
returns-in_ok-end-in_default-clause-ordered g c told old = ended_ordered
    (g.O.Operation.rule c.args.self.now.operation) (g.O.Operation.begins c.args.self.now.operation)
    c.end.new.self.place.phase
    c.end.new.self _ (returns-in_ok-end-in_default-clause-trusts g c told old)
