use Rattle.resumable.proofs.Makings.{copy_goes, arcs_go, reduction_goes}
use Rattle.resumable.proofs.laws.a_sweep_of_a_diagram_goes_on.Goals as goal

pub returns-clause-copy : goal.returns-clause-copy
returns-clause-copy c operation n operands number turns g from r =
    copy_goes operation n operands number g turns r from

pub returns-clause-arcs : goal.returns-clause-arcs
returns-clause-arcs c operation n operands number turns g r =
    arcs_go operation n operands number g turns r

pub returns-clause-reduction : goal.returns-clause-reduction
returns-clause-reduction c operation n operands number turns g task diagram r =
    reduction_goes operation n operands number g turns r task diagram
