use Rattle.std.proofs.Common.{subst}
use Rattle.copied_diagrams.specs.Ways.{IsOfPair}
use Rattle.step_sweeps.proofs.AtOnce.{nothing_called}
use Rattle.step_sweeps.proofs.JoinsAnew.{of_earlier}
use Rattle.step_sweeps.proofs.at_once.make_in_way.Goals as goal

-- turns would have to be made
pub returns-in-CopyInTurns : goal.returns-in-CopyInTurns
returns-in-CopyInTurns g c = record {
  makes = nothing_called g.S.Shelf.tells g.S.Shelf.world g.S.Shelf.faults c.args.making c.args.most 0 _;
}

-- the complement is that of an operand, which is of an earlier step
pub complement_now-requires-clause-of : goal.complement_now-requires-clause-of
complement_now-requires-clause-of g c = of_earlier c.args.making c.args.pair c.in-Complement.source c.requires.earlier
    c.requires.pair.left c.requires.pair.right (subst (IsOfPair c.args.pair) c.in-Complement.is c.requires.of)
