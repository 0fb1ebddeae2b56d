use Rattle.std.proofs.Common.{subst, arith}
use Rattle.copied_diagrams.specs.Ways.{IsOfPair}
use Rattle.step_sweeps.specs.Makes.{nodes_for}
use Rattle.step_sweeps.proofs.JoinsAnew.{of_earlier}
use Rattle.step_sweeps.proofs.WaysAnew.{at_once_anew, with_less}
use Rattle.step_sweeps.proofs.diagram.make_by.Goals as goal

-- at once
pub returns-in-Constant : goal.returns-in-Constant
returns-in-Constant g c = record {
  makes = at_once_anew g.S.Shelf.tells g.S.Shelf.world g.S.Shelf.faults c.args.making _ _ _
      c.constant.result (omega arith) c.constant.ensures.makes;
}

pub returns-in-Copy : goal.returns-in-Copy
returns-in-Copy g c = record {
  makes = at_once_anew g.S.Shelf.tells g.S.Shelf.world g.S.Shelf.faults c.args.making _ _ _
      c.copy.result (omega arith) c.copy.ensures.makes;
}

-- joined, with no more turns than that takes
pub returns-in-Join : goal.returns-in-Join
returns-in-Join g c = record {
  makes = with_less g.S.Shelf.tells g.S.Shelf.world g.S.Shelf.faults c.args.making 0 (λ g. 0)
      (nodes_for c.args.making) 7 7 _ _ _ _ c.join.result (λ g. omega arith) (omega arith)
      (omega arith) c.join.ensures.makes;
}

-- the complement is that of an operand, which is of an earlier step
pub complement-requires-clause-of : goal.complement-requires-clause-of
complement-requires-clause-of g c = of_earlier c.args.making c.args.pair c.in-Complement.source c.requires.earlier
    c.requires.pair.left c.requires.pair.right (subst (IsOfPair c.args.pair) c.in-Complement.is c.requires.of)
