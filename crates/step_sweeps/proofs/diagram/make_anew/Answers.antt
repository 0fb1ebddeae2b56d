use Rattle.std.proofs.Common.{rules, arith}
use Rattle.step_sweeps.specs.Ways.{left_by_sweeps}
use Rattle.step_sweeps.proofs.JoinsAnew.{pair_read, chosen_leads}
use Rattle.step_sweeps.proofs.Running.{folder_ok}
use Rattle.step_sweeps.proofs.WaysAnew.{after_look, look_refused, with_less}
use Rattle.step_sweeps.proofs.diagram.make_anew.Goals as goal

-- no operator
pub returns-in_default : goal.returns-in_default
returns-in_default g c = record {
  makes = with_less g.S.Shelf.tells g.S.Shelf.world g.S.Shelf.faults c.args.making 0 (λ g. 0)
      (left_by_sweeps c.args.making) 11 11 _ _ _ _ c.sweep_diagram.result (λ g. omega arith) (omega arith) (omega arith)
      c.sweep_diagram.ensures.makes;
}

-- an operand's trailer wasn't read
pub returns-in_err-pair : goal.returns-in_err-pair
returns-in_err-pair g c = record {
  makes = look_refused g.S.Shelf.tells g.S.Shelf.world g.S.Shelf.faults c.args.making _ _ _
      c.in_err-pair.field-0.0 c.from_residual.result (omega arith) c.from_residual.ensures.1 c.in_err-pair.ensures.sound
      c.in_err-pair.ensures.damaged c.in_err-pair.ensures.content (search rules);
}

-- the pair is that of the step's operands, and the way that was chosen leads to its diagram
pub make_by-requires-clause-pair : goal.make_by-requires-clause-pair
make_by-requires-clause-pair g c = pair_read g.S.Shelf.tells g.S.Shelf.world c.in-Operator.op c.args.making
    c.in_ok-pair.pair _ _ c.in-Operator.is c.in_ok-pair.ensures.operands.0 c.in_ok-pair.ensures.operands.1
    c.read_pair.ensures.content c.in_ok-pair.ensures.trailers

pub make_by-requires-clause-leads : goal.make_by-requires-clause-leads
make_by-requires-clause-leads g c =
    chosen_leads g.S.Shelf.tells g.S.Shelf.world g.S.Shelf.faults c.in-Operator.op c.args.making c.in_ok-pair.pair _
    (pair_read g.S.Shelf.tells g.S.Shelf.world c.in-Operator.op c.args.making c.in_ok-pair.pair _ _ c.in-Operator.is
    c.in_ok-pair.ensures.operands.0 c.in_ok-pair.ensures.operands.1 c.read_pair.ensures.content
    c.in_ok-pair.ensures.trailers) c.way_of-way.result c.way_of-way.ensures.leads

-- the look at the trailers comes first
pub returns : goal.returns
returns g c = record {
  makes = after_look g.S.Shelf.tells g.S.Shelf.world g.S.Shelf.faults c.args.making 4 0 0
      (λ g. 0) (λ g. 0) 11 7 _ _ _ _ _ c.make_by.result (omega arith)
      (λ told. let few = (c.read_pair.ensures.content.did told).few in omega (arith, few))
      (λ told. record { turns = λ g given. omega arith; few_calls = λ g given. omega arith; calls = λ below. omega arith })
      c.read_pair.ensures.content (folder_ok _ _ _ c.in_ok-pair.ensures.faults) c.make_by.ensures.makes;
}
