use Rattle.std.proofs.Common.{arith}
use Rattle.step_sweeps.proofs.AtOnce.{behind_trailers, folder_damage, folder_failed, folder_fine, looked_only, nothing_called, nothing_left, nothing_made}
use Rattle.step_sweeps.proofs.JoinsAnew.{pair_read, chosen_leads}
use Rattle.step_sweeps.proofs.at_once.make_at_once.Goals as goal

-- no operator
pub returns-in_default : goal.returns-in_default
returns-in_default g c = record {
  makes = nothing_called g.S.Shelf.tells g.S.Shelf.world g.S.Shelf.faults c.args.making c.args.most 4 _;
}

-- the pair is that of the step's operands, and the way that was chosen leads to its diagram
pub make_in_way-requires-clause-pair : goal.make_in_way-requires-clause-pair
make_in_way-requires-clause-pair g c = pair_read g.S.Shelf.tells g.S.Shelf.world c.in-Operator.op c.args.making
    c.in-Ok.pair _ _ c.in-Operator.is c.in-Ok.ensures.operands.0 c.in-Ok.ensures.operands.1
    c.read_pair.ensures.content c.in-Ok.ensures.trailers

pub make_in_way-requires-clause-leads : goal.make_in_way-requires-clause-leads
make_in_way-requires-clause-leads g c =
    chosen_leads g.S.Shelf.tells g.S.Shelf.world g.S.Shelf.faults c.in-Operator.op c.args.making c.in-Ok.pair _
    (pair_read g.S.Shelf.tells g.S.Shelf.world c.in-Operator.op c.args.making c.in-Ok.pair _ _ c.in-Operator.is
    c.in-Ok.ensures.operands.0 c.in-Ok.ensures.operands.1 c.read_pair.ensures.content
    c.in-Ok.ensures.trailers) c.way_of-way.result c.way_of-way.ensures.leads

-- the look at the trailers comes first
pub returns-in-Ok : goal.returns-in-Ok
returns-in-Ok g c = record {
  makes = behind_trailers g.S.Shelf.tells g.S.Shelf.world g.S.Shelf.faults c.args.making c.args.most _ _ _
      c.make_in_way.result c.read_pair.ensures.content (folder_fine _ _ _ _ c.in-Ok.ensures.faults)
      c.make_in_way.ensures.makes;
}

-- the folder failed
pub returns-in-Err-Shelf : goal.returns-in-Err-Shelf
returns-in-Err-Shelf g c = record {
  makes = nothing_left g.S.Shelf.tells g.S.Shelf.world g.S.Shelf.faults c.args.making c.args.most 4 _ _ _
      (λ told tables given. let few = (c.read_pair.ensures.content.did told).few in omega (arith, few))
      (λ told. let few = (c.read_pair.ensures.content.did told).few in omega (arith, few))
      (looked_only g.S.Shelf.tells g.S.Shelf.world c.args.making.number 4 _ _ c.read_pair.ensures.content)
      (folder_failed _ _ _ _ c.in-Err-Shelf.field-0-is c.in-Err-Shelf.ensures.faults);
}

-- a trailer is damaged
pub returns-in-Err-Damaged : goal.returns-in-Err-Damaged
returns-in-Err-Damaged g c = record {
  makes = nothing_made g.S.Shelf.tells g.S.Shelf.world g.S.Shelf.faults c.args.making c.args.most 4 4 _ _ (omega arith)
      (λ told tables given. let few = (c.read_pair.ensures.content.did told).few in omega (arith, few))
      (λ told. let few = (c.read_pair.ensures.content.did told).few in omega (arith, few))
      c.read_pair.ensures.content (folder_damage _ _ _ _ c.in-Err-Damaged.ensures.faults);
}
