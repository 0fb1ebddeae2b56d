use Rattle.std.proofs.Common.{◌∙◌, refl, sym, arith, rules}
use Rattle.reduce_lists.specs.Damage.{IsListCause}
use Rattle.reduce_lists.proofs.Joining.{wrote_empty}
use Rattle.reduce_sweep.proofs.NodesSettled.{wrote_saved, settled_keeps, settled_nodes}
use Rattle.reduce_sweep.proofs.SettleLaws.{write_spares}
use Rattle.reduce_sweep.proofs.reduce.ReduceSweep.settle_nodes.Goals as goal

-- the writer holds what it held
pub returns-clause-settles : goal.returns-clause-settles
returns-clause-settles g c = record {
  carries = record {
    made = λ f e. e ∙ c.settle.ensures.same.file_is;
    making = λ f e. e ∙ sym c.settle.ensures.same.file_is;
    step_is = refl;
    later = omega arith;
    within = λ few. few;
    content = wrote_saved g.S.Shelf.tells g.S.Shelf.world _ _ _ 2 _ _ c.settle.ensures.content;
    untaken = λ told. wrote_empty _ _ _ 2 _ _ (c.settle.ensures.content.did told);
    calls = λ told. (let few = (c.settle.ensures.content.did told).few in omega (arith, few));
    spent = omega arith;
    faults = search rules;
  };
  same = record {
    out_is = c.settle.ensures.same.file_is;
    arcs_are = refl;
    inner_is = refl;
    ends_are = refl;
    variables_are = refl;
  };
  refused = tt;
  spared = tt;
  keeps = settled_keeps g.S.Shelf.tells g.S.Shelf.world _ _ c.args.self.now c.requires.fit c.settle.new.self
      c.settle.ensures.same c.settle.ensures.variables c.in_ok-settle.ensures.count c.settle.ensures.content
      c.in_ok-settle.ensures.holds;
}

pub returns-clause-nodes : goal.returns-clause-nodes
returns-clause-nodes g c = settled_nodes g.S.Shelf.tells g.S.Shelf.world _ _ c.args.self.now c.requires.fit
    c.settle.new.self c.settle.ensures.same c.settle.ensures.variables c.in_ok-settle.ensures.count
    c.settle.ensures.content c.in_ok-settle.ensures.holds c.in_ok-settle.ensures.firm

-- a call of the folder failed
pub returns-in_err-settle-clause-settles : goal.returns-in_err-settle-clause-settles
returns-in_err-settle-clause-settles g c = record {
  carries = record {
    made = λ f e. e ∙ c.settle.ensures.same.file_is;
    making = λ f e. e ∙ sym c.settle.ensures.same.file_is;
    step_is = refl;
    later = omega arith;
    within = λ few. few;
    content = wrote_saved g.S.Shelf.tells g.S.Shelf.world _ _ _ 2 _ _ c.settle.ensures.content;
    untaken = λ told. wrote_empty _ _ _ 2 _ _ (c.settle.ensures.content.did told);
    calls = λ told. (let few = (c.settle.ensures.content.did told).few in omega (arith, few));
    spent = omega arith;
    faults = search rules;
  };
  same = record {
    out_is = c.settle.ensures.same.file_is;
    arcs_are = refl;
    inner_is = refl;
    ends_are = refl;
    variables_are = refl;
  };
  refused = write_spares c.from_residual.result c.in_err-settle.field-0.0 (IsListCause c.args.self.now.parts) tt
      c.from_residual.ensures.1 c.in_err-settle.ensures.cause;
  spared = write_spares c.from_residual.result c.in_err-settle.field-0.0 _ (λ told lists. tt)
      c.from_residual.ensures.1 c.in_err-settle.ensures.cause;
  keeps = search rules;
}
