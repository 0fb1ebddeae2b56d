use Rattle.std.proofs.Common.{◌∙◌, sym, arith}
use Rattle.step_engine.proofs.AtOnce.{operation_failed_now, operation_made_now, operation_none_now}
use Rattle.step_engine.proofs.at_once.operation_now.Goals as goal

-- the folder failed
pub returns-in_err-made : goal.returns-in_err-made
returns-in_err-made g c = record {
  runs = operation_failed_now g.S.Shelf.tells g.S.Shelf.world g.S.Shelf.faults c.args.n c.args.text.now c.args.number
      c.args.planned.now c.args.most c.in-Some.sweeping (sym c.sweeping_of.ensures ∙ c.in-Some.is) c.requires.step _ _
      c.in_err-made.field-0.0 c.from_residual.result c.from_residual.ensures.1 c.in_err-made.ensures.makes;
}

-- nothing was made
pub returns-in_default-2 : goal.returns-in_default-2
returns-in_default-2 g c = record {
  runs = operation_none_now g.S.Shelf.tells g.S.Shelf.world g.S.Shelf.faults c.args.n c.args.text.now c.args.number
      c.args.planned.now c.args.most c.in-Some.sweeping (sym c.sweeping_of.ensures ∙ c.in-Some.is) c.requires.step _ _
      c.in_ok-made.field-0 c.in_default-2.is c.in_ok-made.ensures.makes;
}

-- the diagram was made
pub returns : goal.returns
returns g c = record {
  runs = operation_made_now g.S.Shelf.tells g.S.Shelf.world g.S.Shelf.faults c.args.n c.args.text.now c.args.number
      c.args.planned.now c.args.most c.in-Some.sweeping (sym c.sweeping_of.ensures ∙ c.in-Some.is) c.requires.step _ _
      c.in_ok-made.field-0 c.in-Some-2.made c.diagram_entry.result c.in-Some-2.is c.diagram_entry.ensures (search arith)
      (search arith) c.in_ok-made.ensures.makes;
}
