use Rattle.std.proofs.Common.{length, sym, subst, arith}
use Rattle.step_sweeps.specs.Given.{AreEarlier}
use Rattle.step_engine.proofs.Runs.{is_operation, handed_runs, first_refused, operation_refused, operation_made}
use Rattle.step_engine.proofs.sweeping.run_operation.Goals as goal

pub make_diagram-requires-clause-within : goal.make_diagram-requires-clause-within
make_diagram-requires-clause-within g c =
    (is_operation c.args.n c.args.number c.args.planned.now.step c.args.sweeping c.requires.sweeping).within c.requires.step.levels_are

pub make_diagram-requires-clause-going : goal.make_diagram-requires-clause-going
make_diagram-requires-clause-going g c = c.in_ok-going.ensures.finds.going.1

pub make_diagram-requires-clause-earlier : goal.make_diagram-requires-clause-earlier
make_diagram-requires-clause-earlier g c =
    subst (λ k. AreEarlier k c.args.sweeping.operands) (sym c.in_ok-going.ensures.finds.going.0)
    ((is_operation c.args.n c.args.number c.args.planned.now.step c.args.sweeping c.requires.sweeping).earlier c.requires.step.operands_are)

pub returns-in_err-going : goal.returns-in_err-going
returns-in_err-going g c =
    let p = c.args.planned.now in
    record {
      runs = handed_runs g.S.Shelf.tells g.S.Shelf.world g.S.Shelf.faults c.args.n c.args.text.now c.args.number p _ _
          c.in_err-going.field-0.0 c.from_residual.result c.from_residual.ensures.1
          (first_refused g.S.Shelf.tells g.S.Shelf.world g.S.Shelf.faults c.args.n c.args.text.now c.args.number p
          (is_operation c.args.n c.args.number p.step c.args.sweeping c.requires.sweeping).sweeps_is _ _ c.in_err-going.field-0.0
          c.in_err-going.ensures.finds);
    }

pub returns-in_err-made : goal.returns-in_err-made
returns-in_err-made g c =
    let p = c.args.planned.now in
    record {
      runs = handed_runs g.S.Shelf.tells g.S.Shelf.world g.S.Shelf.faults c.args.n c.args.text.now c.args.number p _ _
          c.in_err-made.field-0.0 c.from_residual-in_err-made.result c.from_residual-in_err-made.ensures.1
          (operation_refused g.S.Shelf.tells g.S.Shelf.world g.S.Shelf.faults c.args.n c.args.text.now c.args.number p
          c.args.sweeping c.requires.sweeping c.requires.step g.met.S.Shelf.files_are _ _ _ c.in_ok-going.going c.in_ok-going.ensures.finds
          c.in_err-made.field-0.0 c.in_err-made.ensures.makes);
    }

pub returns : goal.returns
returns g c =
    let p = c.args.planned.now in
    record {
      runs = operation_made g.S.Shelf.tells g.S.Shelf.world g.S.Shelf.faults c.args.n c.args.text.now c.args.number p
          c.args.sweeping c.requires.sweeping c.requires.step g.met.S.Shelf.files_are _ _ _ c.in_ok-going.going c.in_ok-going.ensures.finds
          c.in_ok-made.made c.diagram_entry.result c.diagram_entry.ensures (search arith) (search arith) c.in_ok-made.ensures.makes;
    }
