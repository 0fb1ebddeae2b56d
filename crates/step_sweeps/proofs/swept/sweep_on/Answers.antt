use Rattle.std.proofs.Common.{rules}
use Rattle.step_sweeps.proofs.SweptSteps.{handed_sweeps, arcs_refused, reduced_then}
use Rattle.step_sweeps.proofs.swept.sweep_on.Goals as goal

-- the arcs weren't made
pub returns-in_err-made : goal.returns-in_err-made
returns-in_err-made g c = record {
  sweeps = handed_sweeps g.S.Shelf.tells g.S.Shelf.world g.S.Shelf.faults c.args.making c.args.going.now _ _
      c.in_err-made.field-0.0 c.from_residual.result c.from_residual.ensures.1
      (arcs_refused g.S.Shelf.tells g.S.Shelf.world g.S.Shelf.faults c.args.making c.args.going.now _ _ _
      c.in_err-made.field-0.0 c.in_err-made.ensures.makes (search rules));
}

-- they are reduced
pub returns : goal.returns
returns g c = record {
  sweeps = reduced_then g.S.Shelf.tells g.S.Shelf.world g.S.Shelf.faults c.args.making c.args.going.now _ _ _
      c.in_ok-made.made c.requires.going c.requires.early c.in_ok-made.ensures.makes _ c.reduce_arcs.result
      (λ told f. g.met.S.Shelf.files_are _ told f) c.reduce_arcs.ensures.reduces;
}
