use Rattle.std.proofs.Common.{length, ap, arith}
use Rattle.shelf_model.specs.SortFaults.{handed_on}
use Rattle.step_engine.proofs.RunFaults.{shelf_faults, shelf_fine}
use Rattle.step_engine.proofs.Runs.{handed_runs}
use Rattle.step_engine.proofs.OneTurn.{constant_simple, simple_refused, simple_made}
use Rattle.step_engine.proofs.simple.run_constant.Goals as goal

pub returns-in_err-nodes : goal.returns-in_err-nodes
returns-in_err-nodes g c =
    let p = c.args.planned.now in
    let fault = c.in_err-nodes.field-0.0 in
    let said = c.in_err-nodes.ensures in
    record {
      runs = handed_runs g.S.Shelf.tells g.S.Shelf.world g.S.Shelf.faults c.args.n c.args.text.now c.args.number p _ _
          (handed_on fault) c.from_residual.result c.from_residual.ensures.1
          (simple_refused g.S.Shelf.tells g.S.Shelf.world g.S.Shelf.faults c.args.n c.args.text.now c.args.number p
          g.met.S.Shelf.files_are _ c.node_file.ensures 0 _ (constant_simple c.args.n c.args.number c.args.value c.args.planned.now.step c.requires.step.few_variables c.requires.kind) c.requires.step _ _
          said.content (λ told. (let few = said.calls told in omega (arith, few))) (handed_on fault) (ap handed_on said.cause) (shelf_faults _ _ fault said.faults));
    }

pub returns : goal.returns
returns g c = record {
  runs = simple_made g.S.Shelf.tells g.S.Shelf.world g.S.Shelf.faults c.args.n c.args.text.now c.args.number c.args.planned.now g.met.S.Shelf.files_are _ c.node_file.ensures 0 _
      (constant_simple c.args.n c.args.number c.args.value c.args.planned.now.step c.requires.step.few_variables c.requires.kind) c.requires.step _ _
      c.in_ok-nodes.ensures.content (λ told. (let few = c.in_ok-nodes.ensures.calls told in omega (arith, few))) c.in_ok-nodes.nodes c.diagram_entry.result c.in_ok-nodes.ensures.count
      (omega arith) c.diagram_entry.ensures c.in_ok-nodes.ensures.made (shelf_fine _ _ _ _ c.in_ok-nodes.ensures.faults);
}
