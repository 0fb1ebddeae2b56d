use Rattle.std.proofs.Common.{ap, arith}
use Rattle.step_sweeps.proofs.AtOnce.{folder_failed}
use Rattle.step_engine.specs.Simple.{reads}
use Rattle.step_engine.proofs.AtOnce.{simple_failed, simple_now}
use Rattle.step_engine.proofs.OneTurn.{constant_simple}
use Rattle.step_engine.proofs.at_once.constant_now.Goals as goal

pub returns-in-Ok : goal.returns-in-Ok
returns-in-Ok g c =
    let p = c.args.planned.now in
    let said = c.in-Ok.ensures in
    record {
      runs = λ most enough. simple_now g.S.Shelf.tells g.S.Shelf.world g.S.Shelf.faults c.args.n c.args.text.now c.args.number p
          most g.met.S.Shelf.files_are _ c.node_file.ensures 0 _
          (constant_simple c.args.n c.args.number c.args.value p.step c.requires.step.few_variables c.requires.kind)
          c.requires.step _ _ said.content (λ told. (let few = said.calls told in omega (arith, few))) c.in-Ok.nodes
          c.diagram_entry.result (ap reads c.requires.kind) enough said.count (omega arith) c.diagram_entry.ensures said.made
          said.faults;
    }

pub returns-in-Err : goal.returns-in-Err
returns-in-Err g c =
    let p = c.args.planned.now in
    let said = c.in-Err.ensures in
    record {
      runs = λ most enough. simple_failed g.S.Shelf.tells g.S.Shelf.world g.S.Shelf.faults c.args.n c.args.text.now c.args.number p
          most g.met.S.Shelf.files_are _ c.node_file.ensures 0 _
          (constant_simple c.args.n c.args.number c.args.value p.step c.requires.step.few_variables c.requires.kind)
          c.requires.step _ _ said.content (λ told. (let few = said.calls told in omega (arith, few))) _
          (folder_failed _ _ _ _ said.cause said.faults);
    }
