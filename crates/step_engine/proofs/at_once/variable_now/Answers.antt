use Rattle.std.proofs.Common.{◌<◌, nat_lt, ap, subst, arith}
use Rattle.std.specs.Prelude.{IsTrue}
use Rattle.std.specs.List.{list_all}
use Rattle.bool_tables.specs.Plans.{levels_of}
use Rattle.step_sweeps.proofs.AtOnce.{folder_failed}
use Rattle.step_engine.specs.Simple.{reads}
use Rattle.step_engine.proofs.AtOnce.{simple_failed, simple_now}
use Rattle.step_engine.proofs.EntryLaws.{only_below}
use Rattle.step_engine.proofs.OneTurn.{variable_simple}
use Rattle.step_engine.proofs.at_once.variable_now.Goals as goal

pub returns-in-Ok : goal.returns-in-Ok
returns-in-Ok g c =
    let p = c.args.planned.now in
    let said = c.in-Ok.ensures in
    let below : c.args.level < c.args.n =
    only_below c.args.n c.args.level (subst (λ s. IsTrue (list_all (λ level. nat_lt level c.args.n) (levels_of s))) c.requires.kind c.requires.step.levels_are) in
    record {
      runs = λ most enough. simple_now g.S.Shelf.tells g.S.Shelf.world g.S.Shelf.faults c.args.n c.args.text.now c.args.number p
          most g.met.S.Shelf.files_are _ c.node_file.ensures 1 _
          (variable_simple c.args.n c.args.number c.args.level p.step c.requires.step.few_variables below c.requires.kind)
          c.requires.step _ _ said.content said.calls c.in-Ok.nodes c.diagram_entry.result (ap reads c.requires.kind) enough
          said.count (omega arith) c.diagram_entry.ensures said.made said.faults;
    }

pub returns-in-Err : goal.returns-in-Err
returns-in-Err g c =
    let p = c.args.planned.now in
    let said = c.in-Err.ensures in
    let below : c.args.level < c.args.n =
    only_below c.args.n c.args.level (subst (λ s. IsTrue (list_all (λ level. nat_lt level c.args.n) (levels_of s))) c.requires.kind c.requires.step.levels_are) in
    record {
      runs = λ most enough. simple_failed g.S.Shelf.tells g.S.Shelf.world g.S.Shelf.faults c.args.n c.args.text.now c.args.number p
          most g.met.S.Shelf.files_are _ c.node_file.ensures 1 _
          (variable_simple c.args.n c.args.number c.args.level p.step c.requires.step.few_variables below c.requires.kind)
          c.requires.step _ _ said.content said.calls _ (folder_failed _ _ _ _ said.cause said.faults);
    }
