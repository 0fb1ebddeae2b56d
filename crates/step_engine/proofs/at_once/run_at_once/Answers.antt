use Rattle.std.proofs.Common.{nat_lt, ap, subst}
use Rattle.std.specs.Prelude.{IsTrue}
use Rattle.std.specs.List.{list_all}
use Rattle.bool_tables.specs.Plans.{makes_diagram, operands}
use Rattle.catalogue.specs.declared.layout.Entry.{Entry}
use Rattle.step_work.specs.Tuples.{sweeps}
use Rattle.step_engine.specs.Simple.{reads}
use Rattle.step_engine.proofs.AtOnce.{drop_now}
use Rattle.step_engine.proofs.EntryLaws.{only_below}
use Rattle.step_engine.proofs.OneTurn.{drop_runs}
use Rattle.step_engine.proofs.at_once.run_at_once.Goals as goal

pub returns-in-Drop : goal.returns-in-Drop
returns-in-Drop g c =
    let drop = c.in-Drop.is in
    let entry = c.drop_entry.ensures.is in
    record {
      runs = drop_now g.S.Shelf.tells g.S.Shelf.world g.S.Shelf.faults c.args.n c.args.text.now c.args.number c.args.planned.now
          c.args.most _ _ (ap reads drop) (ap sweeps drop) (ap makes_diagram drop)
          (drop_runs g.S.Shelf.tells g.S.Shelf.world g.S.Shelf.faults c.args.n c.args.text.now c.args.number c.in-Drop.gone
          c.args.planned.now g.met.S.Shelf.files_are _ _ drop
          (only_below c.args.number c.in-Drop.gone (subst (λ s. IsTrue (list_all (λ k. nat_lt k c.args.number) (operands s))) drop c.requires.step.operands_are))
          c.requires.step entry)
          (ap (λ (x : Entry). x.turns) entry) (ap (λ (x : Entry). x.parts) entry);
    }
