use Rattle.std.proofs.Common.{nat_lt, subst}
use Rattle.std.specs.Prelude.{IsTrue}
use Rattle.std.specs.List.{list_all}
use Rattle.bool_tables.specs.Plans.{operands}
use Rattle.step_engine.proofs.EntryLaws.{only_below}
use Rattle.step_engine.proofs.OneTurn.{drop_runs}
use Rattle.step_engine.proofs.step.run_step.Goals as goal

pub returns-in-Drop : goal.returns-in-Drop
returns-in-Drop g c = record {
  runs = drop_runs g.S.Shelf.tells g.S.Shelf.world g.S.Shelf.faults c.args.n c.args.text.now c.args.number c.in-Drop.gone
      c.args.planned.now g.met.S.Shelf.files_are _ _ c.in-Drop.is
      (only_below c.args.number c.in-Drop.gone (subst (λ s. IsTrue (list_all (λ k. nat_lt k c.args.number) (operands s))) c.in-Drop.is c.requires.step.operands_are))
      c.requires.step c.drop_entry.ensures.is;
}
