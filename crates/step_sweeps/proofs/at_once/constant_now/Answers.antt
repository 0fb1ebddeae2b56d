use Rattle.std.proofs.Common.{sym, subst, arith}
use Rattle.node_file.specs.Canonical.{IsMade}
use Rattle.step_sweeps.specs.Made.{node_file}
use Rattle.step_sweeps.proofs.AtOnce.{failed_of_nodes, folder_failed, folder_fine, made_of_nodes}
use Rattle.step_sweeps.proofs.at_once.constant_now.Goals as goal

pub returns-in-Ok : goal.returns-in-Ok
returns-in-Ok g c = record {
  makes = made_of_nodes g.S.Shelf.tells g.S.Shelf.world g.S.Shelf.faults c.args.making c.args.most 0 _ _ _
      (omega arith) (omega arith) c.made_at_once.ensures
      (λ told tables given. (
        subst (λ t. IsMade c.args.making.n t (node_file c.args.making.number) 0 (g.S.Shelf.world c.make_constant.new.shelf))
            (sym (c.requires.leads (c.make_constant.ensures.content.before told) tables given))
            (c.in-Ok.ensures.made told),
        omega arith,
      ))
      c.make_constant.ensures.content (folder_fine _ _ _ _ c.in-Ok.ensures.faults);
}

pub returns-in-Err : goal.returns-in-Err
returns-in-Err g c = record {
  makes = failed_of_nodes g.S.Shelf.tells g.S.Shelf.world g.S.Shelf.faults c.args.making c.args.most 0 _ _ _
      (omega arith) (λ told tables given. omega arith) c.make_constant.ensures.content
      (folder_failed _ _ _ _ c.in-Err.ensures.cause c.in-Err.ensures.faults);
}
