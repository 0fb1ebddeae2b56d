use Rattle.std.proofs.Common.{arith}
use Rattle.step_sweeps.proofs.AtOnce.{failed_of_nodes, folder_answered, folder_refused, made_of_nodes}
use Rattle.step_sweeps.proofs.at_once.copy_now.Goals as goal

pub returns-in-Ok : goal.returns-in-Ok
returns-in-Ok g c = record {
  makes = made_of_nodes g.S.Shelf.tells g.S.Shelf.world g.S.Shelf.faults c.args.making c.args.most
      c.args.source.trailer.count _ _ _ (omega arith) c.requires.few c.made_at_once.ensures
      (λ told tables given.
      let leads = c.requires.leads (c.copy_diagram.ensures.content.before told) tables given in
      (c.in-Ok.ensures.made told c.args.making.n _ _ leads, leads.few))
      c.copy_diagram.ensures.content (folder_answered _ _ _ _ c.in-Ok.ensures.faults);
}

pub returns-in-Err : goal.returns-in-Err
returns-in-Err g c = record {
  makes = failed_of_nodes g.S.Shelf.tells g.S.Shelf.world g.S.Shelf.faults c.args.making c.args.most
      c.args.source.trailer.count _ _ _ c.requires.few
      (λ told tables given. (c.requires.leads told tables given).few) c.copy_diagram.ensures.content
      (folder_refused _ _ _ _ c.in-Err.ensures.faults);
}
