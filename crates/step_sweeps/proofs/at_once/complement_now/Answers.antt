use Rattle.std.proofs.Common.{rules, arith}
use Rattle.step_sweeps.proofs.AtOnce.{failed_of_nodes, folder_failed, folder_fine, made_of_nodes, nothing_made}
use Rattle.step_sweeps.proofs.JoinsAnew.{complement_is}
use Rattle.step_sweeps.proofs.at_once.complement_now.Goals as goal

-- the complement was made
pub returns-in-Ok-true : goal.returns-in-Ok-true
returns-in-Ok-true g c = record {
  makes = made_of_nodes g.S.Shelf.tells g.S.Shelf.world g.S.Shelf.faults c.args.making c.args.most
      c.args.source.trailer.count _ _ _ (omega arith) c.requires.few c.made_at_once.ensures
      (λ told tables given.
      let leads = c.requires.leads (c.complement_file.ensures.content.before told) tables given in (
        complement_is c.args.making.n _ _ c.args.source _ _ _ c.requires.of.1 leads
            (λ t is trailer. c.in-Ok-true.ensures.made (search rules) told t is trailer.root_is trailer.count_is),
        leads.2.few,
      ))
      c.complement_file.ensures.content (folder_fine _ _ _ _ c.in-Ok-true.ensures.faults);
}

-- the nodes weren't in order
pub returns-in-Ok-false : goal.returns-in-Ok-false
returns-in-Ok-false g c =
    let left = c.in-Ok-false.ensures.left (search rules) in
    let small = c.requires.few in
    record {
      makes = nothing_made g.S.Shelf.tells g.S.Shelf.world g.S.Shelf.faults c.args.making c.args.most 0
          c.args.source.trailer.count _ _ (omega arith)
          (λ told tables given.
          let few = (left.did told).few in
          let within = (c.requires.leads (left.before told) tables given).2.few in
          omega (arith, few, within))
          (λ told. let few = (left.did told).few in omega (arith, few, small))
          left (folder_fine _ _ _ _ c.in-Ok-false.ensures.faults);
    }

-- the folder failed
pub returns-in-Err : goal.returns-in-Err
returns-in-Err g c = record {
  makes = failed_of_nodes g.S.Shelf.tells g.S.Shelf.world g.S.Shelf.faults c.args.making c.args.most
      c.args.source.trailer.count _ _ _ c.requires.few
      (λ told tables given. (c.requires.leads told tables given).2.few) c.complement_file.ensures.content
      (folder_failed _ _ _ _ c.in-Err.ensures.cause c.in-Err.ensures.faults);
}
