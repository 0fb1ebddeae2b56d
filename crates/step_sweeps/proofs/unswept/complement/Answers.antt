use Rattle.std.proofs.Common.{rules, arith}
use Rattle.step_sweeps.specs.Makes.{nodes_for}
use Rattle.step_sweeps.proofs.JoinsAnew.{complement_is}
use Rattle.step_sweeps.proofs.Running.{folder_ok}
use Rattle.step_sweeps.proofs.WaysAnew.{after_look, made_at_once, failed_at_once, at_once_anew}
use Rattle.step_sweeps.proofs.unswept.complement.Goals as goal

-- the folder failed
pub returns-in_err-complement_file : goal.returns-in_err-complement_file
returns-in_err-complement_file g c = record {
  makes = at_once_anew g.S.Shelf.tells g.S.Shelf.world g.S.Shelf.faults c.args.making _ _ _ _
      (omega arith) (failed_at_once g.S.Shelf.tells g.S.Shelf.world g.S.Shelf.faults c.args.making c.args.source.trailer.count _ _ _
      (search rules) c.requires.few c.complement_file.ensures.content
      (λ told tables given. (c.requires.leads told tables given).2.few) (search rules));
}

-- the complement was made
pub returns-then-branch : goal.returns-then-branch
returns-then-branch g c = record {
  makes = at_once_anew g.S.Shelf.tells g.S.Shelf.world g.S.Shelf.faults c.args.making _ _ _ _
      (omega arith) (made_at_once g.S.Shelf.tells g.S.Shelf.world g.S.Shelf.faults c.args.making c.args.source.trailer.count _ _ _
      c.made_at_once.ensures
      (λ told tables given.
      let leads = c.requires.leads (c.complement_file.ensures.content.before told) tables given in (
        complement_is c.args.making.n _ _ c.args.source _ _ _ c.requires.of.1 leads
            (λ t is trailer. c.in_ok-complement_file.ensures.made (search rules) told t is trailer.root_is trailer.count_is),
        leads.2.few,
      ))
      c.requires.few c.complement_file.ensures.content (search rules));
}

-- the nodes weren't in order
pub returns-else-branch : goal.returns-else-branch
returns-else-branch g c = record {
  makes = after_look g.S.Shelf.tells g.S.Shelf.world g.S.Shelf.faults c.args.making c.args.source.trailer.count 0
      c.args.source.trailer.count (λ g. 0) (nodes_for c.args.making) 7 7 _ _ _ _ _ c.join.result (omega arith)
      (λ told.
      let few = ((c.in_ok-complement_file.ensures.left (search rules)).did told).few in
      let small = c.requires.few in
      omega (arith, few, small))
      (λ told. record {
        turns = λ tables given. let few = (c.requires.leads told tables given).2.few in omega (arith, few);
        few_calls = λ tables given. let few = (c.requires.leads told tables given).2.few in omega (arith, few);
        calls = λ below. omega arith;
      })
      (c.in_ok-complement_file.ensures.left (search rules)) (folder_ok _ _ _ c.in_ok-complement_file.ensures.faults)
      c.join.ensures.makes;
}
