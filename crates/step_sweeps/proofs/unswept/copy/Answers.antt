use Rattle.std.proofs.Common.{rules}
use Rattle.step_sweeps.proofs.WaysAnew.{made_at_once, failed_at_once}
use Rattle.step_sweeps.proofs.unswept.copy.Goals as goal

pub returns-in_err-copy_diagram-clause-makes : goal.returns-in_err-copy_diagram-clause-makes
returns-in_err-copy_diagram-clause-makes g c =
    failed_at_once g.S.Shelf.tells g.S.Shelf.world g.S.Shelf.faults c.args.making c.args.source.trailer.count _ _ _
    (search rules) c.requires.few c.copy_diagram.ensures.content (λ told tables given. (c.requires.leads told tables given).few)
    (search rules)

pub returns-clause-makes : goal.returns-clause-makes
returns-clause-makes g c =
    made_at_once g.S.Shelf.tells g.S.Shelf.world g.S.Shelf.faults c.args.making c.args.source.trailer.count _ _ _
    c.made_at_once.ensures
    (λ told tables given.
    let leads = c.requires.leads (c.copy_diagram.ensures.content.before told) tables given in
    (c.in_ok-copy_diagram.ensures.made told c.args.making.n _ _ leads, leads.few))
    c.requires.few c.copy_diagram.ensures.content (search rules)
