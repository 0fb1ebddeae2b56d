use Rattle.std.proofs.Common.{sym, subst, rules, arith}
use Rattle.node_file.specs.Canonical.{IsMade}
use Rattle.step_sweeps.specs.Made.{node_file}
use Rattle.step_sweeps.proofs.WaysAnew.{made_at_once, failed_at_once}
use Rattle.step_sweeps.proofs.unswept.constant.Goals as goal

pub returns-in_err-make_constant-clause-makes : goal.returns-in_err-make_constant-clause-makes
returns-in_err-make_constant-clause-makes g c =
    failed_at_once g.S.Shelf.tells g.S.Shelf.world g.S.Shelf.faults c.args.making 0 _ _ _ (search rules)
    (omega arith) c.make_constant.ensures.content (λ told tables given. omega arith) (search rules)

pub returns-clause-makes : goal.returns-clause-makes
returns-clause-makes g c =
    made_at_once g.S.Shelf.tells g.S.Shelf.world g.S.Shelf.faults c.args.making 0 _ _ _ c.made_at_once.ensures
    (λ told tables given. (
      subst (λ t. IsMade c.args.making.n t (node_file c.args.making.number) 0 (g.S.Shelf.world c.make_constant.new.shelf))
          (sym (c.requires.leads (c.make_constant.ensures.content.before told) tables given))
          (c.in_ok-make_constant.ensures.made told),
      omega arith,
    ))
    (omega arith) c.make_constant.ensures.content (search rules)
