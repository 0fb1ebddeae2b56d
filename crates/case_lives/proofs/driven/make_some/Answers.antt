use Rattle.std.proofs.Common.{sym, subst}
use Rattle.sweep_core.specs.Saving.{IsOfStep}
use Rattle.sweep_checkpoint.proofs.AsBefore.{of_step_later, of_step_as}
use Rattle.case_lives.proofs.driven.make_some.Goals as goal

-- turns work on the same files, and take parts in turn
pub returns-clause-files : goal.returns-clause-files
returns-clause-files g c =
    let leaves = c.in_ok-made.ensures.leaves in
    let old = c.args.sweep.now in
    let new = c.run_some.new.sweep in
    let accounts = g.P.Sweep.accounts in
    let operands = g.P.Sweep.saving.operands (g.P.Sweep.task old) in
    let same = sym c.run_some.ensures.same in
    let step = sym leaves.step_is in
    subst (λ v. v) (λ i. IsOfStep (accounts.makes new) (g.P.Sweep.saving.operands (same i)) (step i) (accounts.next new))
    (of_step_as (accounts.makes old) (accounts.makes new) operands (accounts.step old) (accounts.next new) leaves.made
    (of_step_later (accounts.makes old) operands (accounts.step old) (accounts.next old) (accounts.next new) leaves.later
    c.requires.files))
