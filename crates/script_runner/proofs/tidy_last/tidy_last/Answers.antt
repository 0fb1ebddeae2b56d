use Rattle.std.proofs.Common.{subst, arith}
use Rattle.shelf_model.specs.World.{now}
use Rattle.shelf_model.specs.Calls.{Told}
use Rattle.shelf_model.specs.Moments.{Ran}
use Rattle.script_runner.specs.Together.{OnlyEmptied, IsDropped}
use Rattle.script_runner.proofs.LastTidied.{ok_then, all_tidied, tidied_calls, all_emptied}
use Rattle.script_runner.proofs.tidy_last.tidy_last.Goals as goal
use Rattle.script_runner.proofs.tidy_last.tidy_last.Goals.{then-done-eq0-via-then-done-eq0, then-done-eq0-via-else-done-eq0+then-done-job}

pub returns-in_err-tidy_step-clause-calls : goal.returns-in_err-tidy_step-clause-calls
returns-in_err-tidy_step-clause-calls g c told =
    tidied_calls g.S.Shelf.tells g.S.Shelf.world c.args.job.now.steps.now c.args.done c.last_commit-first.result c.last_commit-first.ensures.is
    c.last_commit-first.ensures.first _ _ c.in_err-tidy_step.ensures.content _ (c.in_err-tidy_step.ensures.most told)
    (c.in_err-tidy_step.ensures.calls told) (omega arith)

-- where no step is committed, or more than there are, nothing is to be emptied
pub returns-then-done-eq0-clause-empty : goal.returns-then-done-eq0-clause-empty
returns-then-done-eq0-clause-empty g c told = elim c.then-done-eq0.branch [
  | then-done-eq0-via-then-done-eq0 w ↦
      let none = w.if-done-eq0.true in
      record {
        first = λ k is. let within = is.within in absurd (omega (arith, within, none));
        dropped = λ upto k gone from below. absurd (omega (arith, below, none));
      }
  | then-done-eq0-via-else-done-eq0+then-done-job w ↦
      let more = w.if-done-job.true in
      record {
        first = λ k is. let upto = is.planned in absurd (omega (arith, upto, more));
        dropped = λ upto k gone from below. absurd (omega (arith, upto, more));
      }
]

pub returns-clause-content : goal.returns-clause-content
returns-clause-content g c =
    all_tidied g.S.Shelf.tells g.S.Shelf.world c.args.job.now.steps.now c.args.done c.last_commit-first.result c.last_commit-first.ensures.is
    c.last_commit-first.ensures.first _ _ c.in_ok-tidy_step.ensures.content _
    (subst (λ n. Told g.S.Shelf.tells c.tidy_step.new.shelf c.empty_dropped.new.shelf
    (Ran (OnlyEmptied (IsDropped c.args.job.now.steps.now n c.args.done) (now (g.S.Shelf.world c.tidy_step.new.shelf)))
    (g.S.Shelf.world c.tidy_step.new.shelf) (g.S.Shelf.world c.empty_dropped.new.shelf))) c.may_wait.ensures c.empty_dropped.ensures.content)

pub returns-clause-calls : goal.returns-clause-calls
returns-clause-calls g c told =
    let told_mid = c.empty_dropped.ensures.content.before told in
    tidied_calls g.S.Shelf.tells g.S.Shelf.world c.args.job.now.steps.now c.args.done c.last_commit-first.result c.last_commit-first.ensures.is
    c.last_commit-first.ensures.first _ _ c.in_ok-tidy_step.ensures.content _ (c.in_ok-tidy_step.ensures.most told_mid)
    (c.in_ok-tidy_step.ensures.calls told_mid)
    (let few = c.empty_dropped.ensures.calls told in let from = c.may_wait.ensures in omega (arith, few, from))

pub returns-clause-empty : goal.returns-clause-empty
returns-clause-empty g c = ok_then c.empty_dropped.result c.empty_dropped.ensures.empty (λ dropped told.
    all_emptied g.S.Shelf.tells g.S.Shelf.world c.args.job.now.steps.now c.args.done c.last_commit-first.result c.last_commit-first.ensures.is
    c.last_commit-first.ensures.first _ _ c.in_ok-tidy_step.ensures.content _
    (subst (λ n. Told g.S.Shelf.tells c.tidy_step.new.shelf c.empty_dropped.new.shelf
    (Ran (OnlyEmptied (IsDropped c.args.job.now.steps.now n c.args.done) (now (g.S.Shelf.world c.tidy_step.new.shelf)))
    (g.S.Shelf.world c.tidy_step.new.shelf) (g.S.Shelf.world c.empty_dropped.new.shelf))) c.may_wait.ensures c.empty_dropped.ensures.content) told
    (c.in_ok-tidy_step.ensures.empty (c.empty_dropped.ensures.content.before told))
    (λ k gone from below. let first = c.may_wait.ensures in dropped told k gone (omega (arith, from, first)) below))
