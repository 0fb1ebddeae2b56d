use Rattle.std.proofs.Common.{ℕ, ◌+◌, List, length, take, subst, rules, arith}
use Rattle.std.specs.Prelude.{All}
use Rattle.std.proofs.lemmas.List.{take_all}
use Rattle.std.proofs.lemmas.List.Elements.{All-more}
use Rattle.run_tiers.specs.declared.run.Run.{Run}
use Rattle.step_going.specs.Found.{IsSureRun}
use Rattle.step_going.proofs.Secured.{some_synced, at_most, runs_sure_on}
use Rattle.step_going.proofs.finding.secure_runs.Goals as goal

pub loop-k-preserved : goal.loop-k-preserved
loop-k-preserved g c =
    let step : ℕ = c.args.step in
    let table : List Run = c.args.table.now in
    let k : ℕ = c.loop-k.k in
    let d : Run = record { part = 0; next = 0; end = 0 } in
    let one = c.in_ok-secure_run.ensures.content in
    record {
      content = some_synced g.S.Shelf.tells g.S.Shelf.world step k 1 _ _ _ c.loop-k.invariant.content one;
      sure = λ tells. All-more (IsSureRun step (g.S.Shelf.world c.secure_run.new.shelf)) table k d c.loop-k-test.true
          (runs_sure_on step 1 (take k table) _ _ (one.did tells) (c.loop-k.invariant.sure (one.before tells)))
          (c.in_ok-secure_run.ensures.ok tells);
      faults = search rules;
    }

pub returns-in_err-secure_run-clause-content : goal.returns-in_err-secure_run-clause-content
returns-in_err-secure_run-clause-content g c =
    at_most g.S.Shelf.tells g.S.Shelf.world c.args.step (c.loop-k.k + 1) (length c.args.table.now) _ _ (omega (arith, c.loop-k-test.true))
    (some_synced g.S.Shelf.tells g.S.Shelf.world c.args.step c.loop-k.k 1 _ _ _ c.loop-k.invariant.content c.in_err-secure_run.ensures.content)

pub returns-clause-ok : goal.returns-clause-ok
returns-clause-ok g c = λ tells.
    subst (All (IsSureRun c.args.step (g.S.Shelf.world c.loop-k.shelf))) (take_all c.loop-k.k c.args.table.now c.loop-k-test.false) (c.loop-k.invariant.sure tells)
