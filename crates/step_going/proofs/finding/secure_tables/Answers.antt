use Rattle.std.proofs.Common.{ℕ, ◌+◌, ◌*◌, List, [], length, take, get_or, subst, rules, arith}
use Rattle.std.specs.Prelude.{All}
use Rattle.std.proofs.lemmas.List.{take_all}
use Rattle.std.proofs.lemmas.List.Elements.{All-more}
use Rattle.run_tiers.specs.declared.run.Run.{Run}
use Rattle.step_going.specs.Found.{IsSureRun}
use Rattle.step_going.proofs.Secured.{table_synced, at_most, tables_sure_on}
use Rattle.step_going.proofs.finding.secure_tables.Goals as goal

pub loop-k-preserved : goal.loop-k-preserved
loop-k-preserved g c =
    let step : ℕ = c.args.step in
    let tables : List (List Run) = c.args.tables.now in
    let k : ℕ = c.loop-k.k in
    let one = c.in_ok-secure_runs.ensures.content in
    record {
      content = table_synced g.S.Shelf.tells g.S.Shelf.world step k (get_or tables k []) _ _ _ (c.told-tables k c.loop-k-test.true) c.loop-k.invariant.content one;
      sure = λ tells. All-more (All (IsSureRun step (g.S.Shelf.world c.secure_runs.new.shelf))) tables k [] c.loop-k-test.true
          (tables_sure_on step _ (take k tables) _ _ (one.did tells) (c.loop-k.invariant.sure (one.before tells)))
          (c.in_ok-secure_runs.ensures.ok tells);
      faults = search rules;
    }

pub returns-in_err-secure_runs-clause-content : goal.returns-in_err-secure_runs-clause-content
returns-in_err-secure_runs-clause-content g c =
    at_most g.S.Shelf.tells g.S.Shelf.world c.args.step (64 * (c.loop-k.k + 1)) (64 * length c.args.tables.now) _ _ (omega (arith, c.loop-k-test.true))
    (table_synced g.S.Shelf.tells g.S.Shelf.world c.args.step c.loop-k.k (get_or c.args.tables.now c.loop-k.k []) _ _ _ (c.told-tables c.loop-k.k c.loop-k-test.true) c.loop-k.invariant.content c.in_err-secure_runs.ensures.content)

pub returns-clause-ok : goal.returns-clause-ok
returns-clause-ok g c = λ tells.
    subst (All (All (IsSureRun c.args.step (g.S.Shelf.world c.loop-k.shelf)))) (take_all c.loop-k.k c.args.tables.now c.loop-k-test.false) (c.loop-k.invariant.sure tells)
