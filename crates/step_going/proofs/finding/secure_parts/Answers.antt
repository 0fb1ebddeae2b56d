use Rattle.std.proofs.Common.{ℕ, ◌+◌, List, length, take, subst, rules, arith}
use Rattle.std.specs.Prelude.{All, Ok}
use Rattle.std.proofs.lemmas.List.{take_all}
use Rattle.std.proofs.lemmas.List.Elements.{All-more}
use Rattle.step_going.specs.Found.{IsSurePart}
use Rattle.step_going.proofs.Secured.{some_synced, one_synced, at_most, all_sure_on, sure_one}
use Rattle.step_going.proofs.finding.secure_parts.Goals as goal

pub loop-k-preserved : goal.loop-k-preserved
loop-k-preserved g c =
    let step : ℕ = c.args.step in
    let parts : List ℕ = c.args.parts.now in
    let k : ℕ = c.loop-k.k in
    let one = one_synced g.S.Shelf.tells g.S.Shelf.world step _ (Ok tt) _ _ c.in_ok-sync.ensures.content in
    record {
      content = some_synced g.S.Shelf.tells g.S.Shelf.world step k 1 _ _ _ c.loop-k.invariant.content one;
      sure = λ tells. All-more (IsSurePart step (g.S.Shelf.world c.sync.new.self)) parts k 0 c.loop-k-test.true
          (all_sure_on step 1 (take k parts) _ _ (one.did tells) (c.loop-k.invariant.sure (one.before tells)))
          (sure_one step _ _ _ (c.in_ok-sync.ensures.content.did tells));
      faults = search rules;
    }

pub returns-in_err-sync-clause-content : goal.returns-in_err-sync-clause-content
returns-in_err-sync-clause-content g c =
    at_most g.S.Shelf.tells g.S.Shelf.world c.args.step (c.loop-k.k + 1) (length c.args.parts.now) _ _ (omega (arith, c.loop-k-test.true))
    (some_synced g.S.Shelf.tells g.S.Shelf.world c.args.step c.loop-k.k 1 _ _ _ c.loop-k.invariant.content
    (one_synced g.S.Shelf.tells g.S.Shelf.world c.args.step _ _ _ _ c.in_err-sync.ensures.content))

pub returns-clause-ok : goal.returns-clause-ok
returns-clause-ok g c = λ tells.
    subst (All (IsSurePart c.args.step (g.S.Shelf.world c.loop-k.shelf))) (take_all c.loop-k.k c.args.parts.now c.loop-k-test.false) (c.loop-k.invariant.sure tells)
