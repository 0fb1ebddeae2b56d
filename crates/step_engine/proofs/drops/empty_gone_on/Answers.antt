use Rattle.std.proofs.Common.{◌-◌, ◌≡◌, subst, arith}
use Rattle.shelf_model.specs.World.{now}
use Rattle.shelf_model.proofs.Runs.{ran_end}
use Rattle.sweep_checkpoint.specs.Gated.{present}
use Rattle.sweep_checkpoint.specs.Retires.{Emptied}
use Rattle.step_engine.specs.OneFile.{OnlyTidied}
use Rattle.step_engine.specs.LeftBehind.{NamedBy, IsRunOf}
use Rattle.step_engine.proofs.Written.{then}
use Rattle.step_engine.proofs.Cutting.{tidied_fewer, tidied_then}
use Rattle.step_engine.proofs.Emptying.{one_last, all_empty}
use Rattle.step_engine.proofs.drops.empty_gone_on.Goals as goal

pub returns-in_err-empty_named-clause-content : goal.returns-in_err-empty_named-clause-content
returns-in_err-empty_named-clause-content g c =
    tidied_then g.S.Shelf.tells g.S.Shelf.world c.args.step c.args.number c.args.next _ _ _ (c.in_ok-last.ensures.content c.args.step c.args.next c.requires.swept)
    (tidied_fewer g.S.Shelf.tells g.S.Shelf.world c.args.step c.args.number c.args.next _ _ _ (omega arith) c.in_err-empty_named.ensures.content)

pub returns-in_err-empty_between-clause-content : goal.returns-in_err-empty_between-clause-content
returns-in_err-empty_between-clause-content g c =
    tidied_then g.S.Shelf.tells g.S.Shelf.world c.args.step c.args.number c.args.next _ _ _
    (tidied_then g.S.Shelf.tells g.S.Shelf.world c.args.step c.args.number c.args.next _ _ _ (c.in_ok-last.ensures.content c.args.step c.args.next c.requires.swept)
    (tidied_fewer g.S.Shelf.tells g.S.Shelf.world c.args.step c.args.number c.args.next _ _ _ (omega arith) c.in_ok-empty_named.ensures.content))
    (tidied_fewer g.S.Shelf.tells g.S.Shelf.world c.args.step c.args.number c.args.next _ _ _ (omega arith) c.in_err-empty_between.ensures.content)

pub returns-clause-content : goal.returns-clause-content
returns-clause-content g c =
    tidied_then g.S.Shelf.tells g.S.Shelf.world c.args.step c.args.number c.args.next _ _ _
    (tidied_then g.S.Shelf.tells g.S.Shelf.world c.args.step c.args.number c.args.next _ _ _
    (tidied_then g.S.Shelf.tells g.S.Shelf.world c.args.step c.args.number c.args.next _ _ _ (c.in_ok-last.ensures.content c.args.step c.args.next c.requires.swept)
    (tidied_fewer g.S.Shelf.tells g.S.Shelf.world c.args.step c.args.number c.args.next _ _ _ (omega arith) c.in_ok-empty_named.ensures.content))
    (tidied_fewer g.S.Shelf.tells g.S.Shelf.world c.args.step c.args.number c.args.next _ _ _ (omega arith) c.in_ok-empty_between.ensures.content))
    (tidied_fewer g.S.Shelf.tells g.S.Shelf.world c.args.step c.args.number c.args.next _ _ _ (omega arith) c.empty_parts.ensures.content)

pub returns-clause-behind : goal.returns-clause-behind
returns-clause-behind g c = then c.empty_parts.result (λ early told last is_last.
    let told_since = c.empty_parts.ensures.content.before told in
    let told_named = c.in_ok-empty_between.ensures.content.before told_since in
    let told_last = c.in_ok-empty_named.ensures.content.before told_named in
    let same : c.in_ok-last.last ≡ last =
    one_last c.args.number (present (now (g.S.Shelf.world c.args.shelf.now)).folder) _ _ (c.in_ok-last.ensures.ok told_last) is_last in
    all_empty c.args.step c.args.number c.args.next c.max-until.result (c.max-until.result - c.min-most.result) last (g.S.Shelf.world c.last_point.new.shelf)
    (g.S.Shelf.world c.empty_named.new.shelf) (g.S.Shelf.world c.empty_between.new.shelf) (g.S.Shelf.world c.empty_parts.new.shelf) (omega arith)
    (omega arith)
    (subst (λ o. Emptied (IsRunOf c.args.number c.max-until.result (NamedBy o)) (g.S.Shelf.world c.last_point.new.shelf) (g.S.Shelf.world c.empty_named.new.shelf))
    same (c.in_ok-empty_named.ensures.ok told_named))
    (ran_end _ _ (OnlyTidied c.args.step c.args.number c.max-until.result (now (g.S.Shelf.world c.empty_named.new.shelf))) (c.in_ok-empty_between.ensures.content.did told_since))
    (c.in_ok-empty_between.ensures.empty told_since)
    (ran_end _ _ (OnlyTidied c.args.step c.args.number 5 (now (g.S.Shelf.world c.empty_between.new.shelf))) (c.empty_parts.ensures.content.did told))
    (early told)) c.empty_parts.ensures.behind
