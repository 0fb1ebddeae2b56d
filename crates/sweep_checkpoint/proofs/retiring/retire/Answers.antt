use Rattle.std.proofs.Common.{◌≡◌, ◌≤◌, max, length, ap, sym, subst, arith}
use Rattle.std.specs.Prelude.{Some}
use Rattle.std.specs.Option.{option_copied}
use Rattle.shelf_model.specs.World.{now}
use Rattle.shelf_model.specs.Calls.{Told}
use Rattle.shelf_model.specs.Moments.{Ran, OnlyChanged}
use Rattle.sweep_checkpoint.specs.Retires.{IsGivenUp, Emptied, first_taken}
use Rattle.sweep_checkpoint.proofs.Dropped.{retires, retired}
use Rattle.sweep_checkpoint.proofs.retiring.retire.Goals as goal

pub returns-in_err-give_up_tables-clause-calls : goal.returns-in_err-give_up_tables-clause-calls
returns-in_err-give_up_tables-clause-calls g c = λ tells.
    let few : length c.tables_of.result.now ≤ 9 = c.tables_of.ensures.few in
    let one = c.in_err-give_up_tables.ensures.calls tells in
    omega arith

pub returns-in_err-give_up_taken-2-clause-content : goal.returns-in_err-give_up_taken-2-clause-content
returns-in_err-give_up_taken-2-clause-content g c =
    let is : option_copied c.args.older ≡ Some c.in-Some.point.now = ap option_copied c.in-Some.is in
    let first : c.max.result ≡ max 5 c.in-Some.point.now.next_part = omega arith in
    subst (λ o. Told g.S.Shelf.tells c.args.shelf.now c.give_up_taken-2.new.shelf (Ran (OnlyChanged (IsGivenUp o c.args.newer.now) (now (g.S.Shelf.world c.args.shelf.now))) (g.S.Shelf.world c.args.shelf.now) (g.S.Shelf.world c.give_up_taken-2.new.shelf))) (sym is)
    (retires g.S.Shelf.tells g.S.Shelf.world c.in-Some.point.now c.args.newer.now c.tables_of.result.now c.max.result c.tables_of.ensures.tables first _ _ _ c.in_ok-give_up_tables.ensures.content c.in_err-give_up_taken-2.ensures.content)

pub returns-in_err-give_up_taken-2-clause-calls : goal.returns-in_err-give_up_taken-2-clause-calls
returns-in_err-give_up_taken-2-clause-calls g c = λ tells.
    let is : option_copied c.args.older ≡ Some c.in-Some.point.now = ap option_copied c.in-Some.is in
    let first : c.max.result ≡ max 5 c.in-Some.point.now.next_part = omega arith in
    let bound : first_taken (option_copied c.args.older) ≡ max 5 c.in-Some.point.now.next_part = ap first_taken is in
    let few : length c.tables_of.result.now ≤ 9 = c.tables_of.ensures.few in
    let one = c.in_ok-give_up_tables.ensures.calls (c.in_err-give_up_taken-2.ensures.content.before tells) in
    let two = c.in_err-give_up_taken-2.ensures.calls tells in
    omega arith

pub returns-clause-content : goal.returns-clause-content
returns-clause-content g c =
    let is : option_copied c.args.older ≡ Some c.in-Some.point.now = ap option_copied c.in-Some.is in
    let first : c.max.result ≡ max 5 c.in-Some.point.now.next_part = omega arith in
    subst (λ o. Told g.S.Shelf.tells c.args.shelf.now c.give_up_taken-2.new.shelf (Ran (OnlyChanged (IsGivenUp o c.args.newer.now) (now (g.S.Shelf.world c.args.shelf.now))) (g.S.Shelf.world c.args.shelf.now) (g.S.Shelf.world c.give_up_taken-2.new.shelf))) (sym is)
    (retires g.S.Shelf.tells g.S.Shelf.world c.in-Some.point.now c.args.newer.now c.tables_of.result.now c.max.result c.tables_of.ensures.tables first _ _ _ c.in_ok-give_up_tables.ensures.content c.in_ok-give_up_taken-2.ensures.content)

pub returns-clause-ok : goal.returns-clause-ok
returns-clause-ok g c = λ tells.
    let is : option_copied c.args.older ≡ Some c.in-Some.point.now = ap option_copied c.in-Some.is in
    let first : c.max.result ≡ max 5 c.in-Some.point.now.next_part = omega arith in
    subst (λ o. Emptied (IsGivenUp o c.args.newer.now) (g.S.Shelf.world c.args.shelf.now) (g.S.Shelf.world c.give_up_taken-2.new.shelf)) (sym is)
    (retired g.S.Shelf.tells g.S.Shelf.world c.in-Some.point.now c.args.newer.now c.tables_of.result.now c.max.result c.tables_of.ensures.tables first _ _ _ (c.in_ok-give_up_tables.ensures.ok (c.in_ok-give_up_taken-2.ensures.content.before tells)) (c.in_ok-give_up_taken-2.ensures.ok tells))

pub returns-clause-calls : goal.returns-clause-calls
returns-clause-calls g c = λ tells.
    let is : option_copied c.args.older ≡ Some c.in-Some.point.now = ap option_copied c.in-Some.is in
    let first : c.max.result ≡ max 5 c.in-Some.point.now.next_part = omega arith in
    let bound : first_taken (option_copied c.args.older) ≡ max 5 c.in-Some.point.now.next_part = ap first_taken is in
    let few : length c.tables_of.result.now ≤ 9 = c.tables_of.ensures.few in
    let one = c.in_ok-give_up_tables.ensures.calls (c.in_ok-give_up_taken-2.ensures.content.before tells) in
    let two = c.in_ok-give_up_taken-2.ensures.calls tells in
    omega arith
