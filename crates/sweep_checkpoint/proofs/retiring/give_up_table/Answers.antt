use Rattle.std.proofs.Common.{◌≡◌, ℕ, ◌+◌, ◌<◌, List, length, take, get_or, sym, subst, rules, arith}
use Rattle.std.proofs.lemmas.List.{take_all, get_or_default}
use Rattle.shelf_model.proofs.Changing.{told_changed_none, told_changed_then}
use Rattle.run_tiers.specs.declared.run.Run.{Run}
use Rattle.sweep_checkpoint.specs.Retires.{NamedAmong, IsDropped, Emptied}
use Rattle.sweep_checkpoint.proofs.Dropped.{any_one, dropped_more, emptied_none, emptied_then, among_more}
use Rattle.sweep_checkpoint.proofs.retiring.give_up_table.Goals as goal

pub loop-k-init : goal.loop-k-init
loop-k-init g c = record {
  so_far = told_changed_none g.S.Shelf.tells g.S.Shelf.world (IsDropped c.args.new.now (λ p. NamedAmong p c.args.table.now)) c.args.shelf.now;
  emptied = λ tells. emptied_none _ _ (λ f is. absurd (omega (arith, is.one_of.2)));
  calls = λ tells. omega arith;
  faults = search rules;
}

pub loop-k-preserved : goal.loop-k-preserved
loop-k-preserved g c =
    let table : List Run = c.args.table.now in
    let k : ℕ = c.loop-k.k in
    let within : k < length table = c.loop-k-test.true in
    let d : Run = record { part = 0; next = 0; end = 0 } in
    let x : Run = get_or table k d in
    let is : get_or table k x ≡ x = get_or_default table k x d within in
    record {
      so_far = told_changed_then g.S.Shelf.tells g.S.Shelf.world (IsDropped c.args.new.now (λ p. NamedAmong p table)) (IsDropped c.args.new.now (λ p. p ≡ x.part)) _ _ _
          (dropped_more c.args.new.now (λ p. p ≡ x.part) (λ p. NamedAmong p table) (λ p same. any_one (λ (y : Run). y.part ≡ p) table k x within is (sym same))) c.loop-k.invariant.so_far c.in_ok-give_up.ensures.content;
      emptied = λ tells. emptied_then (IsDropped c.args.new.now (λ p. NamedAmong p (take k table))) (IsDropped c.args.new.now (λ p. p ≡ x.part)) (IsDropped c.args.new.now (λ p. NamedAmong p (take (k + 1) table))) _ _ _
          (among_more c.args.new.now table k x within is) (c.loop-k.invariant.emptied (c.in_ok-give_up.ensures.content.before tells)) (c.in_ok-give_up.ensures.ok tells);
      calls = λ tells.
          let before = c.loop-k.invariant.calls (c.in_ok-give_up.ensures.content.before tells) in
          let call = c.in_ok-give_up.ensures.calls tells in
          omega arith;
      faults = search rules;
    }

pub returns-in_err-give_up-clause-content : goal.returns-in_err-give_up-clause-content
returns-in_err-give_up-clause-content g c =
    let table : List Run = c.args.table.now in
    let k : ℕ = c.loop-k.k in
    let within : k < length table = c.loop-k-test.true in
    let d : Run = record { part = 0; next = 0; end = 0 } in
    let x : Run = get_or table k d in
    let is : get_or table k x ≡ x = get_or_default table k x d within in
    told_changed_then g.S.Shelf.tells g.S.Shelf.world (IsDropped c.args.new.now (λ p. NamedAmong p table)) (IsDropped c.args.new.now (λ p. p ≡ x.part)) _ _ _
    (dropped_more c.args.new.now (λ p. p ≡ x.part) (λ p. NamedAmong p table) (λ p same. any_one (λ (y : Run). y.part ≡ p) table k x within is (sym same))) c.loop-k.invariant.so_far c.in_err-give_up.ensures.content

pub returns-clause-ok : goal.returns-clause-ok
returns-clause-ok g c = λ tells.
    subst (λ xs. Emptied (IsDropped c.args.new.now (λ p. NamedAmong p xs)) (g.S.Shelf.world c.args.shelf.now) (g.S.Shelf.world c.loop-k.shelf))
    (take_all c.loop-k.k c.args.table.now c.loop-k-test.false) (c.loop-k.invariant.emptied tells)
