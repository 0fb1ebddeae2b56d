use Rattle.std.proofs.Common.{◌≡◌, ℕ, ◌+◌, ◌<◌, ◌≤◌, sym, subst, rules, arith}
use Rattle.shelf_model.proofs.Changing.{told_changed_none, told_changed_then}
use Rattle.sweep_checkpoint.specs.Retires.{IsBetween, IsDropped}
use Rattle.sweep_checkpoint.proofs.Dropped.{dropped_more, emptied_none, emptied_then, emptied_fewer, between_more}
use Rattle.sweep_checkpoint.proofs.retiring.give_up_taken.Goals as goal

pub loop-part-init : goal.loop-part-init
loop-part-init g c = record {
  from = omega arith;
  until = omega arith;
  so_far = told_changed_none g.S.Shelf.tells g.S.Shelf.world (IsDropped c.args.new.now (IsBetween c.args.first c.args.new.now.next_part)) c.args.shelf.now;
  emptied = λ tells. emptied_none _ _ (λ f is. let from = is.one_of.from in let below = is.one_of.below in absurd (omega (arith, from, below)));
  calls = λ tells. omega arith;
  faults = search rules;
}

pub loop-part-preserved : goal.loop-part-preserved
loop-part-preserved g c =
    let part : ℕ = c.loop-part.part in
    let below : part < c.args.new.now.next_part = c.loop-part-test.true in
    let from : c.args.first ≤ part = c.loop-part.invariant.from in
    record {
      from = omega arith;
      until = omega arith;
      so_far = told_changed_then g.S.Shelf.tells g.S.Shelf.world (IsDropped c.args.new.now (IsBetween c.args.first c.args.new.now.next_part)) (IsDropped c.args.new.now (λ p. p ≡ part)) _ _ _
          (dropped_more c.args.new.now (λ p. p ≡ part) (IsBetween c.args.first c.args.new.now.next_part) (λ p same. subst (IsBetween c.args.first c.args.new.now.next_part) (sym same) (record { from = from; below = below })))
          c.loop-part.invariant.so_far c.in_ok-give_up.ensures.content;
      emptied = λ tells. emptied_then (IsDropped c.args.new.now (IsBetween c.args.first part)) (IsDropped c.args.new.now (λ p. p ≡ part)) (IsDropped c.args.new.now (IsBetween c.args.first (part + 1))) _ _ _
          (between_more c.args.new.now c.args.first part) (c.loop-part.invariant.emptied (c.in_ok-give_up.ensures.content.before tells)) (c.in_ok-give_up.ensures.ok tells);
      calls = λ tells.
          let before = c.loop-part.invariant.calls (c.in_ok-give_up.ensures.content.before tells) in
          let call = c.in_ok-give_up.ensures.calls tells in
          omega arith;
      faults = search rules;
    }

pub returns-in_err-give_up-clause-content : goal.returns-in_err-give_up-clause-content
returns-in_err-give_up-clause-content g c =
    let part : ℕ = c.loop-part.part in
    let below : part < c.args.new.now.next_part = c.loop-part-test.true in
    let from : c.args.first ≤ part = c.loop-part.invariant.from in
    told_changed_then g.S.Shelf.tells g.S.Shelf.world (IsDropped c.args.new.now (IsBetween c.args.first c.args.new.now.next_part)) (IsDropped c.args.new.now (λ p. p ≡ part)) _ _ _
    (dropped_more c.args.new.now (λ p. p ≡ part) (IsBetween c.args.first c.args.new.now.next_part) (λ p same. subst (IsBetween c.args.first c.args.new.now.next_part) (sym same) (record { from = from; below = below })))
    c.loop-part.invariant.so_far c.in_err-give_up.ensures.content

pub returns-clause-ok : goal.returns-clause-ok
returns-clause-ok g c = λ tells.
    let end : c.args.new.now.next_part ≤ c.loop-part.part = c.loop-part-test.false in
    emptied_fewer _ _ _ _ (dropped_more c.args.new.now (IsBetween c.args.first c.args.new.now.next_part) (IsBetween c.args.first c.loop-part.part)
    (λ p is. record { from = is.from; below = (let b = is.below in omega (arith, b, end)) })) (c.loop-part.invariant.emptied tells)
