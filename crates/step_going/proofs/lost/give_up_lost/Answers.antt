use Rattle.std.proofs.Common.{◌∙◌, refl, arith}
use Rattle.shelf_model.proofs.Changing.{told_changed_none}
use Rattle.step_going.specs.Lost.{IsLost}
use Rattle.step_going.proofs.Emptied.{cut_then, emptied_then}
use Rattle.step_going.proofs.lost.give_up_lost.Goals as goal

pub loop-part-init : goal.loop-part-init
loop-part-init g c = record {
  so_far = told_changed_none g.S.Shelf.tells g.S.Shelf.world (IsLost c.args.step c.args.next) c.args.shelf.now;
  calls = λ _. omega arith;
  empty = λ _ f lost less. absurd (let from = lost.from in omega (arith, from, less));
  folder_later = omega arith;
  say_is = refl;
  text_is = λ path. refl;
}

pub returns-in_err-cut-clause-content : goal.returns-in_err-cut-clause-content
returns-in_err-cut-clause-content g c =
    cut_then g.S.Shelf.tells g.S.Shelf.world (IsLost c.args.step c.args.next) _ _ _ _ _
    (record { step_is = refl; from = search arith; until = search arith })
    c.loop-part.invariant.so_far c.in_err-cut.ensures.content

pub returns-in_err-cut-clause-calls : goal.returns-in_err-cut-clause-calls
returns-in_err-cut-clause-calls g c told =
    let did = c.in_err-cut.ensures.content.did told in
    let ticks = did.shelf.ticks.clock_is in
    let before = c.loop-part.invariant.calls (c.in_err-cut.ensures.content.before told) in
    omega (arith, ticks, before)

pub loop-part-preserved : goal.loop-part-preserved
loop-part-preserved g c = record {
  so_far = cut_then g.S.Shelf.tells g.S.Shelf.world (IsLost c.args.step c.args.next) _ _ _ _ _
      (record { step_is = refl; from = search arith; until = search arith })
      c.loop-part.invariant.so_far c.in_ok-cut.ensures.content;
  calls = λ told.
      let did = c.in_ok-cut.ensures.content.did told in
      let ticks = did.shelf.ticks.clock_is in
      let before = c.loop-part.invariant.calls (c.in_ok-cut.ensures.content.before told) in
      omega (arith, ticks, before);
  empty = λ told. emptied_then (IsLost c.args.step c.args.next) c.args.step c.loop-part.part _ _ (λ f lost. lost.step_is)
      (c.loop-part.invariant.empty (c.in_ok-cut.ensures.content.before told)) (c.in_ok-cut.ensures.content.did told);
  folder_later = let a = c.loop-part.invariant.folder_later in let b = c.in_ok-cut.ensures.faults.later in omega (arith, a, b);
  say_is = c.in_ok-cut.ensures.faults.say_is ∙ c.loop-part.invariant.say_is;
  text_is = λ path. c.in_ok-cut.ensures.faults.text_is path ∙ c.loop-part.invariant.text_is path;
}

pub returns-clause-calls : goal.returns-clause-calls
returns-clause-calls g c told = let before = c.loop-part.invariant.calls told in search (arith, before)

pub returns-clause-empty : goal.returns-clause-empty
returns-clause-empty g c told f lost =
    c.loop-part.invariant.empty told f lost (let until = lost.until in search (arith, until))
