use Rattle.std.proofs.Common.{◌<◌, ◌∙◌, refl, inr, arith}
use Rattle.shelf_model.specs.World.{now}
use Rattle.shelf_model.proofs.Runs.{told_here, ran_stands}
use Rattle.step_engine.specs.OneFile.{OnlyTidied}
use Rattle.step_engine.proofs.Cutting.{cut_on, empty_then, stays_tidy}
use Rattle.step_engine.proofs.drops.empty_between.Goals as goal

pub loop-part-init : goal.loop-part-init
loop-part-init g c = record {
  so_far = told_here g.S.Shelf.tells c.args.shelf.now _ (λ _. ran_stands (g.S.Shelf.world c.args.shelf.now)
      (OnlyTidied c.args.step c.args.number c.args.until (now (g.S.Shelf.world c.args.shelf.now)))
      (stays_tidy c.args.step c.args.number c.args.until (now (g.S.Shelf.world c.args.shelf.now)).folder));
  within = omega arith;
  calls = λ _. omega arith;
  empty = λ _ f own from less. absurd (omega (arith, from, less));
  folder_later = omega arith;
  say_is = refl;
  text_is = λ path. refl;
}

pub returns-in_err-cut-clause-content : goal.returns-in_err-cut-clause-content
returns-in_err-cut-clause-content g c =
    cut_on g.S.Shelf.tells g.S.Shelf.world c.args.step c.args.number c.args.until _ _ _ _ _
    (inr (c.requires.swept, record { step_is = refl; from = search arith; until = search arith }))
    c.loop-part.invariant.so_far c.in_err-cut.ensures.content

pub returns-in_err-cut-clause-calls : goal.returns-in_err-cut-clause-calls
returns-in_err-cut-clause-calls g c told =
    let did = c.in_err-cut.ensures.content.did told in
    let ticks = did.shelf.ticks.clock_is in
    let before = c.loop-part.invariant.calls (c.in_err-cut.ensures.content.before told) in
    let below : c.loop-part.part < c.args.until = c.loop-part-test.true in
    omega (arith, ticks, before, below)

pub loop-part-preserved : goal.loop-part-preserved
loop-part-preserved g c = record {
  so_far = cut_on g.S.Shelf.tells g.S.Shelf.world c.args.step c.args.number c.args.until _ _ _ _ _
      (inr (c.requires.swept, record { step_is = refl; from = search arith; until = search arith }))
      c.loop-part.invariant.so_far c.in_ok-cut.ensures.content;
  within = let below : c.loop-part.part < c.args.until = c.loop-part-test.true in omega (arith, below);
  calls = λ told.
      let did = c.in_ok-cut.ensures.content.did told in
      let ticks = did.shelf.ticks.clock_is in
      let before = c.loop-part.invariant.calls (c.in_ok-cut.ensures.content.before told) in
      omega (arith, ticks, before);
  empty = λ told. empty_then c.args.number c.args.from c.loop-part.part _ _ (c.loop-part.invariant.empty (c.in_ok-cut.ensures.content.before told))
      (c.in_ok-cut.ensures.content.did told);
  folder_later = let a = c.loop-part.invariant.folder_later in let b = c.in_ok-cut.ensures.faults.later in omega (arith, a, b);
  say_is = c.in_ok-cut.ensures.faults.say_is ∙ c.loop-part.invariant.say_is;
  text_is = λ path. c.in_ok-cut.ensures.faults.text_is path ∙ c.loop-part.invariant.text_is path;
}

pub returns-clause-calls : goal.returns-clause-calls
returns-clause-calls g c told =
    let before = c.loop-part.invariant.calls told in
    let within = c.loop-part.invariant.within in
    omega (arith, before, within)

pub returns-clause-empty : goal.returns-clause-empty
returns-clause-empty g c told f own between =
    c.loop-part.invariant.empty told f own between.from (let below = between.below in search (arith, below))
