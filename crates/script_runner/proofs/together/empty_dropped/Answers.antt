use Rattle.std.proofs.Common.{◌≡◌, ℕ, ◌+◌, ◌<◌, ◌≤◌, [], get_or, refl, sym, subst, arith}
use Rattle.std.specs.Prelude.{IsTrue, Ok}
use Rattle.bool_tables.specs.declared.steps.Step.TheVariants.{Drop}
use Rattle.shelf_model.specs.World.{now, file}
use Rattle.shelf_model.specs.Calls.{Told}
use Rattle.shelf_model.specs.Faults.{OnlyFolder}
use Rattle.shelf_model.specs.Moments.{Ran}
use Rattle.step_work.specs.Plans.{no_step}
use Rattle.sound_image.specs.Files.{node_file}
use Rattle.script_runner.specs.Together.{OnlyEmptied, IsDropped}
use Rattle.script_runner.proofs.TogetherPuts.{cut_on, dropped_more, dropped_none, emptied_none, faults_on}
use Rattle.script_runner.proofs.together.empty_dropped.Goals as goal
use Rattle.script_runner.proofs.together.empty_dropped.Goals.{in-Drop+in_ok-cut, in_default}

pub loop-k-init : goal.loop-k-init
loop-k-init g c = record {
  so_far = emptied_none g.S.Shelf.tells g.S.Shelf.world (IsDropped c.args.steps.now c.args.from c.args.until) _;
  within = (omega arith, c.requires.within.0);
  calls = λ told. omega arith;
  empty = λ told j gone from below. absurd (omega (arith, from, below));
  faults = record { later = omega arith; cause = tt; say_is = refl; text_is = λ path. refl };
}

pub returns-in_err-cut-clause-content : goal.returns-in_err-cut-clause-content
returns-in_err-cut-clause-content g c =
    cut_on g.S.Shelf.tells g.S.Shelf.world (IsDropped c.args.steps.now c.args.from c.args.until) _ _ c.loop-k.invariant.so_far c.in-Drop.gone
    c.node_file.result _ _ c.node_file.ensures
    (c.loop-k.k, c.loop-k.invariant.within.0, c.loop-k-test.true, (c.in-Drop.gone, c.in-Drop.is, refl)) c.in_err-cut.ensures.content

pub loop-k-preserved : goal.loop-k-preserved
loop-k-preserved g c =
    let from = c.loop-k.invariant.within.0 in
    let below = c.loop-k-test.true in
    elim c.match-steps-k.branch [
      | in-Drop+in_ok-cut w ↦ record {
        so_far = subst (λ s. Told g.S.Shelf.tells c.args.shelf.now s
            (Ran (OnlyEmptied (IsDropped c.args.steps.now c.args.from c.args.until) (now (g.S.Shelf.world c.args.shelf.now)))
            (g.S.Shelf.world c.args.shelf.now) (g.S.Shelf.world s))) (sym w.shelf-is)
            (cut_on g.S.Shelf.tells g.S.Shelf.world (IsDropped c.args.steps.now c.args.from c.args.until) _ _ c.loop-k.invariant.so_far w.in-Drop.gone
            w.node_file.result _ _ w.node_file.ensures (c.loop-k.k, from, below, (w.in-Drop.gone, w.in-Drop.is, refl)) w.in_ok-cut.ensures.content);
        within = (omega (arith, from), omega (arith, below));
        calls = subst (λ s. IsTrue (g.S.Shelf.tells s) → (g.S.Shelf.world s).clock + c.args.from
            ≤ (g.S.Shelf.world c.args.shelf.now).clock + (c.loop-k.k + 1)) (sym w.shelf-is) (λ told.
            let before = c.loop-k.invariant.calls (w.in_ok-cut.ensures.content.before told) in
            let ticks = (w.in_ok-cut.ensures.content.did told).shelf.ticks.clock_is in
            omega (arith, before, ticks));
        empty = subst (λ s. IsTrue (g.S.Shelf.tells s) → (j gone : ℕ) → c.args.from ≤ j → j < c.loop-k.k + 1
            → (get_or c.args.steps.now j no_step).step ≡ Drop gone → (file (g.S.Shelf.world s) (node_file gone)).bytes ≡ []) (sym w.shelf-is) (λ told.
            dropped_more c.args.steps.now c.args.from c.loop-k.k w.in-Drop.gone w.node_file.result _ _ w.node_file.ensures
            (c.loop-k.invariant.empty (w.in_ok-cut.ensures.content.before told)) w.in-Drop.is (w.in_ok-cut.ensures.content.did told));
        faults = subst (λ s. OnlyFolder {T = Unit} (g.S.Shelf.faults c.args.shelf.now) (g.S.Shelf.faults s) (Ok tt)) (sym w.shelf-is)
            (faults_on _ _ _ _ tt c.loop-k.invariant.faults w.in_ok-cut.ensures.faults);
      }
      | in_default w ↦ record {
        so_far = subst (λ s. Told g.S.Shelf.tells c.args.shelf.now s
            (Ran (OnlyEmptied (IsDropped c.args.steps.now c.args.from c.args.until) (now (g.S.Shelf.world c.args.shelf.now)))
            (g.S.Shelf.world c.args.shelf.now) (g.S.Shelf.world s))) (sym w.shelf-is) c.loop-k.invariant.so_far;
        within = (omega (arith, from), omega (arith, below));
        calls = subst (λ s. IsTrue (g.S.Shelf.tells s) → (g.S.Shelf.world s).clock + c.args.from
            ≤ (g.S.Shelf.world c.args.shelf.now).clock + (c.loop-k.k + 1)) (sym w.shelf-is) (λ told.
            let before = c.loop-k.invariant.calls told in omega (arith, before));
        empty = subst (λ s. IsTrue (g.S.Shelf.tells s) → (j gone : ℕ) → c.args.from ≤ j → j < c.loop-k.k + 1
            → (get_or c.args.steps.now j no_step).step ≡ Drop gone → (file (g.S.Shelf.world s) (node_file gone)).bytes ≡ []) (sym w.shelf-is) (λ told.
            dropped_none c.args.steps.now c.args.from c.loop-k.k (g.S.Shelf.world c.loop-k.shelf) (c.loop-k.invariant.empty told) w.in_default.not-Drop);
        faults = subst (λ s. OnlyFolder {T = Unit} (g.S.Shelf.faults c.args.shelf.now) (g.S.Shelf.faults s) (Ok tt)) (sym w.shelf-is)
            c.loop-k.invariant.faults;
      }
    ]
