use Rattle.std.proofs.Common.{◌≡◌, ◌≤◌, ◌<◌, ◌∙◌, ap, subst, refl, arith, true, false}
use Rattle.std.specs.Prelude.{Ok}
use Rattle.std.proofs.lemmas.Bool.Decides.{nat_tests}
use Rattle.rec_words.specs.Words.{level_of}
use Rattle.canon_file.specs.Members.{Has}
use Rattle.arc_file.specs.declared.arc.Arc.{Arc}
use Rattle.reduce_lists.specs.Contents.{to_collect}
use Rattle.reduce_lists.specs.Changes.{ComesNext}
use Rattle.run_tiers.proofs.Slots.{none_from}
use Rattle.reduce_sweep.specs.declared.reduce.ReduceSweep.{ReduceSweep}
use Rattle.reduce_sweep.specs.declared.phase.Phase.TheVariants.{Number}
use Rattle.reduce_sweep.specs.Sweeps.{none_numbered}
use Rattle.reduce_sweep.proofs.Doing.{refused_second, then_ok, does_placed}
use Rattle.reduce_sweep.proofs.CollectingKeeps.{next_within, arc_below, none_below, level_collected}
use Rattle.reduce_sweep.proofs.reduce.ReduceSweep.collect.Goals as goal
use Rattle.reduce_sweep.proofs.reduce.ReduceSweep.collect.Goals.{in-Some+else-level-self+else-level-self-2, in_default}
use Rattle.std.proofs.lemmas.Grind.{common_steps}

pub returns-in_err-collect_arc-clause-does : goal.returns-in_err-collect_arc-clause-does
returns-in_err-collect_arc-clause-does g c = refused_second g.S.Shelf.tells g.S.Shelf.world g.S.Shelf.faults 8 24 0 1 32
    1 _ _ _ c.args.self.now c.next_arc.new.self c.collect_arc.new.self c.next_arc.result c.collect_arc.result
    c.from_residual-in_err-collect_arc.result c.in_err-collect_arc.field-0.0
    (omega arith) (omega arith) c.requires.fit.sound (ap (λ (r : ReduceSweep). r.ahead.reader) c.next_arc.ensures.rest)
    c.in_ok-arc.ensures.trusts
    c.next_arc.ensures.does c.collect_arc.ensures.does c.from_residual-in_err-collect_arc.ensures.1
    c.in_err-collect_arc.was

pub returns-then-level-self-clause-does : goal.returns-then-level-self-clause-does
returns-then-level-self-clause-does g c = then_ok g.S.Shelf.tells g.S.Shelf.world g.S.Shelf.faults 8 24 0 1 32 1 _ _ _
    c.args.self.now c.next_arc.new.self c.collect_arc.new.self c.next_arc.result c.collect_arc.result true
    (omega arith) (omega arith) c.requires.fit.sound (ap (λ (r : ReduceSweep). r.ahead.reader) c.next_arc.ensures.rest)
    c.in_ok-arc.ensures.trusts
    c.next_arc.ensures.does c.collect_arc.ensures.does

pub returns-in_err-pass-clause-does : goal.returns-in_err-pass-clause-does
returns-in_err-pass-clause-does g c = refused_second g.S.Shelf.tells g.S.Shelf.world g.S.Shelf.faults 8 8 0 0 32 1 _ _ _
    c.args.self.now c.next_arc.new.self c.pass.new.self c.next_arc.result c.pass.result
    c.from_residual-in_err-pass.result c.in_err-pass.field-0.0
    (omega arith) (omega arith) c.requires.fit.sound (ap (λ (r : ReduceSweep). r.ahead.reader) c.next_arc.ensures.rest)
    c.in_ok-arc.ensures.trusts
    c.next_arc.ensures.does c.pass.ensures.does c.from_residual-in_err-pass.ensures.1 c.in_err-pass.was

pub returns-then-level-self-2-clause-does : goal.returns-then-level-self-2-clause-does
returns-then-level-self-2-clause-does g c = then_ok g.S.Shelf.tells g.S.Shelf.world g.S.Shelf.faults 8 8 0 0 32 1 _ _ _
    c.args.self.now c.next_arc.new.self c.pass.new.self c.next_arc.result c.pass.result true
    (omega arith) (omega arith) c.requires.fit.sound (ap (λ (r : ReduceSweep). r.ahead.reader) c.next_arc.ensures.rest)
    c.in_ok-arc.ensures.trusts
    c.next_arc.ensures.does c.pass.ensures.does

pub returns-in_err-close-clause-does : goal.returns-in_err-close-clause-does
returns-in_err-close-clause-does g c = refused_second g.S.Shelf.tells g.S.Shelf.world g.S.Shelf.faults 8 16 0 1 32 1 _ _
    _ c.args.self.now c.next_arc.new.self c.close.new.self c.next_arc.result c.close.result
    c.from_residual-in_err-close.result c.in_err-close.field-0.0
    (omega arith) (omega arith) c.requires.fit.sound (ap (λ (r : ReduceSweep). r.ahead.reader) c.next_arc.ensures.rest)
    c.in_ok-arc.ensures.trusts
    c.next_arc.ensures.does c.close.ensures.does c.from_residual-in_err-close.ensures.1 c.in_err-close.was

pub returns-clause-does : goal.returns-clause-does
returns-clause-does g c = does_placed g.S.Shelf.tells g.S.Shelf.world g.S.Shelf.faults 32 1 _ _ c.args.self.now
    c.close.new.self (Ok false) _ refl refl
    (then_ok g.S.Shelf.tells g.S.Shelf.world g.S.Shelf.faults 8 16 0 1 32 1 _ _ _ c.args.self.now c.next_arc.new.self
    c.close.new.self c.next_arc.result c.close.result false
    (omega arith) (omega arith) c.requires.fit.sound (ap (λ (r : ReduceSweep). r.ahead.reader) c.next_arc.ensures.rest)
    c.in_ok-arc.ensures.trusts
    c.next_arc.ensures.does c.close.ensures.does)

-- the next arc is of no deeper level
pub returns-then-level-self-2-clause-keeps : goal.returns-then-level-self-2-clause-keeps
returns-then-level-self-2-clause-keeps g c = λ told d working.
    let s = c.args.self.now in
    let k = working.contents in
    let comes = subst (ComesNext k) c.in-Some.is (c.in_ok-arc.ensures.first
    (c.pass.ensures.does.leaves.content.before told) k working.holds) in
    let within : level_of c.in-Some.arc.source ≤ s.place.level = next_within s.place c.args.source d k c.in-Some.queued
    c.in-Some.arc c.requires.phase working.left comes.0 in
    let same : c.next_arc.new.self.place.level ≡ s.place.level = ap (λ (r : ReduceSweep). r.place.level)
    c.next_arc.ensures.rest in
    let level : c.level_at-level.result ≡ level_of c.in-Some.arc.source = c.level_at-level.ensures.level in
    let over : c.next_arc.new.self.place.level < c.level_at-level.result = c.if-level-self-2.true in
    absurd (omega (arith, within, same, level, over))

-- no arc of the level is left
pub returns-clause-keeps : goal.returns-clause-keeps
returns-clause-keeps g c = λ told d working.
    let s = c.args.self.now in
    let k = working.contents in
    let shown = c.close.ensures.does.leaves.content.before told in
    let comes = c.in_ok-arc.ensures.first shown k working.holds in
    let same : c.next_arc.new.self.place.level ≡ s.place.level = ap (λ (r : ReduceSweep). r.place.level)
    c.next_arc.ensures.rest in
    let low : (q : Arc) → Has q (to_collect k) → level_of q.source < s.place.level =
    elim c.match-branch-2.branch [
      | in-Some+else-level-self+else-level-self-2 w ↦
          let level : w.level_at-level.result ≡ level_of w.in-Some.arc.source = w.level_at-level.ensures.level in
          let under : w.level_at-level.result ≤ c.next_arc.new.self.place.level = w.if-level-self-2.false in
          let other = w.if-level-self.false in
          let less : w.level_at-level.result < c.next_arc.new.self.place.level = grind
          (arith, nat_tests, other, under) in
          arc_below s.place.level k w.in-Some.arc (subst (ComesNext k) w.in-Some.is comes).1
          (omega (arith, level, less, same))
      | in_default w ↦ none_below s.place.level k (subst (ComesNext k) (none_from _ w.in_default.not-Some) comes)
    ] in
    level_collected s.place c.args.source _ _ d k c.requires.phase
    (λ j. record ((ap (λ (r : ReduceSweep). r.place) c.close.ensures.rest
    ∙ ap (λ (r : ReduceSweep). r.place) c.next_arc.ensures.rest) j) { phase = Number none_numbered })
    working.left low (c.in_ok-close.ensures.closed told k (c.in_ok-arc.ensures.shown shown k working.holds))

pub returns-then-level-self-clause-keeps : goal.returns-then-level-self-clause-keeps
returns-then-level-self-clause-keeps g c = grind (arith, common_steps)

pub returns-then-level-self-clause-trusts : goal.returns-then-level-self-clause-trusts
returns-then-level-self-clause-trusts g c = λ told lists.
    c.in_ok-collect_arc.ensures.trusts told (c.in_ok-arc.ensures.trusts
    (c.collect_arc.ensures.does.leaves.content.before told) lists)

pub returns-then-level-self-2-clause-trusts : goal.returns-then-level-self-2-clause-trusts
returns-then-level-self-2-clause-trusts g c = λ told lists.
    c.in_ok-pass.ensures.trusts told (c.in_ok-arc.ensures.trusts (c.pass.ensures.does.leaves.content.before told) lists)

pub returns-clause-trusts : goal.returns-clause-trusts
returns-clause-trusts g c = λ told lists.
    c.in_ok-close.ensures.trusts told (c.in_ok-arc.ensures.trusts (c.close.ensures.does.leaves.content.before told)
    lists)
