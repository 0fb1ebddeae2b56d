use Rattle.std.proofs.Common.{◌≡◌, ◌≤◌, ◌<◌, ◌∙◌, ap, subst, refl, arith}
use Rattle.std.specs.Prelude.{Ok}
use Rattle.rec_words.specs.Words.{level_of}
use Rattle.sweep_core.specs.declared.turn.Turn.TheVariants as turn
use Rattle.reduce_lists.specs.Changes.{ComesNext}
use Rattle.reduce_sweep.specs.declared.reduce.ReduceSweep.{ReduceSweep}
use Rattle.reduce_sweep.specs.declared.phase.Phase.TheVariants.{Collect}
use Rattle.reduce_sweep.proofs.Doing.{refused_second, then_ok, does_placed}
use Rattle.reduce_sweep.proofs.CollectingKeeps.{is_shallower, level_opened, at_member}
use Rattle.reduce_sweep.proofs.TurnKeeps.{lists_in}
use Rattle.reduce_sweep.proofs.reduce.ReduceSweep.open_level.Goals as goal
use Rattle.std.proofs.lemmas.Grind.{common_steps}

pub returns-in_err-end_file-clause-does : goal.returns-in_err-end_file-clause-does
returns-in_err-end_file-clause-does g c = refused_second g.S.Shelf.tells g.S.Shelf.world g.S.Shelf.faults 8 3 0 0 16 0 _
    _ _ c.args.self.now c.next_arc.new.self c.end_file.new.self c.next_arc.result c.end_file.result
    c.from_residual-in_err-end_file.result c.in_err-end_file.field-0.0
    (omega arith) (omega arith) c.requires.fit.sound (ap (λ (r : ReduceSweep). r.ahead.reader) c.next_arc.ensures.rest)
    c.in_ok-arc.ensures.trusts
    c.next_arc.ensures.does c.end_file.ensures.does c.from_residual-in_err-end_file.ensures.1 c.in_err-end_file.was

pub returns-in_default-clause-does : goal.returns-in_default-clause-does
returns-in_default-clause-does g c = then_ok g.S.Shelf.tells g.S.Shelf.world g.S.Shelf.faults 8 3 0 0 16 0 _ _ _
    c.args.self.now c.next_arc.new.self c.end_file.new.self c.next_arc.result c.end_file.result turn.Ended
    (omega arith) (omega arith) c.requires.fit.sound (ap (λ (r : ReduceSweep). r.ahead.reader) c.next_arc.ensures.rest)
    c.in_ok-arc.ensures.trusts
    c.next_arc.ensures.does c.end_file.ensures.does

pub returns-in_err-pass-clause-does : goal.returns-in_err-pass-clause-does
returns-in_err-pass-clause-does g c = refused_second g.S.Shelf.tells g.S.Shelf.world g.S.Shelf.faults 8 8 0 0 16 0 _ _ _
    c.args.self.now c.next_arc.new.self c.pass.new.self c.next_arc.result c.pass.result
    c.from_residual-in_err-pass.result c.in_err-pass.field-0.0
    (omega arith) (omega arith) c.requires.fit.sound (ap (λ (r : ReduceSweep). r.ahead.reader) c.next_arc.ensures.rest)
    c.in_ok-arc.ensures.trusts
    c.next_arc.ensures.does c.pass.ensures.does c.from_residual-in_err-pass.ensures.1 c.in_err-pass.was

pub returns-else-level-self-clause-does : goal.returns-else-level-self-clause-does
returns-else-level-self-clause-does g c = then_ok g.S.Shelf.tells g.S.Shelf.world g.S.Shelf.faults 8 8 0 0 16 0 _ _ _
    c.args.self.now c.next_arc.new.self c.pass.new.self c.next_arc.result c.pass.result turn.More
    (omega arith) (omega arith) c.requires.fit.sound (ap (λ (r : ReduceSweep). r.ahead.reader) c.next_arc.ensures.rest)
    c.in_ok-arc.ensures.trusts
    c.next_arc.ensures.does c.pass.ensures.does

pub returns-then-level-self-clause-does : goal.returns-then-level-self-clause-does
returns-then-level-self-clause-does g c = does_placed g.S.Shelf.tells g.S.Shelf.world g.S.Shelf.faults 16 0 _ _
    c.args.self.now c.pass.new.self (Ok turn.More) _ refl refl
    (then_ok g.S.Shelf.tells g.S.Shelf.world g.S.Shelf.faults 8 8 0 0 16 0 _ _ _ c.args.self.now c.next_arc.new.self
    c.pass.new.self c.next_arc.result c.pass.result turn.More
    (omega arith) (omega arith) c.requires.fit.sound (ap (λ (r : ReduceSweep). r.ahead.reader) c.next_arc.ensures.rest)
    c.in_ok-arc.ensures.trusts
    c.next_arc.ensures.does c.pass.ensures.does)

-- the level of the arc opens
pub returns-then-level-self-clause-keeps : goal.returns-then-level-self-clause-keeps
returns-then-level-self-clause-keeps g c = λ told d working.
    let s = c.args.self.now in
    let k = working.contents in
    let shown = c.pass.ensures.does.leaves.content.before told in
    let comes = subst (ComesNext k) c.in-Some.is (c.in_ok-arc.ensures.first shown k working.holds) in
    let held = c.in_ok-arc.ensures.shown shown k working.holds in
    level_opened s.place c.pass.new.self _ _ d k c.in-Some.queued c.in-Some.arc c.requires.phase
    (λ j. record ((ap (λ (r : ReduceSweep). r.place) c.pass.ensures.rest
    ∙ ap (λ (r : ReduceSweep). r.place) c.next_arc.ensures.rest) j)
    { level = c.level_at-level.ensures.level j; phase = Collect (c.of.ensures j) })
    working.left comes.0 comes.1 (c.in_ok-pass.ensures.passed told k c.in-Some.arc comes.0 held)

-- the arc is of a level that isn't done
pub returns-else-level-self-clause-keeps : goal.returns-else-level-self-clause-keeps
returns-else-level-self-clause-keeps g c = λ told d working.
    let s = c.args.self.now in
    let k = working.contents in
    let comes = subst (ComesNext k) c.in-Some.is (c.in_ok-arc.ensures.first
    (c.pass.ensures.does.leaves.content.before told) k working.holds) in
    let below : level_of c.in-Some.arc.source < s.place.level = is_shallower s.place d k c.in-Some.arc c.requires.phase
    working.left (at_member k c.in-Some.queued c.in-Some.arc comes.0) in
    let same : c.pass.new.self.place.level ≡ s.place.level = ap (λ (r : ReduceSweep). r.place.level) c.pass.ensures.rest
    ∙ ap (λ (r : ReduceSweep). r.place.level) c.next_arc.ensures.rest in
    let level : c.level_at-level.result ≡ level_of c.in-Some.arc.source = c.level_at-level.ensures.level in
    let over : c.pass.new.self.place.level ≤ c.level_at-level.result = c.if-level-self.false in
    absurd (omega (arith, below, same, level, over))

pub returns-in_default-clause-keeps : goal.returns-in_default-clause-keeps
returns-in_default-clause-keeps g c = grind (arith, common_steps)

-- the lists are those that are left when the arc was passed over
pub returns-else-level-self-clause-trusts : goal.returns-else-level-self-clause-trusts
returns-else-level-self-clause-trusts g c = λ told lists.
    lists_in c.pass.new.self.place.phase c.pass.new.self _
    (c.in_ok-pass.ensures.trusts told (c.in_ok-arc.ensures.trusts (c.pass.ensures.does.leaves.content.before told)
    lists))
