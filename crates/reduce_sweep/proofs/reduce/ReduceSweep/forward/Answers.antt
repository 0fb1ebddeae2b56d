use Rattle.std.proofs.Common.{◌≡◌, ◌∙◌, ap, sym, subst, arith, true}
use Rattle.std.proofs.lemmas.Bool.Decides.{nat_tests}
use Rattle.rec_words.specs.Words.{level_of}
use Rattle.reduce_lists.specs.Changes.{ShowsName}
use Rattle.run_tiers.proofs.Slots.{none_from}
use Rattle.reduce_sweep.specs.declared.reduce.ReduceSweep.{ReduceSweep}
use Rattle.reduce_sweep.specs.declared.phase.Phase.TheVariants.{Between}
use Rattle.reduce_sweep.specs.declared.place.Place.{Place}
use Rattle.reduce_sweep.specs.Sweeps.{held_of}
use Rattle.reduce_sweep.specs.Remaining.{IsLeft}
use Rattle.reduce_sweep.proofs.Doing.{refused_second, then_ok}
use Rattle.reduce_sweep.proofs.ForwardingKeeps.{names_done, name_here}
use Rattle.reduce_sweep.proofs.reduce.ReduceSweep.forward.Goals as goal

pub returns-in_err-take_name-clause-does : goal.returns-in_err-take_name-clause-does
returns-in_err-take_name-clause-does g c = refused_second g.S.Shelf.tells g.S.Shelf.world g.S.Shelf.faults 2 2 0 0 51 3
    _ _ _ c.args.self.now c.first_name.new.self c.take_name.new.self c.first_name.result c.take_name.result
    c.from_residual-in_err-take_name.result c.in_err-take_name.field-0.0
    (omega arith) (omega arith) c.requires.fit.sound (ap (λ (r : ReduceSweep). r.ahead.reader)
    c.first_name.ensures.rest) c.in_ok-name.ensures.trusts
    c.first_name.ensures.does c.take_name.ensures.does c.from_residual-in_err-take_name.ensures.1 c.in_err-take_name.was

pub returns-then-level_at-self-clause-does : goal.returns-then-level_at-self-clause-does
returns-then-level_at-self-clause-does g c = then_ok g.S.Shelf.tells g.S.Shelf.world g.S.Shelf.faults 2 2 0 0 51 3 _ _ _
    c.args.self.now c.first_name.new.self c.take_name.new.self c.first_name.result c.take_name.result true
    (omega arith) (omega arith) c.requires.fit.sound (ap (λ (r : ReduceSweep). r.ahead.reader)
    c.first_name.ensures.rest) c.in_ok-name.ensures.trusts
    c.first_name.ensures.does c.take_name.ensures.does

pub returns-in_err-forward_name-clause-does : goal.returns-in_err-forward_name-clause-does
returns-in_err-forward_name-clause-does g c = refused_second g.S.Shelf.tells g.S.Shelf.world g.S.Shelf.faults 2 49 0 3
    51 3 _ _ _ c.args.self.now c.first_name.new.self c.forward_name.new.self c.first_name.result c.forward_name.result
    c.from_residual-in_err-forward_name.result c.in_err-forward_name.field-0.0
    (omega arith) (omega arith) c.requires.fit.sound (ap (λ (r : ReduceSweep). r.ahead.reader)
    c.first_name.ensures.rest) c.in_ok-name.ensures.trusts
    c.first_name.ensures.does c.forward_name.ensures.does c.from_residual-in_err-forward_name.ensures.1
    c.in_err-forward_name.was

pub returns-clause-does : goal.returns-clause-does
returns-clause-does g c = then_ok g.S.Shelf.tells g.S.Shelf.world g.S.Shelf.faults 2 49 0 3 51 3 _ _ _ c.args.self.now
    c.first_name.new.self c.forward_name.new.self c.first_name.result c.forward_name.result true
    (omega arith) (omega arith) c.requires.fit.sound (ap (λ (r : ReduceSweep). r.ahead.reader)
    c.first_name.ensures.rest) c.in_ok-name.ensures.trusts
    c.first_name.ensures.does c.forward_name.ensures.does

-- no name is left
pub returns-in_default-clause-keeps : goal.returns-in_default-clause-keeps
returns-in_default-clause-keeps g c = λ told d working.
    let k = working.contents in
    let shown = subst (ShowsName (held_of c.first_name.new.self) (g.S.Shelf.world c.first_name.new.shelf) k)
    (none_from _ c.in_default.not-Some) (c.in_ok-name.ensures.shown told k working.holds) in
    names_done c.args.self.now.place _ _ d k c.requires.phase
    (λ j. record (c.first_name.ensures.rest j).place { phase = Between }) working.left shown.0 shown.1

-- the first name is of the level
pub returns-then-level_at-self-clause-keeps : goal.returns-then-level_at-self-clause-keeps
returns-then-level_at-self-clause-keeps g c = λ told d working.
    let s = c.args.self.now in
    let k = working.contents in
    let shown = subst (ShowsName (held_of c.first_name.new.self) (g.S.Shelf.world c.first_name.new.shelf) k)
    c.in-Some.is (c.in_ok-name.ensures.shown (c.take_name.ensures.does.leaves.content.before told) k working.holds) in
    let here : level_of c.in-Some.name.source ≡ s.place.level = name_here s.place d k c.in-Some.name shown.0
    c.requires.phase working.left shown.1 in
    let same : c.first_name.new.self.place.level ≡ s.place.level = ap (λ (r : ReduceSweep). r.place.level)
    c.first_name.ensures.rest in
    let level : c.level_at.result ≡ level_of c.in-Some.name.source = c.level_at.ensures.level in
    let other = c.if-level_at-self.true in
    absurd (grind (arith, nat_tests, here, same, level, other))

-- it is forwarded or given up
pub returns-clause-keeps : goal.returns-clause-keeps
returns-clause-keeps g c = λ told d working.
    let s = c.args.self.now in
    let k = working.contents in
    let shown = subst (ShowsName (held_of c.first_name.new.self) (g.S.Shelf.world c.first_name.new.shelf) k)
    c.in-Some.is (c.in_ok-name.ensures.shown (c.forward_name.ensures.does.leaves.content.before told) k
    working.holds) in
    let here : level_of c.in-Some.name.source ≡ s.place.level = name_here s.place d k c.in-Some.name shown.0
    c.requires.phase working.left shown.1 in
    c.in_ok-forward_name.ensures.keeps told d k shown.0 shown.1
    (here ∙ sym (ap (λ (r : ReduceSweep). r.place.level) c.first_name.ensures.rest)) shown.2
    (subst (λ (p : Place). IsLeft p d k) (sym (ap (λ (r : ReduceSweep). r.place) c.first_name.ensures.rest))
    working.left)

pub returns-then-level_at-self-clause-trusts : goal.returns-then-level_at-self-clause-trusts
returns-then-level_at-self-clause-trusts g c = λ told lists.
    c.in_ok-take_name.ensures.trusts told (c.in_ok-name.ensures.trusts
    (c.take_name.ensures.does.leaves.content.before told) lists)

pub returns-clause-trusts : goal.returns-clause-trusts
returns-clause-trusts g c = λ told lists.
    c.in_ok-forward_name.ensures.trusts told (c.in_ok-name.ensures.trusts
    (c.forward_name.ensures.does.leaves.content.before told) lists)
