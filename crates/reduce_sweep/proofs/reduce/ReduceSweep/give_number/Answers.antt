use Rattle.std.proofs.Common.{◌≡◌, ◌∙◌, ap, subst, arith, true}
use Rattle.std.proofs.lemmas.Bool.Decides.{nat_tests}
use Rattle.rec_words.specs.Words.{level_of}
use Rattle.block_stream.specs.Writes.{count_of}
use Rattle.node_file.specs.Writers.{filling_of}
use Rattle.reduce_lists.specs.Changes.{GivesRow}
use Rattle.run_tiers.proofs.Slots.{none_from}
use Rattle.reduce_sweep.specs.declared.reduce.ReduceSweep.{ReduceSweep}
use Rattle.reduce_sweep.specs.declared.phase.Phase.TheVariants.{Forward}
use Rattle.reduce_sweep.specs.Sweeps.{held_of}
use Rattle.reduce_sweep.specs.Changes.{NumbersRow}
use Rattle.reduce_sweep.proofs.Doing.{refused_second, then_ok}
use Rattle.reduce_sweep.proofs.NumberingKeeps.{rows_numbered, row_numbered_on, row_here, phase_numbered}
use Rattle.reduce_sweep.proofs.reduce.ReduceSweep.give_number.Goals as goal

pub returns-in_err-number_row-clause-does : goal.returns-in_err-number_row-clause-does
returns-in_err-number_row-clause-does g c = refused_second g.S.Shelf.tells g.S.Shelf.world g.S.Shelf.faults 2 17 0 1 19
    1 _ _ _ c.args.self.now c.next_row.new.self c.number_row.new.self c.next_row.result c.number_row.result
    c.from_residual-in_err-number_row.result c.in_err-number_row.field-0.0
    (omega arith) (omega arith) c.requires.fit.sound (ap (λ (r : ReduceSweep). r.ahead.reader) c.next_row.ensures.rest)
    c.in_ok-row.ensures.trusts
    c.next_row.ensures.does c.number_row.ensures.does c.from_residual-in_err-number_row.ensures.1
    c.in_err-number_row.was

pub returns-clause-does : goal.returns-clause-does
returns-clause-does g c = then_ok g.S.Shelf.tells g.S.Shelf.world g.S.Shelf.faults 2 17 0 1 19 1 _ _ _ c.args.self.now
    c.next_row.new.self c.number_row.new.self c.next_row.result c.number_row.result true
    (omega arith) (omega arith) c.requires.fit.sound (ap (λ (r : ReduceSweep). r.ahead.reader) c.next_row.ensures.rest)
    c.in_ok-row.ensures.trusts
    c.next_row.ensures.does c.number_row.ensures.does

-- no row is left
pub returns-in_default-clause-keeps : goal.returns-in_default-clause-keeps
returns-in_default-clause-keeps g c = λ told d working.
    let k = working.contents in
    let given = subst (GivesRow (held_of c.next_row.new.self) (g.S.Shelf.world c.next_row.new.shelf) k)
    (none_from _ c.in_default.not-Some) (c.in_ok-row.ensures.given told k working.holds) in
    rows_numbered c.args.self.now.place c.args.numbered _ _ d k c.requires.phase
    (λ j. record (c.next_row.ensures.rest j).place { phase = Forward }) working.left given.0 given.1

-- the first row is of the level
pub returns-then-level_at-self-clause-keeps : goal.returns-then-level_at-self-clause-keeps
returns-then-level_at-self-clause-keeps g c = λ told d working.
    let s = c.args.self.now in
    let k = working.contents in
    let given = subst (GivesRow (held_of c.next_row.new.self) (g.S.Shelf.world c.next_row.new.shelf) k) c.in-Some.is
    (c.in_ok-row.ensures.given told k working.holds) in
    let here : level_of c.in-Some.row.source ≡ s.place.level = row_here s.place c.args.numbered d k c.in-Some.row
    given.0 c.requires.phase working.left given.1 in
    let same : c.next_row.new.self.place.level ≡ s.place.level = ap (λ (r : ReduceSweep). r.place.level)
    c.next_row.ensures.rest in
    let level : c.level_at.result ≡ level_of c.in-Some.row.source = c.level_at.ensures.level in
    let other = c.if-level_at-self.true in
    absurd (grind (arith, nat_tests, here, same, level, other))

-- it is numbered, and its source is named
pub returns-clause-keeps : goal.returns-clause-keeps
returns-clause-keeps g c = λ told d working.
    let s = c.args.self.now in
    let k = working.contents in
    let given = subst (GivesRow (held_of c.next_row.new.self) (g.S.Shelf.world c.next_row.new.shelf) k) c.in-Some.is
    (c.in_ok-row.ensures.given (c.number_row.ensures.does.leaves.content.before told) k working.holds) in
    row_numbered_on s.place c.args.numbered c.number_row.new.self _ d k c.in-Some.row given.0 c.requires.phase
    (ap (λ (r : ReduceSweep). r.place) c.number_row.ensures.rest
    ∙ (λ j. record (c.next_row.ensures.rest j).place { phase = c.in_ok-number_row.ensures.phase j }))
    (phase_numbered s.place.level (count_of (filling_of s.writer)) s.place.phase c.args.numbered c.requires.phase
    c.requires.fit.sound.phase).some working.left given.1
    (subst (λ i. NumbersRow i c.args.numbered c.number_row.new.self (g.S.Shelf.world c.number_row.new.shelf)
    (record k { rows = given.0 }) c.in-Some.row) (ap (λ (r : ReduceSweep). r.place.level) c.next_row.ensures.rest)
    (c.in_ok-number_row.ensures.named told (record k { rows = given.0 }) given.2))

pub returns-clause-trusts : goal.returns-clause-trusts
returns-clause-trusts g c = λ told lists.
    c.in_ok-number_row.ensures.trusts told (c.in_ok-row.ensures.trusts
    (c.number_row.ensures.does.leaves.content.before told) lists)
