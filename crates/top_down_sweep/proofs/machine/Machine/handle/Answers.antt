use Rattle.list_laws.proofs.AnswerLaws.{on_ok_both}
use Rattle.top_down_sweep.proofs.Holding.{if_err_map, first_holds, first_hands, first_knows}
use Rattle.top_down_sweep.proofs.Known.{known_with}
use Rattle.std.specs.Prelude.{None}
use Rattle.top_down_sweep.specs.Trusting.{handling_holds}
use Rattle.top_down_sweep.proofs.TurnKeeps.{again_works, advances_at}
use Rattle.top_down_sweep.proofs.Orders.{put_of, put_at, put_kept, put_later}
use Rattle.level_queue.specs.Queues.{last_of}
use Rattle.top_down_sweep.proofs.WorkingOn.{not_last, always_due}
use Rattle.std.proofs.lemmas.Result.{on_ok_weaker}
use Rattle.tuple_asks.proofs.SoundAsks.{again_sound}
use Rattle.tuple_asks.specs.Soundness.{is_sound}
use Rattle.tuple_asks.specs.declared.ask.Members.{Members}
use Rattle.std.proofs.Common.{◌≡◌, ◌<◌, ◌^◌, subst, sym, ap, ◌∙◌, arith, true}
use Rattle.std.proofs.lemmas.Bool.{and_parts}
use Rattle.rec_words.specs.Words.{IsNodeWord}
use Rattle.top_down_laws.specs.Forms.{least}
use Rattle.tuple_asks.specs.Members.{IsResolved, all_waiting}
use Rattle.top_down_sweep.proofs.Doing.{does_more, no_damage, on_ok}
use Rattle.top_down_sweep.proofs.Phases.{still_asking}
use Rattle.top_down_sweep.proofs.FuelLaws.{falls_known, falls_taken, first_behind, no_more_waits, fewer_waits}
use Rattle.top_down_sweep.specs.declared.machine.Machine.{Machine}
use Rattle.tuple_asks.proofs.MemberLaws.{next_later, all_resolved}
use Rattle.top_down_sweep.proofs.machine.Machine.handle.Goals as goal

-- the ask's node is at hand: what is read next comes later
pub ask_again-requires-clause-later : goal.ask_again-requires-clause-later
ask_again-requires-clause-later g c =
    let s = c.args.self.now in
    let a = c.args.ask.now in
    let node : IsNodeWord a.key = omega (arith, c.level_at.ensures.level, c.level_at.ensures.below)
    in
    subst (λ k. a.key < k) (sym c.in-Some.ensures.1)
    (subst (λ v. v) (λ j. a.key < least (all_waiting (sym c.level_at.ensures.level j)
    (sym c.filled-members.ensures j)))
    (next_later s.place.variables s.operands a c.requires.fit.sound.operands
    (and_parts _ _ c.requires.shown.value.sound).0 node (sym c.want.ensures ∙ c.if-want.false)))

-- and where nothing is, all was read
pub answer-requires-clause-resolved : goal.answer-requires-clause-resolved
answer-requires-clause-resolved g c =
    let s = c.args.self.now in
    let a = c.args.ask.now in
    let node : IsNodeWord a.key = omega (arith, c.level_at.ensures.level, c.level_at.ensures.below)
    in
    subst (IsResolved _) (sym c.filled-members.ensures)
    (all_resolved s.place.variables s.operands a c.requires.fit.sound.operands
    (and_parts _ _ c.requires.shown.value.sound).0 node
    (λ below. c.in-None.ensures (subst (λ v. v)
    (λ j. least (all_waiting (sym c.level_at.ensures.level j) (sym c.filled-members.ensures j))
    < 2 ^ 63) below)))

pub returns-in-Some-clause-does : goal.returns-in-Some-clause-does
returns-in-Some-clause-does g c = does_more g.S.Shelf.tells g.S.Shelf.world g.S.Shelf.faults 56 105
    3 6 _ _ _ _ c.ask_again.result (omega arith) (omega arith) c.ask_again.ensures.does

-- the last ask was taken once more
pub returns-then-took_last-clause-falls : goal.returns-then-took_last-clause-falls
returns-then-took_last-clause-falls g c = falls_known c.args.self.now c.take.new.self c.args.ask.now
    c.take.result (c.took_last.ensures.yes c.if-took_last.true)
    (ap (λ (m : Machine). m.operands) c.take.ensures.rest) c.take.ensures.load c.take.ensures.last

-- one that may not come then was taken
pub returns-then-not-is_due-clause-falls : goal.returns-then-not-is_due-clause-falls
returns-then-not-is_due-clause-falls g c = falls_taken c.args.self.now c.take-then-not-is_due.new.self
    c.args.ask.now c.take-then-not-is_due.result
    (first_behind c.args.self.now c.args.ask.now c.requires.fit.sound.served c.requires.shown
    (c.took_last.ensures.no c.if-took_last.false))
    (ap (λ (m : Machine). m.operands) c.take-then-not-is_due.ensures.rest)
    (fewer_waits c.args.self.now c.take-then-not-is_due.new.self c.take-then-not-is_due.result
    c.take-then-not-is_due.ensures.load)
    c.take-then-not-is_due.ensures.last

pub returns-in-Some-clause-phase : goal.returns-in-Some-clause-phase
returns-in-Some-clause-phase g c = on_ok c.ask_again.result
    (still_asking c.args.self.now c.ask_again.new.self _ c.requires.phase
    (ap (λ (m : Machine). m.place) c.ask_again.ensures.rest))

-- it was taken, and another one was put
pub returns-in-Some-clause-falls : goal.returns-in-Some-clause-falls
returns-in-Some-clause-falls g c = falls_taken c.args.self.now c.ask_again.new.self c.args.ask.now
    c.ask_again.result
    (first_behind c.args.self.now c.args.ask.now c.requires.fit.sound.served c.requires.shown
    (c.took_last.ensures.no c.if-took_last.false))
    (ap (λ (m : Machine). m.operands) c.ask_again.ensures.rest)
    (no_more_waits c.args.self.now c.ask_again.new.self c.ask_again.result
    c.ask_again.ensures.load) c.ask_again.ensures.last

-- it was taken, and at most two were put
pub returns-in-None-clause-falls : goal.returns-in-None-clause-falls
returns-in-None-clause-falls g c = falls_taken c.args.self.now c.answer.new.self c.args.ask.now
    c.answer.result
    (first_behind c.args.self.now c.args.ask.now c.requires.fit.sound.served c.requires.shown
    (c.took_last.ensures.no c.if-took_last.false))
    c.answer.ensures.operands c.answer.ensures.load c.answer.ensures.last

-- the ask is the first of those that wait
pub returns-then-took_last-clause-holds : goal.returns-then-took_last-clause-holds
returns-then-took_last-clause-holds g c = on_ok_weaker c.take.result (λ holds told bytes stays of first.
    holds told bytes (first_holds bytes c.args.ask.now c.args.self.now _ first)) c.take.ensures.holds

pub returns-then-not-is_due-clause-holds : goal.returns-then-not-is_due-clause-holds
returns-then-not-is_due-clause-holds g c = on_ok_weaker c.take-then-not-is_due.result (λ holds told bytes stays of first.
    holds told bytes (first_holds bytes c.args.ask.now c.args.self.now _ first)) c.take-then-not-is_due.ensures.holds

pub returns-then-want-clause-holds : goal.returns-then-want-clause-holds
returns-then-want-clause-holds g c = on_ok_weaker c.read_wanted.result (λ holds told bytes stays of first.
    holds told bytes of first) c.read_wanted.ensures.holds

-- with the pointers of the nodes at hand it names what the files know
pub returns-in-Some-clause-holds : goal.returns-in-Some-clause-holds
returns-in-Some-clause-holds g c = on_ok_weaker c.ask_again.result (λ holds told bytes stays of first.
    holds told bytes (known_with c.args.self.now c.args.ask.now c.filled-members.result bytes c.filled-members.ensures
    (first_hands bytes _ _ _ first) (first_knows bytes _ _ _ first)) first) c.ask_again.ensures.holds

pub returns-in-None-clause-holds : goal.returns-in-None-clause-holds
returns-in-None-clause-holds g c = on_ok_weaker c.answer.result (λ holds told bytes stays of first.
    holds told bytes stays (known_with c.args.self.now c.args.ask.now c.filled-members.result bytes
    c.filled-members.ensures (first_hands bytes _ _ _ first) (first_knows bytes _ _ _ first)) first)
    c.answer.ensures.holds

-- damage is that of an operand where the next node is read, and else there is none
pub returns-then-want-clause-damage : goal.returns-then-want-clause-damage
returns-then-want-clause-damage g c = if_err_map c.read_wanted.result (λ e damage told first. damage told
    (g.O.Operation.rule c.args.operation.now)
    (g.O.Operation.begins c.args.operation.now) first) c.read_wanted.ensures.damage

pub returns-then-took_last-clause-damage : goal.returns-then-took_last-clause-damage
returns-then-took_last-clause-damage g c = if_err_map c.take.result (λ e none told first. no_damage _ _ _ _ e
    (none told None (first_holds None c.args.ask.now c.args.self.now _ first.some))) c.take.ensures.undamaged

pub returns-then-not-is_due-clause-damage : goal.returns-then-not-is_due-clause-damage
returns-then-not-is_due-clause-damage g c = if_err_map c.take-then-not-is_due.result
    (λ e none told first. no_damage _ _ _ _ e (none told None
    (first_holds None c.args.ask.now c.args.self.now _ first.some))) c.take-then-not-is_due.ensures.undamaged

pub returns-in-Some-clause-damage : goal.returns-in-Some-clause-damage
returns-in-Some-clause-damage g c = if_err_map c.ask_again.result
    (λ e none told first. no_damage _ _ _ _ e (none told None first.some)) c.ask_again.ensures.undamaged

pub returns-in-None-clause-damage : goal.returns-in-None-clause-damage
returns-in-None-clause-damage g c = if_err_map c.answer.result
    (λ e none told first. no_damage _ _ _ _ e (none told None first.some)) c.answer.ensures.undamaged

pub read_wanted-requires-clause-wanted : goal.read_wanted-requires-clause-wanted
read_wanted-requires-clause-wanted g c = sym c.want.ensures ∙ c.if-want.true

-- with the members that were read it is sound
pub ask_again-requires-clause-sound : goal.ask_again-requires-clause-sound
ask_again-requires-clause-sound g c =
    let s = c.args.self.now in
    let a = c.args.ask.now in
    let node : IsNodeWord a.key = omega (arith, c.level_at.ensures.level, c.level_at.ensures.below)
    in
    subst (λ (m : Members). is_sound
    (record { key = c.in-Some.key; members = m; asker = a.asker }) ≡ true)
    (sym c.filled-members.ensures)
    (again_sound s.place.variables s.operands a c.in-Some.key c.requires.fit.sound.operands
    (and_parts _ _ c.requires.shown.value.sound).0 node
    (c.in-Some.ensures.1 ∙ (λ j. least (all_waiting (c.level_at.ensures.level j)
    (c.filled-members.ensures j)))) (subst (λ k. k < 2 ^ 63) (sym c.in-Some.ensures.1)
    c.in-Some.ensures.0) c.requires.shown.value.sound)

-- the next tuple may be asked for
pub answer-requires-clause-due : goal.answer-requires-clause-due
answer-requires-clause-due g c = sym c.is_due.ensures ∙ c.if-not-is_due.false

-- what remains of a task: the ask isn't the one that was taken last
pub returns-then-took_last-clause-keeps : goal.returns-then-took_last-clause-keeps
returns-then-took_last-clause-keeps g c = on_ok c.take.result (λ told t rule h. absurd (not_last t
    c.args.asking.now c.args.self.now c.args.ask.now _ h.contents h.rest h.first_is h.stands h.left
    (c.took_last.ensures.yes c.if-took_last.true)))

-- and it may come then
pub returns-then-not-is_due-clause-keeps : goal.returns-then-not-is_due-clause-keeps
returns-then-not-is_due-clause-keeps g c = on_ok c.take-then-not-is_due.result (λ told t rule h. absurd (always_due t
    c.args.asking.now c.args.self.now c.args.ask.now _ h.contents h.rest h.first_is h.stands h.left
    (sym c.is_due.ensures ∙ c.if-not-is_due.true)))

pub returns-then-want-clause-keeps : goal.returns-then-want-clause-keeps
returns-then-want-clause-keeps g c = on_ok_weaker c.read_wanted.result (λ keeps told t rule h.
    advances_at t c.args.asking.now c.args.self.now c.read_wanted.new.self _ _
    (ap (λ (m : Machine). m.place.phase) c.read_wanted.ensures.rest ∙ c.requires.phase)
    (keeps told t c.args.asking.now h)) c.read_wanted.ensures.keeps

pub returns-in-Some-clause-keeps : goal.returns-in-Some-clause-keeps
returns-in-Some-clause-keeps g c = on_ok_both c.ask_again.result (λ last asks told t rule h.
    again_works t c.args.asking.now c.args.ask.now c.args.self.now c.ask_again.new.self _ _ h
    c.in-Some.key c.filled-members.result (sym c.want.ensures ∙ c.if-want.false)
    c.filled-members.ensures (c.in-Some.ensures.1
    ∙ ap (λ l. least (all_waiting l c.filled-members.result)) c.level_at.ensures.level)
    (subst (λ k. k < 2 ^ 63) (sym c.in-Some.ensures.1) c.in-Some.ensures.0) last
    (ap (λ (m : Machine). m.place.phase) c.ask_again.ensures.rest ∙ c.requires.phase)
    (asks told h.contents h.stands)) c.ask_again.ensures.last c.ask_again.ensures.list

pub returns-in-None-clause-keeps : goal.returns-in-None-clause-keeps
returns-in-None-clause-keeps g c = on_ok_weaker c.answer.result (λ keeps told t rule h.
    keeps told t rule (sym c.want.ensures ∙ c.if-want.false) c.filled-members.ensures
    (λ below. c.in-None.ensures (subst (λ l. least (all_waiting l c.filled-members.result) < 2 ^ 63) (sym c.level_at.ensures.level) below))
    h) c.answer.ensures.keeps

-- the arcs that were put are still in order
pub returns-then-took_last-clause-ordered : goal.returns-then-took_last-clause-ordered
returns-then-took_last-clause-ordered g c = on_ok_both c.take.result (λ last keeps told ordered.
    let m = c.args.self.now in
    let s = c.args.asking.now in
    let old = g.S.Shelf.world c.args.shelf.now in
    let new = g.S.Shelf.world c.take.new.shelf in
    put_at c.take.new.self new s (ap (λ (m : Machine). m.place.phase) c.take.ensures.rest ∙ c.requires.phase)
    (put_later s m c.take.new.self old new c.args.ask.now c.requires.shown.no_less last
    (keeps told) (put_of m old s c.requires.phase ordered))) c.take.ensures.last c.take.ensures.arcs

pub returns-then-not-is_due-clause-ordered : goal.returns-then-not-is_due-clause-ordered
returns-then-not-is_due-clause-ordered g c = on_ok_both c.take-then-not-is_due.result (λ last keeps told ordered.
    let m = c.args.self.now in
    let s = c.args.asking.now in
    let old = g.S.Shelf.world c.args.shelf.now in
    let new = g.S.Shelf.world c.take-then-not-is_due.new.shelf in
    put_at c.take-then-not-is_due.new.self new s
    (ap (λ (m : Machine). m.place.phase) c.take-then-not-is_due.ensures.rest ∙ c.requires.phase)
    (put_later s m c.take-then-not-is_due.new.self old new c.args.ask.now c.requires.shown.no_less last
    (keeps told) (put_of m old s c.requires.phase ordered))) c.take-then-not-is_due.ensures.last
    c.take-then-not-is_due.ensures.arcs

pub returns-then-want-clause-ordered : goal.returns-then-want-clause-ordered
returns-then-want-clause-ordered g c = on_ok_weaker c.read_wanted.result (λ keeps told ordered.
    let m = c.args.self.now in
    let s = c.args.asking.now in
    let old = g.S.Shelf.world c.args.shelf.now in
    let new = g.S.Shelf.world c.read_wanted.new.shelf in
    put_at c.read_wanted.new.self new s
    (ap (λ (m : Machine). m.place.phase) c.read_wanted.ensures.rest ∙ c.requires.phase)
    (put_kept s m c.read_wanted.new.self old new
    (ap (λ (m : Machine). last_of m.queue) c.read_wanted.ensures.rest) (keeps told)
    (put_of m old s c.requires.phase ordered))) c.read_wanted.ensures.arcs

pub returns-in-Some-clause-ordered : goal.returns-in-Some-clause-ordered
returns-in-Some-clause-ordered g c = on_ok_both c.ask_again.result (λ last keeps told ordered.
    let m = c.args.self.now in
    let s = c.args.asking.now in
    let old = g.S.Shelf.world c.args.shelf.now in
    let new = g.S.Shelf.world c.ask_again.new.shelf in
    put_at c.ask_again.new.self new s
    (ap (λ (m : Machine). m.place.phase) c.ask_again.ensures.rest ∙ c.requires.phase)
    (put_later s m c.ask_again.new.self old new c.args.ask.now c.requires.shown.no_less last
    (keeps told) (put_of m old s c.requires.phase ordered))) c.ask_again.ensures.last
    c.ask_again.ensures.arcs

-- where something of a task remains no damage is found
pub returns-then-took_last-clause-undamaged : goal.returns-then-took_last-clause-undamaged
returns-then-took_last-clause-undamaged g c = if_err_map c.take.result (λ e none told t h. none told None
    (first_holds None c.args.ask.now c.args.self.now _
    (handling_holds t c.args.asking.now c.args.ask.now c.args.self.now _ h))) c.take.ensures.undamaged

pub returns-then-not-is_due-clause-undamaged : goal.returns-then-not-is_due-clause-undamaged
returns-then-not-is_due-clause-undamaged g c = if_err_map c.take-then-not-is_due.result
    (λ e none told t h. none told None (first_holds None c.args.ask.now c.args.self.now _
    (handling_holds t c.args.asking.now c.args.ask.now c.args.self.now _ h)))
    c.take-then-not-is_due.ensures.undamaged

pub returns-then-want-clause-undamaged : goal.returns-then-want-clause-undamaged
returns-then-want-clause-undamaged g c = if_err_map c.read_wanted.result
    (λ e none told t h. none told t c.args.asking.now h) c.read_wanted.ensures.undamaged

pub returns-in-Some-clause-undamaged : goal.returns-in-Some-clause-undamaged
returns-in-Some-clause-undamaged g c = if_err_map c.ask_again.result (λ e none told t h. none told None
    (handling_holds t c.args.asking.now c.args.ask.now c.args.self.now _ h)) c.ask_again.ensures.undamaged

pub returns-in-None-clause-undamaged : goal.returns-in-None-clause-undamaged
returns-in-None-clause-undamaged g c = if_err_map c.answer.result (λ e none told t h. none told None
    (handling_holds t c.args.asking.now c.args.ask.now c.args.self.now _ h)) c.answer.ensures.undamaged
