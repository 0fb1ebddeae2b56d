use Rattle.std.proofs.Common.{true, false, ℕ, ◌<◌, ◌^◌, ◌++◌, ◌∙◌, ap, sym, subst, arith, ◌≡◌}
use Rattle.top_down_laws.specs.Remains.{answer_arcs}
use Rattle.top_down.specs.Asks.{side_arcs}
use Rattle.tuple_asks.specs.Soundness.{identifier, next_numbered, is_keyed, asks_above}
use Rattle.top_down_sweep.specs.Ordered.{ArePut}
use Rattle.top_down_sweep.proofs.Numbers.{last_few}
use Rattle.top_down_sweep.proofs.Orders.{put_of, put_at, put_known, put_new}
use Rattle.top_down_laws.specs.Forms.{least}
use Rattle.tuple_asks.specs.Members.{all_waiting}
use Rattle.tuple_asks.specs.declared.ask.Members.{Members}
use Rattle.top_down.specs.declared.tuple.Goal.{Goal}
use Rattle.std.specs.Prelude.{Bool, Some, None}
use Rattle.top_down_sweep.specs.Changes.{goal_below}
use Rattle.top_down_sweep.specs.Meaning.{Contents, StandsFor}
use Rattle.top_down_sweep.proofs.FormsOf.{is_known, unknown_where}
use Rattle.top_down_sweep.proofs.TurnKeeps.{known_works, new_works}
use Rattle.level_queue.specs.Queues.{last_of}
use Rattle.top_down_sweep.proofs.FuelLaws.{two_more}
use Rattle.node_reading.proofs.NodeReading.{if_handed}
use Rattle.top_down_sweep.proofs.Holding.{first_holds, first_fits, first_forgets, read_level, if_err_map}
use Rattle.std.proofs.lemmas.Result.{on_ok_weaker}
use Rattle.std.proofs.lemmas.Bool.{and_parts}
use Rattle.tuple_asks.specs.Operands.{AreReadTo}
use Rattle.rec_words.specs.Words.{level_of}
use Rattle.tuple_asks.specs.declared.operand.Operands.{Operands}
use Rattle.tuple_asks.specs.declared.place.Place.{Place}
use Rattle.top_down_sweep.specs.Sweeps.{IsAsking}
use Rattle.top_down_sweep.proofs.Doing.{then_more, does_more, does_err, refused_second, on_ok}
use Rattle.top_down_sweep.proofs.Phases.{still_asking}
use Rattle.top_down_sweep.proofs.Rests.{numbered_last, numbered_operands, numbered_queue, queued_operands, queued_phase, queued_place, written_last, written_phase, written_place}
use Rattle.top_down_sweep.proofs.machine.Machine.answer.Goals as goal

-- the ask was taken, and its arc was put
pub returns-in-Some-clause-does : goal.returns-in-Some-clause-does
returns-in-Some-clause-does g c = then_more g.S.Shelf.tells g.S.Shelf.world g.S.Shelf.faults 8 1 0 0
    105 6 _ _ _ c.args.self.now c.take.new.self c.put_inner.new.self c.take.result
    c.put_inner.result
    (omega arith) (omega arith) c.take.ensures.does c.put_inner.ensures.does

-- it was taken, and its tuple got a number
pub returns-in_err-uid-clause-does : goal.returns-in_err-uid-clause-does
returns-in_err-uid-clause-does g c = refused_second g.S.Shelf.tells g.S.Shelf.world g.S.Shelf.faults
    8 1 0 0 105 6 _ _ _ c.args.self.now c.take.new.self c.number.new.self c.take.result
    c.number.result
    c.from_residual-in_err-uid.result c.in_err-uid.field-0.0 (omega arith) (omega arith)
    c.take.ensures.does c.number.ensures.does c.from_residual-in_err-uid.ensures.1
    c.in_err-uid.was

-- and one side was answered or asked for
pub returns-in_err-ask_side-clause-does : goal.returns-in_err-ask_side-clause-does
returns-in_err-ask_side-clause-does g c = refused_second g.S.Shelf.tells g.S.Shelf.world
    g.S.Shelf.faults 9 48 0 3 105 6 _ _ _ c.args.self.now c.number.new.self c.ask_side.new.self
    c.number.result c.ask_side.result
    c.from_residual-in_err-ask_side.result c.in_err-ask_side.field-0.0 (omega arith) (omega arith)
    (then_more g.S.Shelf.tells g.S.Shelf.world g.S.Shelf.faults 8 1 0 0 9 0 _ _ _ c.args.self.now
    c.take.new.self c.number.new.self c.take.result c.number.result (omega arith) (omega arith)
    c.take.ensures.does c.number.ensures.does) c.ask_side.ensures.does
    c.from_residual-in_err-ask_side.ensures.1 c.in_err-ask_side.was

-- and so was the other
pub returns-clause-does : goal.returns-clause-does
returns-clause-does g c = then_more g.S.Shelf.tells g.S.Shelf.world g.S.Shelf.faults 57 48 3 3 105 6
    _ _ _ c.args.self.now c.ask_side.new.self c.ask_side-2.new.self c.ask_side.result
    c.ask_side-2.result
    (omega arith) (omega arith)
    (then_more g.S.Shelf.tells g.S.Shelf.world g.S.Shelf.faults 9 48 0 3 57 3 _ _ _ c.args.self.now
    c.number.new.self c.ask_side.new.self c.number.result c.ask_side.result (omega arith)
    (omega arith)
    (then_more g.S.Shelf.tells g.S.Shelf.world g.S.Shelf.faults 8 1 0 0 9 0 _ _ _ c.args.self.now
    c.take.new.self c.number.new.self c.take.result c.number.result (omega arith) (omega arith)
    c.take.ensures.does c.number.ensures.does) c.ask_side.ensures.does) c.ask_side-2.ensures.does

pub returns-clause-phase : goal.returns-clause-phase
returns-clause-phase g c = on_ok c.ask_side-2.result
    (subst (λ (p : Place). IsAsking p.phase) (sym c.ask_side-2.ensures.place)
    (subst (λ (p : Place). IsAsking p.phase) (sym c.ask_side.ensures.place)
    c.in_ok-uid.ensures.phase))

-- it couldn't be taken
pub returns-in_err-take-clause-does : goal.returns-in_err-take-clause-does
returns-in_err-take-clause-does g c = does_more g.S.Shelf.tells g.S.Shelf.world g.S.Shelf.faults 8
    105 0 6 _ _ c.args.self.now c.take.new.self c.from_residual.result (omega arith) (omega arith)
    (does_err g.S.Shelf.tells g.S.Shelf.world g.S.Shelf.faults 8 0 _ _ c.args.self.now
    c.take.new.self c.from_residual.result c.take.result c.in_err-take.field-0.0
    c.from_residual.ensures.1 c.in_err-take.was c.take.ensures.does)

-- its arc was put, and asks are still answered
pub returns-in-Some-clause-phase : goal.returns-in-Some-clause-phase
returns-in-Some-clause-phase g c = on_ok c.put_inner.result
    (still_asking c.args.self.now c.put_inner.new.self _ c.requires.phase
    (written_place c.take.new.self c.put_inner.new.self
    c.put_inner.ensures.rest ∙ queued_place c.args.self.now c.take.new.self
    c.take.ensures.rest))

-- the ask is the first of those that wait, and the others wait after each call
pub returns-in-Some-clause-holds : goal.returns-in-Some-clause-holds
returns-in-Some-clause-holds g c = on_ok_weaker c.put_inner.result (λ holds told bytes stays knows first.
    holds told bytes (c.in_ok-take.ensures.holds (c.put_inner.ensures.does.leaves.content.before told) bytes
    (first_holds bytes c.args.ask.now c.args.self.now
    (g.S.Shelf.world c.args.shelf.now) first))) c.put_inner.ensures.holds

-- no operand was read past its level
pub returns-clause-holds : goal.returns-clause-holds
returns-clause-holds g c = on_ok_weaker c.ask_side-2.result (λ holds told bytes stays knows first.
    let after_low = c.ask_side-2.ensures.does.leaves.content.before told in
    let after_number = c.ask_side.ensures.does.leaves.content.before after_low in
    let after_take = c.number.ensures.does.leaves.content.before after_number in
    let same : c.number.new.self.operands ≡ c.args.self.now.operands = numbered_operands c.take.new.self c.number.new.self
    c.number.ensures.rest ∙ queued_operands c.args.self.now c.take.new.self
    c.take.ensures.rest in
    let read : AreReadTo (level_of c.in_ok-uid.uid) c.args.self.now.operands =
    read_level c.args.self.now.operands c.args.ask.now (level_of c.in_ok-uid.uid)
    c.in_ok-uid.ensures.level (first_fits bytes c.args.ask.now c.args.self.now
    (g.S.Shelf.world c.args.shelf.now) first) in
    holds told (subst (λ (o : Operands). AreReadTo (level_of c.in_ok-uid.uid) o)
    (sym (c.ask_side.ensures.operands ∙ same)) read) bytes stays knows
    (c.in_ok-ask_side.ensures.holds after_low
    (subst (λ (o : Operands). AreReadTo (level_of c.in_ok-uid.uid) o) (sym same) read) bytes stays knows
    (c.in_ok-uid.ensures.holds after_number bytes
    (c.in_ok-take.ensures.holds after_take bytes
    (first_holds bytes c.args.ask.now c.args.self.now
    (g.S.Shelf.world c.args.shelf.now) first))))) c.ask_side-2.ensures.holds

-- and none of them finds damage
pub returns-in_err-take-clause-undamaged : goal.returns-in_err-take-clause-undamaged
returns-in_err-take-clause-undamaged g c = if_handed _ c.from_residual.result _
    c.from_residual.ensures.1 (λ told bytes first. c.in_err-take.ensures.undamaged told bytes
    (first_holds bytes c.args.ask.now c.args.self.now
    (g.S.Shelf.world c.args.shelf.now) first))

pub returns-in_err-ask_side-clause-undamaged : goal.returns-in_err-ask_side-clause-undamaged
returns-in_err-ask_side-clause-undamaged g c = if_handed _ c.from_residual-in_err-ask_side.result _
    c.from_residual-in_err-ask_side.ensures.1 (λ told bytes first.
    let after_number = c.ask_side.ensures.does.leaves.content.before told in
    let after_take = c.number.ensures.does.leaves.content.before after_number in
    c.in_err-ask_side.ensures.undamaged told bytes (c.in_ok-uid.ensures.holds after_number bytes
    (c.in_ok-take.ensures.holds after_take bytes (first_holds bytes c.args.ask.now c.args.self.now
    (g.S.Shelf.world c.args.shelf.now) first))))

pub returns-clause-undamaged : goal.returns-clause-undamaged
returns-clause-undamaged g c = if_err_map c.ask_side-2.result (λ e none told bytes known_first.
    let first = first_forgets bytes c.args.ask.now c.args.self.now
    (g.S.Shelf.world c.args.shelf.now) known_first in
    let after_low = c.ask_side-2.ensures.does.leaves.content.before told in
    let after_number = c.ask_side.ensures.does.leaves.content.before after_low in
    let after_take = c.number.ensures.does.leaves.content.before after_number in
    let same : c.number.new.self.operands ≡ c.args.self.now.operands = numbered_operands c.take.new.self c.number.new.self
    c.number.ensures.rest ∙ queued_operands c.args.self.now c.take.new.self
    c.take.ensures.rest in
    let read : AreReadTo (level_of c.in_ok-uid.uid) c.args.self.now.operands =
    read_level c.args.self.now.operands c.args.ask.now (level_of c.in_ok-uid.uid)
    c.in_ok-uid.ensures.level (first_fits None c.args.ask.now c.args.self.now
    (g.S.Shelf.world c.args.shelf.now) first) in
    none told None (c.in_ok-ask_side.ensures.holds after_low
    (subst (λ (o : Operands). AreReadTo (level_of c.in_ok-uid.uid) o) (sym same) read) None tt tt
    (c.in_ok-uid.ensures.holds after_number None
    (c.in_ok-take.ensures.holds after_take None
    (first_holds None c.args.ask.now c.args.self.now
    (g.S.Shelf.world c.args.shelf.now) first))))) c.ask_side-2.ensures.undamaged

-- and at most two were put
pub returns-clause-load : goal.returns-clause-load
returns-clause-load g c = two_more c.args.self.now c.take.new.self c.number.new.self
    c.ask_side.new.self c.ask_side-2.new.self c.ask_side-2.result c.in_ok-take.ensures.load
    (numbered_queue c.take.new.self c.number.new.self
    c.number.ensures.rest) c.in_ok-ask_side.ensures.load
    c.ask_side-2.ensures.load

pub returns-clause-last : goal.returns-clause-last
returns-clause-last g c = on_ok c.ask_side-2.result
    (c.ask_side-2.ensures.last ∙ c.ask_side.ensures.last ∙ numbered_last c.take.new.self c.number.new.self
    c.number.ensures.rest ∙ c.in_ok-take.ensures.last)

-- a known number answered it
pub returns-in-Some-clause-keeps : goal.returns-in-Some-clause-keeps
returns-in-Some-clause-keeps g c = on_ok_weaker c.put_inner.result (λ put told t rule none filled resolved h.
    let mid = c.put_inner.ensures.does.leaves.content.before told in
    let taken = c.in_ok-take.ensures.list mid h.contents h.stands in
    let then : Contents = record h.contents { asks = taken.0 } in
    known_works t c.args.asking.now c.args.ask.now c.args.self.now c.put_inner.new.self
    (g.S.Shelf.world c.args.shelf.now) (g.S.Shelf.world c.put_inner.new.shelf) h
    c.in-Some.known taken.0
    (is_known c.args.asking.now.last c.args.ask.now c.in-Some.known (sym c.known.ensures ∙ c.in-Some.is))
    taken.1
    (written_last c.take.new.self c.put_inner.new.self
    c.put_inner.ensures.rest ∙ c.in_ok-take.ensures.last)
    (written_phase c.take.new.self c.put_inner.new.self
    c.put_inner.ensures.rest
    ∙ queued_phase c.args.self.now c.take.new.self
    c.take.ensures.rest ∙ c.requires.phase)
    (put told then taken.2)) c.put_inner.ensures.written

-- its tuple got a number, and its two sides are served
pub returns-clause-keeps : goal.returns-clause-keeps
returns-clause-keeps g c = on_ok_weaker c.ask_side-2.result (λ serves told t rule none filled resolved h.
    let after_low = c.ask_side-2.ensures.does.leaves.content.before told in
    let after_number = c.ask_side.ensures.does.leaves.content.before after_low in
    let after_take = c.number.ensures.does.leaves.content.before after_number in
    let s = c.args.asking.now in
    let a = c.args.ask.now in
    let uid = c.in_ok-uid.uid in
    let taken = c.in_ok-take.ensures.list after_take h.contents h.stands in
    let first : Contents = record h.contents { asks = taken.0 } in
    let numbered = c.in_ok-uid.ensures.written after_number first taken.2 in
    let second : Contents = record first {
      inner = h.contents.inner ++ answer_arcs a.asker (identifier (next_numbered s a));
    } in
    let low = c.in_ok-ask_side.ensures.served after_low second numbered in
    let goal_of : Bool → Goal = λ side. goal_below (g.O.Operation.rule c.args.operation.now) (level_of uid) side c.args.members.now in
    let third : Contents = record second {
      asks = low.0;
      ends = h.contents.ends ++ side_arcs uid false (goal_of false);
    } in
    let high = serves told third low.2 in
    let uid_is = c.in_ok-uid.ensures.number in
    new_works t s a c.args.self.now c.ask_side-2.new.self
    (g.S.Shelf.world c.args.shelf.now) (g.S.Shelf.world c.ask_side-2.new.shelf) h uid goal_of taken.0 low.0 high.0 none
    (λ below. resolved (subst (λ (ms : Members). least (all_waiting (level_of a.key) ms) < 2 ^ 63) (sym filled) below))
    (unknown_where s.last a c.known.result c.known.ensures c.in_default.not-Some) uid_is
    (λ side i. goal_below (sym rule i) (c.in_ok-uid.ensures.level i) side (filled i))
    taken.1 low.1 high.1
    (c.ask_side-2.ensures.last ∙ c.ask_side.ensures.last ∙ numbered_last c.take.new.self c.number.new.self
    c.number.ensures.rest ∙ c.in_ok-take.ensures.last)
    (ap (λ (p : Place). p.phase) c.ask_side-2.ensures.place ∙ ap (λ (p : Place). p.phase) c.ask_side.ensures.place ∙ c.in_ok-uid.ensures.placed)
    (subst (λ (w : ℕ). StandsFor c.ask_side-2.new.self (g.S.Shelf.world c.ask_side-2.new.shelf) (record h.contents {
      asks = high.0;
      inner = h.contents.inner ++ answer_arcs a.asker w;
      ends = (h.contents.ends ++ side_arcs uid false (goal_of false)) ++ side_arcs uid true (goal_of true);
    })) (sym uid_is) high.2)) c.ask_side-2.ensures.served

-- the arcs that were put are still in order where a known number answered it
pub returns-in-Some-clause-ordered : goal.returns-in-Some-clause-ordered
returns-in-Some-clause-ordered g c = on_ok_weaker c.put_inner.result (λ put told ordered.
    let m = c.args.self.now in
    let a = c.args.ask.now in
    let s = c.args.asking.now in
    let mid = c.put_inner.ensures.does.leaves.content.before told in
    let h = put_of m (g.S.Shelf.world c.args.shelf.now) s c.requires.phase ordered in
    put_at c.put_inner.new.self (g.S.Shelf.world c.put_inner.new.shelf) s
    (written_phase c.take.new.self c.put_inner.new.self
    c.put_inner.ensures.rest
    ∙ queued_phase c.args.self.now c.take.new.self
    c.take.ensures.rest ∙ c.requires.phase)
    (record {
      inner = h.inner ++ answer_arcs a.asker c.in-Some.known;
      ends = h.ends;
      held = put told h.inner h.ends (c.in_ok-take.ensures.arcs mid h.inner h.ends h.held);
      put = subst (λ o. ArePut s.last o (h.inner ++ answer_arcs a.asker c.in-Some.known) h.ends)
          (sym (written_last c.take.new.self c.put_inner.new.self
          c.put_inner.ensures.rest ∙ c.in_ok-take.ensures.last))
          (put_known s.last (last_of m.queue) a c.in-Some.known h.inner h.ends
          (last_few m.writer (last_of m.queue) m.place.phase s c.requires.phase c.requires.fit.sound.phase)
          c.requires.shown.value.form.key_is (and_parts (is_keyed a) (asks_above a.asker a.key) c.requires.shown.value.sound).1
          c.requires.shown.no_less
          (is_known s.last a c.in-Some.known (sym c.known.ensures ∙ c.in-Some.is)) h.put);
    })) c.put_inner.ensures.arcs

-- and where its tuple got a number, and its two sides were served
pub returns-clause-ordered : goal.returns-clause-ordered
returns-clause-ordered g c = on_ok_weaker c.ask_side-2.result (λ high told ordered.
    let m = c.args.self.now in
    let a = c.args.ask.now in
    let s = c.args.asking.now in
    let uid = c.in_ok-uid.uid in
    let after_low = c.ask_side-2.ensures.does.leaves.content.before told in
    let after_number = c.ask_side.ensures.does.leaves.content.before after_low in
    let after_take = c.number.ensures.does.leaves.content.before after_number in
    let h = put_of m (g.S.Shelf.world c.args.shelf.now) s c.requires.phase ordered in
    let goal_of : Bool → Goal = λ side. goal_below (g.O.Operation.rule c.args.operation.now) (level_of uid) side c.args.members.now in
    let inner = h.inner ++ answer_arcs a.asker (identifier (next_numbered s a)) in
    let ends = h.ends ++ side_arcs uid false (goal_of false) in
    let last : last_of c.ask_side-2.new.self.queue ≡ Some a = c.ask_side-2.ensures.last ∙ c.ask_side.ensures.last
    ∙ numbered_last c.take.new.self c.number.new.self
    c.number.ensures.rest ∙ c.in_ok-take.ensures.last in
    put_at c.ask_side-2.new.self (g.S.Shelf.world c.ask_side-2.new.shelf)
    (record { root = s.root; last = Some (next_numbered s a) })
    (ap (λ (p : Place). p.phase) c.ask_side-2.ensures.place ∙ ap (λ (p : Place). p.phase) c.ask_side.ensures.place ∙ c.in_ok-uid.ensures.placed)
    (record {
      inner = inner;
      ends = ends ++ side_arcs uid true (goal_of true);
      held = high told inner ends (c.in_ok-ask_side.ensures.arcs after_low inner h.ends
          (c.in_ok-uid.ensures.arcs after_number h.inner h.ends
          (c.in_ok-take.ensures.arcs after_take h.inner h.ends h.held)));
      put = subst (λ o. ArePut (Some (next_numbered s a)) o inner (ends ++ side_arcs uid true (goal_of true)))
          (sym last)
          (put_new s (last_of m.queue) a uid (goal_of false) (goal_of true) h.inner h.ends
          (last_few m.writer (last_of m.queue) m.place.phase s c.requires.phase c.requires.fit.sound.phase)
          c.requires.shown.value.form.key_is (and_parts (is_keyed a) (asks_above a.asker a.key) c.requires.shown.value.sound).1
          c.requires.shown.no_less c.in_ok-uid.ensures.number c.in_ok-uid.ensures.level h.put);
    })) c.ask_side-2.ensures.arcs
