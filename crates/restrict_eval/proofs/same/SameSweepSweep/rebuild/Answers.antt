use Rattle.std.proofs.Common.{arith, ◌≤◌, ◌+◌, ◌∙◌, length, take, refl, sym, ap, subst, inl, inr}
use Rattle.canon_file.specs.Canon.{canon_nodes}
use Rattle.node_file.specs.Canonical.{IsCanonicalFile}
use Rattle.node_file.specs.Readers.{file_of, left_of, AreLeft}
use Rattle.node_reading.specs.Reading.{bytes_of}
use Rattle.node_reading.proofs.NodeReading.{if_handed, still_reading}
use Rattle.sweep_core.specs.Saving.{reads_of}
use Rattle.node_reading.specs.declared.resuming.Unread.{Unread}
use Rattle.node_reading.specs.Resuming.{IsPlaceFault}
use Rattle.restrict_eval.specs.SameResumes.{GoesOn, RestsOn, turns_of, one_comparison}
use Rattle.node_reading.proofs.Staying.{stays_on}
use Rattle.restrict_eval.specs.declared.saved.SavedSame.{SavedSame}
use Rattle.restrict_eval.proofs.Rereading.{calls_once, calls_twice}
use Rattle.restrict_eval.proofs.SameSaving.{stays_cut, reads_stay, file_stays, first_file, second_file, left_at, hand_fault, begins_again}
use Rattle.restrict_eval.proofs.same.SameSweepSweep.rebuild.Goals as goal

-- the second file can't be read from its place
pub returns-in_err-right-clause-damage : goal.returns-in_err-right-clause-damage
returns-in_err-right-clause-damage g c = if_handed _ c.from_residual-in_err-right.result _
    c.from_residual-in_err-right.ensures.1 (λ told.
    let ran = c.begin_at.ensures.content.did (c.begin_at-2.ensures.content.before told) in
    let x = c.in-Some.saved in
    record {
      saved = x;
      holds = c.in-Some.ensures.found;
      cause = inr (inl (subst (λ r. IsPlaceFault x.n c.args.from.now.step x.right r c.in_err-right.field-0.0)
          (reads_stay _ _ ran) (c.in_err-right.ensures.damage told)));
    })

pub returns-in_err-right-clause-undamaged : goal.returns-in_err-right-clause-undamaged
returns-in_err-right-clause-undamaged g c = if_handed _ c.from_residual-in_err-right.result _
    c.from_residual-in_err-right.ensures.1 (λ told d turns stands.
    let ran = c.begin_at.ensures.content.did (c.begin_at-2.ensures.content.before told) in
    let x = c.in-Some.saved in
    let same = one_comparison c.args.from.now stands.saved x stands.holds c.in-Some.ensures.found in
    let goes = subst (λ y. GoesOn y (reads_of (g.S.Shelf.world c.args.shelf.now)) d turns) same stands.goes_on in
    let then = subst (λ r. GoesOn x r d turns) (sym (reads_stay _ _ ran)) goes in
    c.in_err-right.ensures.undamaged told d.second (second_file x (g.S.Shelf.world c.begin_at.new.shelf) d turns then)
    (subst (λ m. x.right.place ≤ length (canon_nodes m d.second)) (sym goes.variables) goes.second_within))

pub returns-in_err-right-clause-content : goal.returns-in_err-right-clause-content
returns-in_err-right-clause-content g c =
    stays_cut g.S.Shelf.tells g.S.Shelf.world c.args.from.now (RestsOn c.args.from.now) _ _
    (stays_on g.S.Shelf.tells g.S.Shelf.world _ _ _ c.begin_at.ensures.content c.begin_at-2.ensures.content)

-- the first file is read as it was
pub state-requires-clause-reads : goal.state-requires-clause-reads
state-requires-clause-reads g c = λ told.
    let reads = c.in_ok-left.ensures.reads (c.begin_at-2.ensures.content.before told) in
    let r = c.in_ok-left.left in
    still_reading r r (g.S.Shelf.world c.begin_at.new.shelf) (g.S.Shelf.world c.begin_at-2.new.shelf) refl
    (ap (λ f. f.bytes) (file_stays _ _ (file_of r) (c.begin_at-2.ensures.content.did told))) reads reads.reads

-- the node at hand can't be read
pub returns-in_err-state-clause-damage : goal.returns-in_err-state-clause-damage
returns-in_err-state-clause-damage g c = if_handed _ c.from_residual-in_err-state.result _
    c.from_residual-in_err-state.ensures.1 (λ told.
    let two = c.state.ensures.content.before told in
    let one = c.begin_at-2.ensures.content.before two in
    let x = c.in-Some.saved in
    let same = reads_stay _ _ (c.begin_at-2.ensures.content.did two) ∙ reads_stay _ _ (c.begin_at.ensures.content.did one) in
    record {
      saved = x;
      holds = c.in-Some.ensures.found;
      cause = inr (inr (hand_fault x c.in_ok-left.left (g.S.Shelf.world c.begin_at-2.new.shelf)
          (reads_of (g.S.Shelf.world c.args.shelf.now)) c.in_err-state.field-0.0
          (c.in_ok-left.ensures.file ∙ ap (λ (u : Unread). u.file) c.behind_hand.ensures) c.in_ok-left.ensures.variables
          same (c.in_err-state.ensures.damage told)));
    })

pub returns-in_err-state-clause-undamaged : goal.returns-in_err-state-clause-undamaged
returns-in_err-state-clause-undamaged g c = if_handed _ c.from_residual-in_err-state.result _
    c.from_residual-in_err-state.ensures.1 (λ told d turns stands.
    let two = c.state.ensures.content.before told in
    let one = c.begin_at-2.ensures.content.before two in
    let x = c.in-Some.saved in
    let r = c.in_ok-left.left in
    let old = g.S.Shelf.world c.args.shelf.now in
    let same = one_comparison c.args.from.now stands.saved x stands.holds c.in-Some.ensures.found in
    let goes = subst (λ y. GoesOn y (reads_of old) d turns) same stands.goes_on in
    let nodes = canon_nodes x.n d.first in
    let canonical = subst (λ (u : Unread). IsCanonicalFile x.n d.first u.file old) (sym c.behind_hand.ensures)
    (first_file x old d turns goes) in
    let left = c.in_ok-left.ensures.left one d.first canonical in
    let bytes = ap (λ f. f.bytes) (file_stays _ _ (file_of r) (c.begin_at-2.ensures.content.did two)) in
    c.in_err-state.ensures.undamaged told nodes _
    (left_at r (bytes_of r (g.S.Shelf.world c.begin_at-2.new.shelf)) c.behind_hand.result.place nodes
    (subst (λ b. AreLeft r b (take c.behind_hand.result.place nodes)) (sym bytes) left)))

pub returns-in_err-state-clause-content : goal.returns-in_err-state-clause-content
returns-in_err-state-clause-content g c =
    stays_cut g.S.Shelf.tells g.S.Shelf.world c.args.from.now (RestsOn c.args.from.now) _ _
    (stays_on g.S.Shelf.tells g.S.Shelf.world _ _ _
    (stays_on g.S.Shelf.tells g.S.Shelf.world _ _ _ c.begin_at.ensures.content c.begin_at-2.ensures.content)
    c.state.ensures.content)

pub returns-clause-in_step : goal.returns-clause-in_step
returns-clause-in_step g c = λ told.
    let two = c.state.ensures.content.before told in
    let reads = c.in_ok-right.ensures.reads two in
    let r = c.in_ok-right.right in
    record {
      left_reads = c.in_ok-state.ensures.reads told;
      right_reads = still_reading r r (g.S.Shelf.world c.begin_at-2.new.shelf) (g.S.Shelf.world c.state.new.shelf) refl
          (ap (λ f. f.bytes) (file_stays _ _ (file_of r) (c.state.ensures.content.did told))) reads reads.reads;
    }

pub returns-clause-remains : goal.returns-clause-remains
returns-clause-remains g c = λ told d turns stands.
    let two = c.state.ensures.content.before told in
    let one = c.begin_at-2.ensures.content.before two in
    let x = c.in-Some.saved in
    let old = g.S.Shelf.world c.args.shelf.now in
    let mid = g.S.Shelf.world c.begin_at.new.shelf in
    let same = one_comparison c.args.from.now stands.saved x stands.holds c.in-Some.ensures.found in
    let goes = subst (λ y. GoesOn y (reads_of old) d turns) same stands.goes_on in
    let then = subst (λ r. GoesOn x r d turns) (sym (reads_stay _ _ (c.begin_at.ensures.content.did one))) goes in
    let unread = c.behind_hand.ensures in
    let first = subst (λ (u : Unread). IsCanonicalFile x.n d.first u.file old) (sym unread) (first_file x old d turns goes) in
    let second = second_file x mid d turns then in
    let left = subst (λ (u : Unread). AreLeft c.in_ok-left.left (bytes_of c.in_ok-left.left mid)
    (take u.place (canon_nodes x.n d.first))) unread (c.in_ok-left.ensures.left one d.first first) in
    let count = c.in_ok-state.ensures.turns (left_of c.in_ok-right.right) in (
      begins_again x d turns old mid (g.S.Shelf.world c.begin_at-2.new.shelf) (g.S.Shelf.world c.state.new.shelf) goes
          c.in_ok-left.left c.state.new.left c.in_ok-right.right (c.begin_at-2.ensures.content.did two)
          (c.state.ensures.content.did told) (c.in_ok-left.ensures.canonical one d.first first) left
          (c.in_ok-right.ensures.canonical two d.second second) (c.in_ok-right.ensures.left two d.second second)
          c.state.ensures.file c.state.ensures.trailer c.in_ok-state.state (c.in_ok-state.ensures.goes_on told) _ refl refl
          refl,
      subst (λ n. n ≤ turns)
          (sym (count ∙ ap (λ k. turns_of x.answer (x.left.place + k)) c.in_ok-right.ensures.place)) goes.few,
    )

pub returns-clause-content : goal.returns-clause-content
returns-clause-content g c =
    stays_cut g.S.Shelf.tells g.S.Shelf.world c.args.from.now (RestsOn c.args.from.now) _ _
    (stays_on g.S.Shelf.tells g.S.Shelf.world _ _ _
    (stays_on g.S.Shelf.tells g.S.Shelf.world _ _ _ c.begin_at.ensures.content c.begin_at-2.ensures.content)
    c.state.ensures.content)

-- the first file is read again
pub returns-in_err-left-clause-calls : goal.returns-in_err-left-clause-calls
returns-in_err-left-clause-calls g c = λ told task names.
    let x = c.in-Some.saved in
    let same = one_comparison c.args.from.now names.saved x names.holds c.in-Some.ensures.found in
    let first = sym names.first_is ∙ ap (λ (y : SavedSame). y.left.file) same in
    let once = calls_once task.first c.behind_hand.result (reads_of (g.S.Shelf.world c.args.shelf.now)) _ _
    (first ∙ ap (λ (u : Unread). u.file) (sym c.behind_hand.ensures)) (c.begin_at.ensures.calls told) in
    omega (arith, once)

-- and then the second one
pub returns-in_err-right-clause-calls : goal.returns-in_err-right-clause-calls
returns-in_err-right-clause-calls g c = λ told task names.
    let x = c.in-Some.saved in
    let one = c.begin_at-2.ensures.content.before told in
    let same = one_comparison c.args.from.now names.saved x names.holds c.in-Some.ensures.found in
    let first = sym names.first_is ∙ ap (λ (y : SavedSame). y.left.file) same in
    let second = sym names.second_is ∙ ap (λ (y : SavedSame). y.right.file) same in
    let twice = calls_twice task.first task.second c.behind_hand.result x.right _ _ _ _ _
    (first ∙ ap (λ (u : Unread). u.file) (sym c.behind_hand.ensures)) second
    (reads_stay _ _ (c.begin_at.ensures.content.did one)) (c.begin_at.ensures.calls one) (c.begin_at-2.ensures.calls told)
    in
    omega (arith, twice)

-- and the node at hand
pub returns-in_err-state-clause-calls : goal.returns-in_err-state-clause-calls
returns-in_err-state-clause-calls g c = λ told task names.
    let x = c.in-Some.saved in
    let two = c.state.ensures.content.before told in
    let one = c.begin_at-2.ensures.content.before two in
    let same = one_comparison c.args.from.now names.saved x names.holds c.in-Some.ensures.found in
    let first = sym names.first_is ∙ ap (λ (y : SavedSame). y.left.file) same in
    let second = sym names.second_is ∙ ap (λ (y : SavedSame). y.right.file) same in
    let twice = calls_twice task.first task.second c.behind_hand.result x.right _ _ _ _ _
    (first ∙ ap (λ (u : Unread). u.file) (sym c.behind_hand.ensures)) second
    (reads_stay _ _ (c.begin_at.ensures.content.did one)) (c.begin_at.ensures.calls one) (c.begin_at-2.ensures.calls two)
    in
    let more = c.state.ensures.calls told in
    omega (arith, twice, more)

pub returns-clause-calls : goal.returns-clause-calls
returns-clause-calls g c = λ told task names.
    let x = c.in-Some.saved in
    let two = c.state.ensures.content.before told in
    let one = c.begin_at-2.ensures.content.before two in
    let same = one_comparison c.args.from.now names.saved x names.holds c.in-Some.ensures.found in
    let first = sym names.first_is ∙ ap (λ (y : SavedSame). y.left.file) same in
    let second = sym names.second_is ∙ ap (λ (y : SavedSame). y.right.file) same in
    let twice = calls_twice task.first task.second c.behind_hand.result x.right _ _ _ _ _
    (first ∙ ap (λ (u : Unread). u.file) (sym c.behind_hand.ensures)) second
    (reads_stay _ _ (c.begin_at.ensures.content.did one)) (c.begin_at.ensures.calls one) (c.begin_at-2.ensures.calls two)
    in
    let more = c.state.ensures.calls told in
    omega (arith, twice, more)
