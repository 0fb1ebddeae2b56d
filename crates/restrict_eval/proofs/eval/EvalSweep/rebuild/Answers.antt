use Rattle.std.proofs.Common.{arith, ◌≡◌, ◌≤◌, ◌∙◌, take, refl, sym, ap, subst, inl, inr}
use Rattle.std.specs.Prelude.{Some}
use Rattle.canon_file.specs.Canon.{canon_nodes}
use Rattle.shelf_model.specs.World.{file}
use Rattle.node_file.specs.declared.trailer.Trailer.{Trailer}
use Rattle.node_file.specs.Readers.{file_of, AreLeft}
use Rattle.node_reading.specs.Reading.{bytes_of, count_of}
use Rattle.node_reading.proofs.NodeReading.{if_handed, still_reading}
use Rattle.sweep_core.specs.Saving.{reads_of}
use Rattle.restrict_eval.specs.EvalResumes.{GoesOn, RestsOn, IsPassedFault, turns_of, one_evaluation}
use Rattle.restrict_eval.specs.declared.saved_eval.SavedEval.{SavedEval}
use Rattle.restrict_eval.specs.SavedEval.{following_of}
use Rattle.restrict_eval.proofs.Rereading.{calls_once}
use Rattle.restrict_eval.proofs.Canonical.{canonical_stays}
use Rattle.node_reading.proofs.Staying.{stays_on}
use Rattle.restrict_eval.proofs.SameSaving.{stays_cut, reads_stay, file_stays}
use Rattle.restrict_eval.proofs.EvalSaving.{its_file, remains_again, goes_undamaged}
use Rattle.restrict_eval.proofs.eval.EvalSweep.rebuild.Goals as goal

-- the place that was passed isn't one of the file
pub returns-in_err-passes_some-clause-damage : goal.returns-in_err-passes_some-clause-damage
returns-in_err-passes_some-clause-damage g c = if_handed _ c.from_residual-in_err-passes_some.result _
    c.from_residual-in_err-passes_some.ensures.1 (λ told.
    let one = c.passes_some.ensures.content.before told in
    let x = c.in-Some.saved in
    let r = c.in_ok-nodes.nodes in
    let old = g.S.Shelf.world c.args.shelf.now in
    let mid = g.S.Shelf.world c.begin_at.new.shelf in
    let ran = c.begin_at.ensures.content.did one in
    let bytes = ap (λ f. (file mid f).bytes) c.in_ok-nodes.ensures.file
    ∙ ap (λ f. f.bytes) (file_stays old mid x.unread.file ran) in
    let count = ap (λ (t : Trailer). t.count) c.trailer-count.ensures ∙ (c.in_ok-nodes.ensures.reads one).count
    ∙ ap count_of bytes in
    let reads = reads_stay old mid ran in
    record {
      saved = x;
      holds = c.in-Some.ensures.found;
      state = c.in-Some-following.state;
      come = sym c.following.ensures ∙ c.in-Some-following.is;
      cause = inr (subst (λ v. v) (λ i. IsPassedFault c.args.from.now.step c.in-Some-following.state (count i) (reads i)
          c.in_err-passes_some.field-0.0) (c.in_err-passes_some.ensures.damage told));
    })

pub returns-in_err-passes_some-clause-undamaged : goal.returns-in_err-passes_some-clause-undamaged
returns-in_err-passes_some-clause-undamaged g c = if_handed _ c.from_residual-in_err-passes_some.result _
    c.from_residual-in_err-passes_some.ensures.1 (λ told d turns stands.
    let x = c.in-Some.saved in
    let old = g.S.Shelf.world c.args.shelf.now in
    let same = one_evaluation c.args.from.now stands.saved x stands.holds c.in-Some.ensures.found in
    let goes = subst (λ y. GoesOn y c.args.text.now (reads_of old) d turns) same stands.goes_on in
    goes_undamaged x c.args.text.now (reads_of old) d turns goes c.in-Some-following.state
    (sym c.following.ensures ∙ c.in-Some-following.is) _ _ _ _ (c.in_err-passes_some.ensures.damage told))

pub returns-in_err-passes_some-clause-content : goal.returns-in_err-passes_some-clause-content
returns-in_err-passes_some-clause-content g c =
    stays_cut g.S.Shelf.tells g.S.Shelf.world c.args.from.now (RestsOn c.args.from.now) _ _
    (stays_on g.S.Shelf.tells g.S.Shelf.world _ _ _ c.begin_at.ensures.content c.passes_some.ensures.content)

pub returns-clause-in_step : goal.returns-clause-in_step
returns-clause-in_step g c = λ told.
    let reads = c.in_ok-nodes.ensures.reads (c.passes_some.ensures.content.before told) in
    let r = c.in_ok-nodes.nodes in
    still_reading r r (g.S.Shelf.world c.begin_at.new.shelf) (g.S.Shelf.world c.passes_some.new.shelf) refl
    (ap (λ f. f.bytes) (file_stays _ _ (file_of r) (c.passes_some.ensures.content.did told))) reads reads.reads

pub returns-clause-remains : goal.returns-clause-remains
returns-clause-remains g c = λ told d turns stands.
    let one = c.passes_some.ensures.content.before told in
    let x = c.in-Some.saved in
    let r = c.in_ok-nodes.nodes in
    let old = g.S.Shelf.world c.args.shelf.now in
    let mid = g.S.Shelf.world c.begin_at.new.shelf in
    let new = g.S.Shelf.world c.passes_some.new.shelf in
    let same = one_evaluation c.args.from.now stands.saved x stands.holds c.in-Some.ensures.found in
    let goes = subst (λ y. GoesOn y c.args.text.now (reads_of old) d turns) same stands.goes_on in
    let come : following_of x ≡ Some c.in-Some-following.state = sym c.following.ensures ∙ c.in-Some-following.is in
    let place = sym c.in_ok-nodes.ensures.place in
    let is = its_file x c.args.text.now old d turns goes in
    let stayed = ap (λ f. f.bytes) (file_stays mid new (file_of r) (c.passes_some.ensures.content.did told)) in
    let bytes = ap (λ f. (file new f).bytes) c.in_ok-nodes.ensures.file
    ∙ ap (λ f. f.bytes) (file_stays mid new x.unread.file (c.passes_some.ensures.content.did told))
    ∙ ap (λ f. f.bytes) (file_stays old mid x.unread.file (c.begin_at.ensures.content.did one)) in (
      remains_again _ x c.args.text.now old new d turns goes come refl refl c.in_ok-nodes.ensures.place
          c.in_ok-nodes.ensures.variables bytes
          (canonical_stays x.n d.table r r mid new refl stayed (c.in_ok-nodes.ensures.canonical one d.table is))
          (subst (λ b. AreLeft r b (take x.unread.place (canon_nodes x.n d.table))) (sym stayed)
          (c.in_ok-nodes.ensures.left one d.table is)),
      subst (λ v. v) (λ i. turns_of (come i) (place i) ≤ turns) goes.few,
    )

pub returns-clause-content : goal.returns-clause-content
returns-clause-content g c =
    stays_cut g.S.Shelf.tells g.S.Shelf.world c.args.from.now (RestsOn c.args.from.now) _ _
    (stays_on g.S.Shelf.tells g.S.Shelf.world _ _ _ c.begin_at.ensures.content c.passes_some.ensures.content)

-- the file is read again
pub returns-in_err-nodes-clause-calls : goal.returns-in_err-nodes-clause-calls
returns-in_err-nodes-clause-calls g c = λ told task names.
    let x = c.in-Some.saved in
    let same = one_evaluation c.args.from.now names.saved x names.holds c.in-Some.ensures.found in
    let is = sym names.file_is ∙ ap (λ (y : SavedEval). y.unread.file) same in
    let once = calls_once task.file x.unread (reads_of (g.S.Shelf.world c.args.shelf.now)) _ _ is
    (c.begin_at.ensures.calls told) in
    omega (arith, once)

-- and the gate is asked for its length where the path passed no node of it
pub returns-in_err-passes_some-clause-calls : goal.returns-in_err-passes_some-clause-calls
returns-in_err-passes_some-clause-calls g c = λ told task names.
    let x = c.in-Some.saved in
    let same = one_evaluation c.args.from.now names.saved x names.holds c.in-Some.ensures.found in
    let is = sym names.file_is ∙ ap (λ (y : SavedEval). y.unread.file) same in
    let once = calls_once task.file x.unread (reads_of (g.S.Shelf.world c.args.shelf.now)) _ _ is
    (c.begin_at.ensures.calls (c.passes_some.ensures.content.before told)) in
    let more = c.passes_some.ensures.calls told in
    omega (arith, once, more)

pub returns-clause-calls : goal.returns-clause-calls
returns-clause-calls g c = λ told task names.
    let x = c.in-Some.saved in
    let same = one_evaluation c.args.from.now names.saved x names.holds c.in-Some.ensures.found in
    let is = sym names.file_is ∙ ap (λ (y : SavedEval). y.unread.file) same in
    let once = calls_once task.file x.unread (reads_of (g.S.Shelf.world c.args.shelf.now)) _ _ is
    (c.begin_at.ensures.calls (c.passes_some.ensures.content.before told)) in
    let more = c.passes_some.ensures.calls told in
    omega (arith, once, more)
