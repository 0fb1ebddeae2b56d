use Rattle.std.proofs.Common.{rules, refl, inl, inr, ◌≡◌, ◌+◌, ◌-◌, ◌<◌, ◌≤◌, min, length, take, ap, sym, subst, ◌∙◌, arith}
use Rattle.std.specs.Prelude.{Ok, Err}
use Rattle.std.proofs.lemmas.Result.{err_from_is_err_and}
use Rattle.shelf_model.specs.Calls.{Told}
use Rattle.shelf_model.specs.World.{file}
use Rattle.block_stream.specs.Reads.{Looked}
use Rattle.block_stream.specs.Items.{GivesLast}
use Rattle.node_file.specs.declared.trailer.Trailer.{Trailer}
use Rattle.node_file.specs.Nodes.{IsNodeDamage}
use Rattle.node_file.specs.Readers.{file_of, left_of, waiting_of, Reads, AreLeft}
use Rattle.node_file.proofs.FileLaws.{of_err}
use Rattle.node_file.proofs.SkipLaws.{goes_down, same_bytes, as_many_left, all_left, fewer_left, left_before, no_damage}
use Rattle.node_file.proofs.SkipLoads.{Skipped, skipped_on, skipped_last, none_skipped, all_skipped}
use Rattle.node_file.proofs.reader.NodeReader.skip_to.Goals as goal

pub skip-preserved : goal.skip-preserved
skip-preserved g c =
    let some : 0 < left_of c.skip.self = omega arith in
    let down : left_of c.skip.self ≡ left_of c.next.new.self + 1 = goes_down c.skip.self c.next.new.self c.in_ok-next.field-0 some c.in_ok-next.ensures.place in
    let fewer : left_of c.skip.self ≤ left_of c.args.self.now = c.skip.invariant.fewer in
    let one_more : left_of c.args.self.now - left_of c.skip.self + 1 ≡ left_of c.args.self.now - left_of c.next.new.self = omega arith in
    record {
      file_is = c.in_ok-next.ensures.file ∙ c.skip.invariant.file_is;
      trailer_is = c.in_ok-next.ensures.trailer ∙ c.skip.invariant.trailer_is;
      not_past = omega arith;
      fewer = omega arith;
      begun = inr (omega (arith, down, fewer));
      looked = subst (λ given. Told g.S.Shelf.tells c.args.shelf.now c.next.new.shelf (Skipped given (waiting_of c.next.new.self) (left_of c.next.new.self) (g.S.Shelf.world c.args.shelf.now) (g.S.Shelf.world c.next.new.shelf))) one_more
          (skipped_on g.S.Shelf.tells g.S.Shelf.world _ _ _ _ c.skip.self c.skip.invariant.looked c.in_ok-next.ensures.calls c.in_ok-next.ensures.content c.next.new.self c.in_ok-next.field-0 some c.in_ok-next.ensures.place c.in_ok-next.ensures.waits);
      reads = λ t r.
          let before = c.in_ok-next.ensures.content.before t in
          let same : (file (g.S.Shelf.world c.skip.shelf) (file_of c.skip.self)).bytes ≡ (file (g.S.Shelf.world c.args.shelf.now) (file_of c.args.self.now)).bytes =
          same_bytes _ (file_of c.args.self.now) (file_of c.skip.self) (g.S.Shelf.world c.args.shelf.now) (g.S.Shelf.world c.skip.shelf) (c.skip.invariant.looked.did before).looked c.skip.invariant.file_is in
          subst (Reads c.next.new.self) same (c.in_ok-next.ensures.reads t (subst (Reads c.skip.self) (sym same) (c.skip.invariant.reads before r)));
      nodes = λ t r xs left.
          let before = c.in_ok-next.ensures.content.before t in
          let same : (file (g.S.Shelf.world c.skip.shelf) (file_of c.skip.self)).bytes ≡ (file (g.S.Shelf.world c.args.shelf.now) (file_of c.args.self.now)).bytes =
          same_bytes _ (file_of c.args.self.now) (file_of c.skip.self) (g.S.Shelf.world c.args.shelf.now) (g.S.Shelf.world c.skip.shelf) (c.skip.invariant.looked.did before).looked c.skip.invariant.file_is in
          let bytes = (file (g.S.Shelf.world c.args.shelf.now) (file_of c.args.self.now)).bytes in
          let now_left : AreLeft c.skip.self bytes (take (left_of c.skip.self) xs) = c.skip.invariant.nodes before r xs left in
          fewer_left c.skip.self c.next.new.self bytes xs c.in_ok-next.field-0 some now_left
          (subst (λ b. GivesLast (AreLeft c.next.new.self b) (take (left_of c.skip.self) xs) (Ok c.in_ok-next.field-0)) same
          (c.in_ok-next.ensures.items t (subst (Reads c.skip.self) (sym same) (c.skip.invariant.reads before r)) (take (left_of c.skip.self) xs)
          (subst (λ b. AreLeft c.skip.self b (take (left_of c.skip.self) xs)) (sym same) now_left)));
      faults = search rules;
    }

pub skip-init : goal.skip-init
skip-init g c =
    let s = c.args.shelf.now in
    let left = left_of c.args.self.now in
    let nothing : Told g.S.Shelf.tells s s (Looked 0 (g.S.Shelf.world s) (g.S.Shelf.world s)) = search rules in
    let zero : 0 ≡ left - left = omega arith in
    let so_far : Told g.S.Shelf.tells s s (Skipped (left - left) (waiting_of c.args.self.now) left (g.S.Shelf.world s) (g.S.Shelf.world s)) =
    subst (λ given. Told g.S.Shelf.tells s s (Skipped given (waiting_of c.args.self.now) left (g.S.Shelf.world s) (g.S.Shelf.world s))) zero (none_skipped g.S.Shelf.tells g.S.Shelf.world s (waiting_of c.args.self.now) left nothing) in
    record {
      file_is = search rules;
      trailer_is = search rules;
      not_past = omega arith;
      fewer = omega arith;
      begun = inl refl;
      looked = so_far;
      reads = search rules;
      nodes = λ t r xs left. all_left c.args.self.now _ xs left;
      faults = search rules;
    }

pub returns-in_err-next-clause-content : goal.returns-in_err-next-clause-content
returns-in_err-next-clause-content g c =
    let fewer : left_of c.skip.self ≤ left_of c.args.self.now = c.skip.invariant.fewer in
    let some : 0 < left_of c.skip.self = omega arith in
    let within : left_of c.args.self.now - left_of c.skip.self < left_of c.args.self.now - c.args.place = omega arith in
    skipped_last g.S.Shelf.tells g.S.Shelf.world _ _ _ _ c.skip.self c.skip.invariant.looked c.in_err-next.ensures.calls c.in_err-next.ensures.content _ within some

pub returns-clause-content : goal.returns-clause-content
returns-clause-content g c =
    let not_past : min c.args.place (left_of c.args.self.now) ≤ left_of c.skip.self = c.skip.invariant.not_past in
    all_skipped g.S.Shelf.tells g.S.Shelf.world _ _ _ _ _ _ (omega (arith, not_past)) c.skip.invariant.looked

pub returns-in_err-next-clause-sound : goal.returns-in_err-next-clause-sound
returns-in_err-next-clause-sound g c t r xs left =
    let out = err_from_is_err_and c.from_residual.result c.from_residual.ensures.1 in
    let before = c.in_err-next.ensures.content.before t in
    let same : (file (g.S.Shelf.world c.skip.shelf) (file_of c.skip.self)).bytes ≡ (file (g.S.Shelf.world c.args.shelf.now) (file_of c.args.self.now)).bytes =
    same_bytes _ (file_of c.args.self.now) (file_of c.skip.self) (g.S.Shelf.world c.args.shelf.now) (g.S.Shelf.world c.skip.shelf) (c.skip.invariant.looked.did before).looked c.skip.invariant.file_is in
    of_err _ c.from_residual.result c.in_err-next.field-0.0 (out.1 ∙ ap Err out.2)
    (no_damage (AreLeft c.next.new.self (file (g.S.Shelf.world c.skip.shelf) (file_of c.skip.self)).bytes) (take (left_of c.skip.self) xs) c.in_err-next.field-0.0 (c.in_err-next.ensures.items t (subst (Reads c.skip.self) (sym same) (c.skip.invariant.reads before r)) (take (left_of c.skip.self) xs)
    (subst (λ b. AreLeft c.skip.self b (take (left_of c.skip.self) xs)) (sym same) (c.skip.invariant.nodes before r xs left))))

pub returns-in_err-next-clause-damaged : goal.returns-in_err-next-clause-damaged
returns-in_err-next-clause-damaged g c t r =
    let out = err_from_is_err_and c.from_residual.result c.from_residual.ensures.1 in
    let before = c.in_err-next.ensures.content.before t in
    let same : (file (g.S.Shelf.world c.skip.shelf) (file_of c.skip.self)).bytes ≡ (file (g.S.Shelf.world c.args.shelf.now) (file_of c.args.self.now)).bytes =
    same_bytes _ (file_of c.args.self.now) (file_of c.skip.self) (g.S.Shelf.world c.args.shelf.now) (g.S.Shelf.world c.skip.shelf) (c.skip.invariant.looked.did before).looked c.skip.invariant.file_is in
    let fewer : left_of c.skip.self ≤ left_of c.args.self.now = c.skip.invariant.fewer in
    of_err _ c.from_residual.result c.in_err-next.field-0.0 (out.1 ∙ ap Err out.2) (
      left_of c.skip.self,
      omega arith,
      fewer,
      subst (λ v. v) (λ j. IsNodeDamage (ap (λ (trailer : Trailer). trailer.n) c.skip.invariant.trailer_is j) (left_of c.skip.self) (same j) c.in_err-next.field-0.0)
          (c.in_err-next.ensures.value t (subst (Reads c.skip.self) (sym same) (c.skip.invariant.reads before r))),
    )

pub returns-clause-nodes : goal.returns-clause-nodes
returns-clause-nodes g c t r xs left =
    let many : length xs ≡ left_of c.args.self.now = as_many_left c.args.self.now _ xs left in
    let not_past : min c.args.place (left_of c.args.self.now) ≤ left_of c.skip.self = c.skip.invariant.not_past in
    let fewer : left_of c.skip.self ≤ left_of c.args.self.now = c.skip.invariant.fewer in
    left_before c.skip.self _ c.args.place (left_of c.args.self.now) xs many (omega arith) (c.skip.invariant.nodes t r xs left)
