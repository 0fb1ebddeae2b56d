-- A comparison that is saved, and one that is rebuilt.
use Rattle.std.proofs.Common.{◌≡◌, ◌∙◌, ℕ, ◌+◌, ◌*◌, ◌≤◌, Bool, List, [], ◌∷◌, ◌++◌, length, take, drop, refl, sym}
use Rattle.std.proofs.Common.{ap, subst, arith, append_assoc, length-append}
use Rattle.std.specs.Prelude.{Option}
use Rattle.std.proofs.lemmas.List.{drop_at, take-append-drop}
use Rattle.rec_words.specs.declared.node.Node.{Node}
use Rattle.shelf_model.specs.declared.file_no.FileNo.{FileNo}
use Rattle.shelf_model.specs.File.{File, IsKept}
use Rattle.shelf_model.specs.Folder.{Folder, file_in}
use Rattle.shelf_model.specs.Moments.{Ran, Stays}
use Rattle.shelf_model.specs.World.{World, now, file}
use Rattle.shelf_model.proofs.Runs.{told, ran_end, ran_weakens}
use Rattle.node_file.specs.Canonical.{IsCanonicalFile}
use Rattle.canon_file.specs.Canon.{canon_nodes}
use Rattle.node_file.specs.declared.reader.NodeReader.{NodeReader}
use Rattle.node_file.specs.declared.trailer.Trailer.{Trailer}
use Rattle.node_file.specs.Readers.{file_of, trailer_of, left_of, AreLeft}
use Rattle.node_file.proofs.SkipLaws.{as_many_left}
use Rattle.node_reading.specs.Reading.{bytes_of, IsNodeFault, IsDamagedNode}
use Rattle.node_reading.proofs.NodeReading.{still_reading}
use Rattle.sweep_core.specs.declared.checkpoint.Checkpoint.{Checkpoint}
use Rattle.sweep_core.specs.Saving.{IsReadPart, reads_of}
use Rattle.shelf_model.specs.Calls.{Told, longest}
use Rattle.rec_words.specs.Words.{node_size}
use Rattle.shelf_model.specs.declared.sort_fault.SortFault.{SortFault}
use Rattle.shelf_model.specs.declared.sort_fault.SortFault.TheVariants.{Shelf, Damaged, RunsSpent}
use Rattle.sweep_core.specs.Carries.{IsStill, OnlyCutBehind}
use Rattle.restrict_eval.specs.declared.comparing.Comparing.{Comparing}
use Rattle.restrict_eval.specs.declared.comparing.Comparing.TheVariants.{Level, Ahead, Answered}
use Rattle.restrict_eval.specs.declared.same.SameSweep.{SameSweep}
use Rattle.restrict_eval.specs.declared.saved.SavedSame.{SavedSame}
use Rattle.restrict_eval.specs.Canonical.{IsCanonical, AreLeftBut}
use Rattle.restrict_eval.specs.Same.{Tables, fuel_at, turns_left, AreCompared, RemainsOf, IsInStep, answer_at}
use Rattle.restrict_eval.specs.SameResumes.{GoesOn, GoesOnFrom, AreComparedTo, IsHandFault, at_hand, is_ahead, saved_of}
use Rattle.restrict_eval.proofs.Canonical.{canonical_stays, but_stays}

-- a file that a step may read, where the number of the step and the next part are given otherwise
pub read_as : {s step n next : ℕ} (f : FileNo) → s ≡ step → n ≡ next → IsReadPart step next f → IsReadPart s n f
read_as f step_is next_is read = subst (λ v. v) (λ i. IsReadPart (sym step_is i) (sym next_is i) f) read

-- what is behind the nodes that are left was given
record IsSplit (r : NodeReader) (k : ℕ) (nodes given : List Node) : Type 0 where
  within : k ≤ length nodes
  behind : drop k nodes ≡ given

split_at : (r : NodeReader) (bytes : List ℕ) (nodes given : List Node) → AreLeftBut r bytes nodes given
    → IsSplit r (left_of r + 0) nodes given
split_at r bytes nodes given but =
    let many : length but.rest ≡ left_of r = as_many_left r bytes but.rest but.left in
    let long : length nodes ≡ length but.rest + length given = ap length but.nodes_are ∙ length-append but.rest given in
    record {
      within = omega (arith, many, long);
      behind = ap (drop (left_of r + 0)) but.nodes_are ∙ drop_at but.rest given (left_of r + 0) (omega (arith, many));
    }

split_behind : (r : NodeReader) (bytes : List ℕ) (nodes given : List Node) (x : Node)
    → AreLeftBut r bytes nodes (x ∷ given)
    → IsSplit r (left_of r + 1) nodes given
split_behind r bytes nodes given x but =
    let many : length but.rest ≡ left_of r = as_many_left r bytes but.rest but.left in
    let front = but.rest ++ x ∷ [] in
    let front_long : length front ≡ length but.rest + 1 = length-append but.rest (x ∷ []) in
    let all : nodes ≡ front ++ given = but.nodes_are ∙ sym (append_assoc but.rest (x ∷ []) given) in
    let long : length nodes ≡ length front + length given = ap length all ∙ length-append front given in
    record {
      within = omega (arith, many, long, front_long);
      behind = ap (drop (left_of r + 1)) all ∙ drop_at front given (left_of r + 1) (omega (arith, many, front_long));
    }

-- a reader of a canonical file has no more nodes left than the table has
pub few_left : (n : ℕ) (t : List Bool) (r : NodeReader) (world : World) → IsCanonical n t r world
    → left_of r ≤ length (canon_nodes n t)
few_left n t r world is =
    let within = r.within in
    let count = ap (λ (y : Trailer). y.count) is.trailer_is in
    omega (arith, within, count)

-- what is saved of a comparison of two readers
abbrev saved_as : NodeReader → NodeReader → Comparing → SavedSame
saved_as left right state = record {
  n = (trailer_of left).n;
  left = record { file = file_of left; place = left_of left };
  right = record { file = file_of right; place = left_of right };
  ahead = is_ahead state;
  answer = answer_at state;
}

module _ (left right : NodeReader) (world : World) (d : Tables) (first : IsCanonical d.n d.first left world)
    (second : IsCanonical d.n d.second right world) where
  goes_on_at : (state : Comparing) → AreCompared state d left right world
      → GoesOn (saved_as left right state) (reads_of world) d (fuel_at state (left_of left + left_of right))
  goes_on_at Level at =
      let one = split_at left (bytes_of left world) (canon_nodes d.n d.first) at.0 at.1 in
      let two = split_at right (bytes_of right world) (canon_nodes d.n d.second) at.0 at.2 in
      let none : left_of right + 0 ≡ left_of right = omega arith in
      record {
        variables = ap (λ (y : Trailer). y.n) first.trailer_is;
        first_form = first.form;
        second_form = second.form;
        first_is = first.bytes_are;
        second_is = second.bytes_are;
        first_within = one.within;
        second_within = few_left d.n d.second right world second;
        compared = one.behind ∙ sym two.behind ∙ ap (λ k. drop k (canon_nodes d.n d.second)) none;
        few = omega arith;
      }
  goes_on_at (Ahead x) at =
      let one = split_behind left (bytes_of left world) (canon_nodes d.n d.first) at.0 x at.1 in
      let two = split_at right (bytes_of right world) (canon_nodes d.n d.second) at.0 at.2 in
      let none : left_of right + 0 ≡ left_of right = omega arith in
      record {
        variables = ap (λ (y : Trailer). y.n) first.trailer_is;
        first_form = first.form;
        second_form = second.form;
        first_is = first.bytes_are;
        second_is = second.bytes_are;
        first_within = one.within;
        second_within = few_left d.n d.second right world second;
        compared = one.behind ∙ sym two.behind ∙ ap (λ k. drop k (canon_nodes d.n d.second)) none;
        few = omega arith;
      }
  goes_on_at (Answered b) at =
      let some = few_left d.n d.first left world first in
      record {
        variables = ap (λ (y : Trailer). y.n) first.trailer_is;
        first_form = first.form;
        second_form = second.form;
        first_is = first.bytes_are;
        second_is = second.bytes_are;
        first_within = omega (arith, some);
        second_within = few_left d.n d.second right world second;
        compared = at;
        few = omega arith;
      }

-- what is saved goes on as the comparison does
pub saved_goes_on : (s : SameSweep) (world : World) (d : Tables) → RemainsOf s world d
    → GoesOn (saved_of s) (reads_of world) d (turns_left s)
saved_goes_on s world d remains =
    goes_on_at s.left s.right world d remains.first_is remains.second_is s.state remains.compared

-- with the same bytes in its files it is as it was
compared_stays : (left right : NodeReader) (old new : World) (d : Tables) → bytes_of left new ≡ bytes_of left old
    → bytes_of right new ≡ bytes_of right old → (state : Comparing) → AreCompared state d left right old
    → AreCompared state d left right new
compared_stays left right old new d first second Level at =
    (at.0, but_stays left _ _ _ at.0 first at.1, but_stays right _ _ _ at.0 second at.2)
compared_stays left right old new d first second (Ahead x) at =
    (at.0, but_stays left _ _ _ (x ∷ at.0) first at.1, but_stays right _ _ _ at.0 second at.2)
compared_stays left right old new d first second (Answered b) at = at

pub stays_compared : (s : SameSweep) (old new : World) → file new (file_of s.left) ≡ file old (file_of s.left)
    → file new (file_of s.right) ≡ file old (file_of s.right)
    → IsStill (IsInStep s) (λ w. Unit) (RemainsOf s) (λ w d. turns_left s) old new
stays_compared s old new first second =
    let left : bytes_of s.left new ≡ bytes_of s.left old = ap (λ (f : File). f.bytes) first in
    let right : bytes_of s.right new ≡ bytes_of s.right old = ap (λ (f : File). f.bytes) second in
    record {
      steps = λ step. record {
        left_reads = still_reading s.left s.left old new refl left step.left_reads step.left_reads.reads;
        right_reads = still_reading s.right s.right old new refl right step.right_reads step.right_reads.reads;
      };
      trusted = λ is. is;
      keeps = λ d remains. record {
        first_is = canonical_stays d.n d.first s.left s.left old new refl left remains.first_is;
        second_is = canonical_stays d.n d.second s.right s.right old new refl right remains.second_is;
        compared = compared_stays s.left s.right old new d left right s.state remains.compared;
      };
      fewer = λ d remains. omega arith;
    }

-- of the nodes those that a place was saved of are left
pub left_at : (r : NodeReader) (bytes : List ℕ) (k : ℕ) (nodes : List Node) → AreLeft r bytes (take k nodes)
    → AreLeftBut r bytes nodes (drop k nodes)
left_at r bytes k nodes left = record {
  rest = take k nodes;
  nodes_are = sym (take-append-drop k nodes);
  left = left;
}

-- a comparison that was rebuilt has come as far as the one that was saved
compared_again : (x : SavedSame) (d : Tables) (left right : NodeReader) (world : World) → AreComparedTo x x.answer d
    → AreLeft right (bytes_of right world) (take x.right.place (canon_nodes d.n d.second)) → (state : Comparing)
    → GoesOnFrom x.answer state left (bytes_of left world) (canon_nodes d.n d.first)
    (drop (x.left.place + at_hand x.ahead) (canon_nodes d.n d.first)) → AreCompared state d left right world
compared_again x d left right world compared second Level from =
    let given = drop (x.left.place + at_hand x.ahead) (canon_nodes d.n d.first) in
    let same = subst (λ (o : Option Bool). AreComparedTo x o d) from.0 compared in (
      given,
      from.1,
      subst (AreLeftBut right (bytes_of right world) (canon_nodes d.n d.second)) (sym same)
          (left_at right (bytes_of right world) x.right.place (canon_nodes d.n d.second) second),
    )
compared_again x d left right world compared second (Ahead y) from =
    let given = drop (x.left.place + at_hand x.ahead) (canon_nodes d.n d.first) in
    let same = subst (λ (o : Option Bool). AreComparedTo x o d) from.0 compared in (
      given,
      from.1,
      subst (AreLeftBut right (bytes_of right world) (canon_nodes d.n d.second)) (sym same)
          (left_at right (bytes_of right world) x.right.place (canon_nodes d.n d.second) second),
    )
compared_again x d left right world compared second (Answered b) from =
    subst (λ (o : Option Bool). AreComparedTo x o d) from compared

pub remains_again : (s : SameSweep) (x : SavedSame) (world : World) (r : FileNo → List ℕ) (d : Tables) (turns : ℕ)
    → GoesOn x r d turns → IsCanonical d.n d.first s.left world → IsCanonical d.n d.second s.right world
    → AreLeft s.right (bytes_of s.right world) (take x.right.place (canon_nodes d.n d.second))
    → GoesOnFrom x.answer s.state s.left (bytes_of s.left world) (canon_nodes d.n d.first)
    (drop (x.left.place + at_hand x.ahead) (canon_nodes d.n d.first)) → RemainsOf s world d
remains_again s x world r d turns goes first second left from = record {
  first_is = first;
  second_is = second;
  compared = compared_again x d s.left s.right world goes.compared left s.state from;
}

-- where the files stay, so does each of them
pub file_stays : (old new : World) (f : FileNo) → Ran (Stays (now old)) old new → file new f ≡ file old f
file_stays old new f ran = ap (λ (d : Folder). file_in d f) (ran_end old new (Stays (now old)) ran)

-- the files of a comparison that goes on are canonical
pub first_file : (x : SavedSame) (world : World) (d : Tables) (turns : ℕ) → GoesOn x (reads_of world) d turns
    → IsCanonicalFile x.n d.first x.left.file world
first_file x world d turns goes =
    subst (λ m. IsCanonicalFile m d.first x.left.file world) (sym goes.variables)
    (record { form = goes.first_form; bytes_are = goes.first_is })

pub second_file : (x : SavedSame) (world : World) (d : Tables) (turns : ℕ) → GoesOn x (reads_of world) d turns
    → IsCanonicalFile x.n d.second x.right.file world
second_file x world d turns goes =
    subst (λ m. IsCanonicalFile m d.second x.right.file world) (sym goes.variables)
    (record { form = goes.second_form; bytes_are = goes.second_is })

-- the tables, of as many variables as were saved
abbrev pub tables_at : SavedSame → Tables → Tables
tables_at x d = record { n = x.n; first = d.first; second = d.second }

-- what is known of the two readers that begin again, and of the first one once it has given the node at hand
module _ (x : SavedSame) (d : Tables) (turns : ℕ) (old one two new : World) (goes : GoesOn x (reads_of old) d turns)
    (left after right : NodeReader) (ran : Ran (Stays (now one)) one two) (then : Ran (Stays (now two)) two new)
    (left_is : IsCanonical x.n d.first left one)
    (left_left : AreLeft left (bytes_of left one) (take (x.left.place + at_hand x.ahead) (canon_nodes x.n d.first)))
    (right_is : IsCanonical x.n d.second right two)
    (right_left : AreLeft right (bytes_of right two) (take x.right.place (canon_nodes x.n d.second)))
    (file_is : file_of after ≡ file_of left) (trailer_is : trailer_of after ≡ trailer_of left) (state : Comparing)
    (from : (nodes given : List Node) → AreLeftBut left (bytes_of left two) nodes given
    → GoesOnFrom x.answer state after (bytes_of after new) nodes given) where
  left_then : bytes_of left two ≡ bytes_of left one
  left_then = ap (λ (f : File). f.bytes) (file_stays one two (file_of left) ran)

  after_new : bytes_of after new ≡ bytes_of left one
  after_new = ap (λ f. (file new f).bytes) file_is
      ∙ ap (λ (f : File). f.bytes) (file_stays two new (file_of left) then) ∙ left_then

  right_new : bytes_of right new ≡ bytes_of right two
  right_new = ap (λ (f : File). f.bytes) (file_stays two new (file_of right) then)

  -- so much is left of the comparison as was when it was saved
  pub begins_again : (s : SameSweep) → s.left ≡ after → s.right ≡ right → s.state ≡ state → RemainsOf s new d
  begins_again s left_eq right_eq state_eq =
      let same : tables_at x d ≡ d = λ i. record { n = goes.variables i; first = d.first; second = d.second } in
      let nodes = canon_nodes x.n d.first in
      let place = x.left.place + at_hand x.ahead in
      let given = from nodes (drop place nodes) (left_at left (bytes_of left two) place nodes
      (subst (λ bytes. AreLeft left bytes (take place nodes)) (sym left_then) left_left)) in
      subst (RemainsOf s new) same (
      remains_again s x new (reads_of old) (tables_at x d) turns
      (subst (λ t. GoesOn x (reads_of old) t turns) (sym same) goes)
      (subst (λ r. IsCanonical x.n d.first r new) (sym left_eq)
      (canonical_stays x.n d.first left after one new trailer_is after_new left_is))
      (subst (λ r. IsCanonical x.n d.second r new) (sym right_eq)
      (canonical_stays x.n d.second right right two new refl right_new right_is))
      (subst (λ r. AreLeft r (bytes_of r new) (take x.right.place (canon_nodes x.n d.second))) (sym right_eq)
      (subst (λ bytes. AreLeft right bytes (take x.right.place (canon_nodes x.n d.second))) (sym right_new) right_left))
      (subst (λ c. GoesOnFrom x.answer c s.left (bytes_of s.left new) nodes (drop place nodes)) (sym state_eq)
      (subst (λ r. GoesOnFrom x.answer state r (bytes_of r new) nodes (drop place nodes)) (sym left_eq) given)))

-- no more nodes are left of a file than the longest one has
pub few_nodes : (r : NodeReader) → left_of r * node_size ≤ longest
few_nodes r = let within = r.within in let fits = r.fits in omega (arith, within, fits)

-- what the files give where they stay
pub reads_stay : (old new : World) → Ran (Stays (now old)) old new → reads_of new ≡ reads_of old
reads_stay old new ran = λ i f. (file_in (ran_end old new (Stays (now old)) ran i) f).bytes

-- a fault of the first file's reader is one of the node at hand, or of one nearer the end
pub hand_fault : (x : SavedSame) (r : NodeReader) (world : World) (reads : FileNo → List ℕ) (e : SortFault)
    → file_of r ≡ x.left.file → (trailer_of r).n ≡ x.n → reads_of world ≡ reads → IsNodeFault r world e
    → IsHandFault x reads e
hand_fault x r world reads Shelf file_is n_is same fault = tt
hand_fault x r world reads (Damaged f at) file_is n_is same fault = (
  fault.0 ∙ file_is,
  subst (λ v. v) (λ i. IsDamagedNode (n_is i) (same i (file_is i)) at) fault.1,
)
hand_fault x r world reads RunsSpent file_is n_is same fault = fault

module _ {S : Type 0} (tells : S → Bool) (world : S → World) where
  -- where no file changes, none is cut but behind what a checkpoint rests on
  pub stays_cut : (c : Checkpoint) (rests : FileNo → ℕ → Type 0) (old new : S)
      → Told tells old new (Ran (Stays (now (world old))) (world old) (world new))
      → Told tells old new (Ran (OnlyCutBehind c rests (now (world old))) (world old) (world new))
  stays_cut c rests old new did =
      told tells old new _ _ did (λ _ ran.
      ran_weakens (world old) (world new) (Stays (now (world old))) (OnlyCutBehind c rests (now (world old)))
      (λ m same. record {
        unmade = λ f free. ap (λ (d : Folder). file_in d f) same;
        others = λ f free. ap (λ (d : Folder). file_in d f) same;
        whole = λ f all. ap (λ (d : Folder). file_in d f) same;
        reads = λ f n on. ap (λ (d : Folder). take n (file_in d f).bytes) same;
        kept = λ f n on front long. subst (λ d. IsKept front (file_in d f)) (sym same);
      }) ran)
