-- An evaluation that is saved, and one that is rebuilt.
use Rattle.std.proofs.Common.{◌≡◌, ◌∙◌, ℕ, ◌≤◌, Bool, List, length, take, drop, refl, sym, ap, subst, arith}
use Rattle.std.specs.Prelude.{Some}
use Rattle.std.proofs.lemmas.List.{take_at, take-append-drop}
use Rattle.bool_tables.specs.Tables.{value_at, place_of_bits}
use Rattle.bool_tables.specs.Steps.{bits_at}
use Rattle.rec_words.specs.declared.node.Node.{Node}
use Rattle.shelf_model.specs.declared.file_no.FileNo.{FileNo}
use Rattle.shelf_model.specs.File.{File}
use Rattle.shelf_model.specs.World.{World, file}
use Rattle.shelf_model.specs.declared.sort_fault.SortFault.{SortFault}
use Rattle.shelf_model.specs.declared.sort_fault.SortFault.TheVariants.{Shelf, Damaged, RunsSpent}
use Rattle.sweep_core.specs.Sweeps.{IsNoDamage}
use Rattle.canon_file.specs.Canon.{canon_nodes, canon_root}
use Rattle.top_down_laws.specs.Readings.{IsIn}
use Rattle.node_file.specs.Canonical.{IsCanonicalFile}
use Rattle.node_file.specs.declared.reader.NodeReader.{NodeReader}
use Rattle.node_file.specs.declared.trailer.Trailer.{Trailer}
use Rattle.node_file.specs.Readers.{file_of, trailer_of, left_of, given_of, AreLeft}
use Rattle.node_file.proofs.SkipLaws.{as_many_left}
use Rattle.node_reading.specs.Reading.{bytes_of}
use Rattle.node_reading.proofs.NodeReading.{still_reading}
use Rattle.sweep_core.specs.Saving.{reads_of}
use Rattle.sweep_core.specs.Carries.{IsStill}
use Rattle.restrict_eval.specs.declared.following.Following.{Following}
use Rattle.restrict_eval.specs.declared.following.Following.TheVariants.{To, Past, Answered}
use Rattle.restrict_eval.specs.declared.eval.EvalSweep.{EvalSweep}
use Rattle.restrict_eval.specs.declared.saved_eval.SavedEval.{SavedEval}
use Rattle.restrict_eval.specs.Canonical.{IsCanonical, AreLeftBut}
use Rattle.restrict_eval.specs.Eval.{OneTable, IsPlaceAt, IsOn, IsFollowed, bits_of, turns_left, RemainsOf, IsInStep}
use Rattle.restrict_eval.specs.Eval.{HasCome, answer_at}
use Rattle.restrict_eval.specs.SavedEval.{following_at, following_of}
use Rattle.restrict_eval.specs.EvalResumes.{GoesOn, IsPassedFault, IsFollowedAt, turns_of, saved_of, pointer_at}
use Rattle.restrict_eval.specs.EvalResumes.{passed_at}
use Rattle.restrict_eval.proofs.Canonical.{canonical_stays}
use Rattle.restrict_eval.proofs.SameSaving.{few_left}

-- what is saved of a state is that state
pub following_back : (state : Following)
    → following_at (answer_at state) (passed_at state) (pointer_at state) ≡ Some state
following_back (To next) = refl
following_back (Past q) = refl
following_back (Answered b) = refl

-- the nodes that are left are the first ones
left_first : (r : NodeReader) (bytes : List ℕ) (nodes given : List Node) → (but : AreLeftBut r bytes nodes given)
    → but.rest ≡ take (left_of r) nodes
left_first r bytes nodes given but =
    let many : length but.rest ≡ left_of r = as_many_left r bytes but.rest but.left in
    sym (ap (take (left_of r)) but.nodes_are ∙ take_at but.rest given (left_of r) many)

-- what was followed goes on from the place
followed_at : (r : NodeReader) (bytes : List ℕ) (nodes : List Node) (root : ℕ) (bits : List Bool) (value : Bool)
    (state : Following) → IsFollowed state r bytes nodes bits value → IsOn state root (left_of r) (given_of r) bytes
    → IsFollowedAt (Some state) (left_of r) bytes nodes root bits value
followed_at r bytes nodes root bits value (To next) way path = record {
  next = subst (λ xs. IsIn xs next.pointer) (left_first r bytes nodes way.given way.but) way.next;
  walks = way.walks;
  path = path;
}
followed_at r bytes nodes root bits value (Past q) way path = way
followed_at r bytes nodes root bits value (Answered b) way path = way

-- and back
followed_back : (r : NodeReader) (bytes : List ℕ) (nodes : List Node) (root : ℕ) (bits : List Bool) (value : Bool)
    (state : Following) → AreLeft r bytes (take (left_of r) nodes)
    → IsFollowedAt (Some state) (left_of r) bytes nodes root bits value → IsFollowed state r bytes nodes bits value
followed_back r bytes nodes root bits value (To next) left way = record {
  given = drop (left_of r) nodes;
  but = record { rest = take (left_of r) nodes; nodes_are = sym (take-append-drop (left_of r) nodes); left = left };
  next = way.next;
  walks = way.walks;
}
followed_back r bytes nodes root bits value (Past q) left way = way
followed_back r bytes nodes root bits value (Answered b) left way = way

come_back : (r : NodeReader) (bytes : List ℕ) (nodes : List Node) (root : ℕ) (bits : List Bool) (value : Bool)
    (state : Following) → IsFollowedAt (Some state) (left_of r) bytes nodes root bits value
    → IsOn state root (left_of r) (given_of r) bytes
come_back r bytes nodes root bits value (To next) way = way.path
come_back r bytes nodes root bits value (Past q) way = absurd way
come_back r bytes nodes root bits value (Answered b) way = tt

-- what is saved goes on as the evaluation does
pub saved_goes_on : (s : EvalSweep) (world : World) (d : OneTable) → RemainsOf s world d
    → GoesOn (saved_of s) s.text.now (reads_of world) d (turns_left s)
saved_goes_on s world d remains =
    let is = remains.file_is in
    let bytes = bytes_of s.nodes world in
    let nodes = canon_nodes d.n d.table in
    let n_is : (trailer_of s.nodes).n ≡ d.n = ap (λ (t : Trailer). t.n) is.trailer_is in
    let root_is : (trailer_of s.nodes).root ≡ canon_root d.n d.table = ap (λ (t : Trailer). t.root) is.trailer_is in
    let at = followed_at s.nodes bytes nodes (trailer_of s.nodes).root (bits_of s)
    (value_at d.table (place_of_bits (bits_of s))) s.state remains.followed remains.come in
    let moved = subst (λ v. v) (λ i. IsFollowedAt (Some s.state) (left_of s.nodes) bytes nodes (root_is i)
    (bits_at (n_is i) s.text.now s.at) (value_at d.table (place_of_bits (bits_at (n_is i) s.text.now s.at)))) at in
    record {
      variables = n_is;
      form = is.form;
      file_is = is.bytes_are;
      within = few_left d.n d.table s.nodes world is;
      followed = subst (λ o. IsFollowedAt o (left_of s.nodes) bytes nodes (canon_root d.n d.table)
          (bits_at d.n s.text.now s.at) (value_at d.table (place_of_bits (bits_at d.n s.text.now s.at))))
          (sym (following_back s.state)) moved;
      few = subst (λ o. turns_of o (left_of s.nodes) ≤ turns_left s) (sym (following_back s.state)) (omega arith);
    }

-- with the same bytes in its file it is as it was
followed_stays : (r : NodeReader) (old new : List ℕ) (nodes : List Node) (bits : List Bool) (value : Bool)
    (state : Following) → new ≡ old → IsFollowed state r old nodes bits value → IsFollowed state r new nodes bits value
followed_stays r old new nodes bits value state same =
    subst (λ bytes. IsFollowed state r bytes nodes bits value) (sym same)

pub stays_evaluated : (s : EvalSweep) (old new : World) → file new (file_of s.nodes) ≡ file old (file_of s.nodes)
    → IsStill (IsInStep s) (HasCome s) (RemainsOf s) (λ w d. turns_left s) old new
stays_evaluated s old new file_is =
    let same : bytes_of s.nodes new ≡ bytes_of s.nodes old = ap (λ (f : File). f.bytes) file_is in
    let come : HasCome s old → HasCome s new = subst (λ bytes. IsOn s.state (trailer_of s.nodes).root (left_of s.nodes)
    (given_of s.nodes) bytes) (sym same) in
    record {
      steps = λ step. still_reading s.nodes s.nodes old new refl same step step.reads;
      trusted = come;
      keeps = λ d remains. record {
        file_is = canonical_stays d.n d.table s.nodes s.nodes old new refl same remains.file_is;
        followed = followed_stays s.nodes _ _ (canon_nodes d.n d.table) (bits_of s)
            (value_at d.table (place_of_bits (bits_of s))) s.state same remains.followed;
        come = come remains.come;
      };
      fewer = λ d remains. omega arith;
    }

-- the file of an evaluation that goes on is canonical
pub its_file : (x : SavedEval) (text : List ℕ) (world : World) (d : OneTable) (turns : ℕ)
    → GoesOn x text (reads_of world) d turns → IsCanonicalFile x.n d.table x.unread.file world
its_file x text world d turns goes =
    subst (λ m. IsCanonicalFile m d.table x.unread.file world) (sym goes.variables)
    (record { form = goes.form; bytes_are = goes.file_is })

-- the table, of as many variables as were saved
abbrev pub table_at : SavedEval → OneTable → OneTable
table_at x d = record { n = x.n; table = d.table }

-- an evaluation that was rebuilt has come as far as the one that was saved
pub remains_again : (s : EvalSweep) (x : SavedEval) (text : List ℕ) (old new : World) (d : OneTable) (turns : ℕ)
    → GoesOn x text (reads_of old) d turns → following_of x ≡ Some s.state → s.text.now ≡ text → s.at ≡ x.at
    → left_of s.nodes ≡ x.unread.place → (trailer_of s.nodes).n ≡ x.n
    → bytes_of s.nodes new ≡ reads_of old x.unread.file → IsCanonical x.n d.table s.nodes new
    → AreLeft s.nodes (bytes_of s.nodes new) (take x.unread.place (canon_nodes x.n d.table)) → RemainsOf s new d
remains_again s x text old new d turns goes come text_is at_is place n_is bytes is left =
    let same : table_at x d ≡ d = λ i. record { n = goes.variables i; table = d.table } in
    let goes_at = subst (λ t. GoesOn x text (reads_of old) t turns) (sym same) goes in
    let nodes = canon_nodes x.n d.table in
    let root_is : (trailer_of s.nodes).root ≡ canon_root x.n d.table = ap (λ (t : Trailer). t.root) is.trailer_is in
    let to_place = sym place in
    let to_bytes = sym bytes in
    let to_root = sym root_is in
    let to_n = sym n_is in
    let to_text = sym text_is in
    let to_at = sym at_is in
    let at : IsFollowedAt (Some s.state) (left_of s.nodes) (bytes_of s.nodes new) nodes (trailer_of s.nodes).root
    (bits_of s) (value_at d.table (place_of_bits (bits_of s))) =
    subst (λ v. v) (λ i. IsFollowedAt (come i) (to_place i) (to_bytes i) nodes (to_root i)
    (bits_at (to_n i) (to_text i) (to_at i))
    (value_at d.table (place_of_bits (bits_at (to_n i) (to_text i) (to_at i)))))
    goes_at.followed in
    subst (RemainsOf s new) same (record {
      file_is = is;
      followed = followed_back s.nodes (bytes_of s.nodes new) nodes (trailer_of s.nodes).root (bits_of s)
          (value_at d.table (place_of_bits (bits_of s))) s.state
          (subst (λ k. AreLeft s.nodes (bytes_of s.nodes new) (take k nodes)) (sym place) left) at;
      come = come_back s.nodes (bytes_of s.nodes new) nodes (trailer_of s.nodes).root (bits_of s)
          (value_at d.table (place_of_bits (bits_of s))) s.state at;
    })

-- a path that goes on passed no place
place_given : (state : Following) (place count : ℕ) (bytes : List ℕ) (nodes : List Node) (root : ℕ) (bits : List Bool)
    (value : Bool) → IsFollowedAt (Some state) place bytes nodes root bits value → IsPlaceAt state count
place_given (To next) place count bytes nodes root bits value way = tt
place_given (Past q) place count bytes nodes root bits value way = absurd way
place_given (Answered b) place count bytes nodes root bits value way = tt

never_beyond : (step : ℕ) (state : Following) (count : ℕ) (r : FileNo → List ℕ) (e : SortFault) → IsPlaceAt state count
    → IsPassedFault step state count r e → IsNoDamage e
never_beyond step state count r Shelf given fault = tt
never_beyond step state count r (Damaged f at) given fault = absurd (fault.beyond given)
never_beyond step state count r RunsSpent given fault = tt

pub goes_undamaged : (x : SavedEval) (text : List ℕ) (old : FileNo → List ℕ) (d : OneTable) (turns : ℕ)
    → GoesOn x text old d turns → (state : Following) → following_of x ≡ Some state → (step count : ℕ)
    (r : FileNo → List ℕ) (e : SortFault) → IsPassedFault step state count r e → IsNoDamage e
goes_undamaged x text old d turns goes state come step count r e fault =
    never_beyond step state count r e
    (place_given state x.unread.place count (old x.unread.file) (canon_nodes d.n d.table) (canon_root d.n d.table)
    (bits_at d.n text x.at) (value_at d.table (place_of_bits (bits_at d.n text x.at)))
    (subst (λ o. IsFollowedAt o x.unread.place (old x.unread.file) (canon_nodes d.n d.table) (canon_root d.n d.table)
    (bits_at d.n text x.at) (value_at d.table (place_of_bits (bits_at d.n text x.at)))) come goes.followed)) fault
