-- The rules of the checkpoints of evaluations, what these rest on, and what they stand for.
use Rattle.std.specs.Prelude.{◌≡◌, ◌≢◌, ◌⊎◌, ℕ, ◌+◌, ◌*◌, ◌/◌, ◌≤◌, Bool, List, length, take, Option, Some, None}
use Rattle.std.specs.Prelude.{IsSome}
use Rattle.std.proofs.Common.{refl, sym, ap, subst, ◌∙◌}
use Rattle.bool_tables.specs.Tables.{value_at, place_of_bits}
use Rattle.bool_tables.specs.Steps.{bits_at}
use Rattle.rec_words.specs.Words.{node_size, terminal}
use Rattle.rec_words.specs.declared.node.Node.{Node}
use Rattle.shelf_model.specs.declared.file_no.FileNo.{FileNo}
use Rattle.shelf_model.specs.declared.sort_fault.SortFault.{SortFault}
use Rattle.shelf_model.specs.declared.sort_fault.SortFault.TheVariants.{Shelf, Damaged, RunsSpent}
use Rattle.shelf_model.specs.Calls.{longest}
use Rattle.shelf_model.specs.World.{World}
use Rattle.canon_file.specs.Canon.{canon_nodes, canon_root, canon_bytes}
use Rattle.canon_file.specs.Laws.{HasForm}
use Rattle.canon_file.specs.Walks.{walk}
use Rattle.arc_diagrams.specs.Arcs.{targets_of, arcs_of}
use Rattle.top_down_laws.specs.Readings.{IsIn}
use Rattle.file_numbers.specs.Files.{inner_part, checkpoint_file}
use Rattle.node_file.specs.Readers.{file_of, trailer_of, left_of}
use Rattle.node_reading.specs.Reading.{count_of}
use Rattle.saved_words.specs.Fronts.{IsFront, one_front}
use Rattle.sweep_core.specs.declared.checkpoint.Checkpoint.{Checkpoint}
use Rattle.sweep_core.specs.Saving.{Saving, IsReadPart, IsRestingPlace, reads_of}
use Rattle.sweep_core.specs.Resting.{checkpoint_place, same_fronts, read_rests}
use Rattle.restrict_eval.specs.declared.following.Following.{Following}
use Rattle.restrict_eval.specs.declared.following.Following.TheVariants.{To, Past, Answered}
use Rattle.restrict_eval.specs.declared.eval.EvalSweep.{EvalSweep}
use Rattle.restrict_eval.specs.declared.saved_eval.SavedEval.{SavedEval}
use Rattle.restrict_eval.specs.Eval.{Evaluated, OneTable, IsPath, IsPlaceAt, fuel_at, answer_at}
use Rattle.restrict_eval.specs.SavedEval.{eval_count, eval_words, IsSaved, eval_differs, following_of}
use Rattle.node_reading.specs.Resuming.{IsPlaceFault}

-- the first words of the checkpoint are those of an evaluation
abbrev pub Holds : Checkpoint → SavedEval → Type 0
Holds c x = IsFront eval_count eval_words IsSaved x c.carry

-- where the path leads, and the place that it passed
abbrev pub pointer_at : Following → Option ℕ
pointer_at (To next) = Some next.pointer
pointer_at (Past q) = None
pointer_at (Answered b) = None

abbrev pub passed_at : Following → Option ℕ
passed_at (To next) = None
passed_at (Past q) = Some q
passed_at (Answered b) = None

-- what is saved of an evaluation
abbrev pub saved_of : EvalSweep → SavedEval
saved_of s = record {
  n = (trailer_of s.nodes).n;
  at = s.at;
  unread = record { file = file_of s.nodes; place = left_of s.nodes };
  pointer = pointer_at s.state;
  passed = passed_at s.state;
  answer = answer_at s.state;
}

-- the file is one that the step may read, and has no more nodes than the longest one; the bits lie in the text; and it
-- is said how far the path was followed
pub record KeepsRules (c : Checkpoint) (text : List ℕ) (x : SavedEval) : Type 0 where
  pub parts : inner_part ≤ c.next_part
  pub other : IsReadPart c.step c.next_part x.unread.file
  pub few : x.unread.place * node_size ≤ longest
  pub bits : x.at + x.n ≤ length text
  pub come : IsSome (following_of x)

-- its words are those of an evaluation, by these rules, and it has no tables
pub record Fits (c : Checkpoint) (text : List ℕ) : Type 0 where
  pub tables : c.tables ≡ 0
  pub saved : SavedEval
  pub holds : Holds c saved
  pub rules : KeepsRules c text saved

-- an evaluation rests on its file
pub record RestsOn (c : Checkpoint) (f : FileNo) (n : ℕ) : Type 0 where
  pub saved : SavedEval
  pub holds : Holds c saved
  pub read : f ≡ saved.unread.file

-- the path goes on from the pointer to the table's value; its node is one of so many, and the nodes behind them have
-- led to it
pub record IsOnWayAt (place : ℕ) (bytes : List ℕ) (nodes : List Node) (root : ℕ) (bits : List Bool) (value : Bool)
    (p : ℕ) : Type 0 where
  pub next : IsIn (take place nodes) p
  pub walks : walk (targets_of (arcs_of nodes)) 0 bits p ≡ terminal value
  pub path : IsPath root place bytes p

abbrev pub IsFollowedAt : Option Following → ℕ → List ℕ → List Node → ℕ → List Bool → Bool → Type 0
IsFollowedAt None place bytes nodes root bits value = ⊥
IsFollowedAt (Some (To next)) place bytes nodes root bits value =
    IsOnWayAt place bytes nodes root bits value next.pointer
IsFollowedAt (Some (Past q)) place bytes nodes root bits value = ⊥
IsFollowedAt (Some (Answered b)) place bytes nodes root bits value = b ≡ value

-- a turn for each node that wasn't given, and one; none once there is an answer
abbrev pub turns_of : Option Following → ℕ → ℕ
turns_of None n = n + 1
turns_of (Some state) n = fuel_at state n

-- the file is the canonical one of the table, and the path leads to the table's value; and no more turns remain
pub record GoesOn (x : SavedEval) (text : List ℕ) (r : FileNo → List ℕ) (d : OneTable) (turns : ℕ) : Type 0 where
  pub variables : x.n ≡ d.n
  pub form : HasForm d.n d.table
  pub file_is : r x.unread.file ≡ canon_bytes d.n d.table
  pub within : x.unread.place ≤ length (canon_nodes d.n d.table)
  pub followed : IsFollowedAt (following_of x) x.unread.place (r x.unread.file) (canon_nodes d.n d.table)
      (canon_root d.n d.table) (bits_at d.n text x.at) (value_at d.table (place_of_bits (bits_at d.n text x.at)))
  pub few : turns_of (following_of x) x.unread.place ≤ turns

pub record StandsFor (c : Checkpoint) (text : List ℕ) (r : FileNo → List ℕ) (d : OneTable) (turns : ℕ) : Type 0 where
  pub saved : SavedEval
  pub holds : Holds c saved
  pub goes_on : GoesOn saved text r d turns

-- its words and its parts say that this is evaluated, but for the text
pub record Names (c : Checkpoint) (task : Evaluated) : Type 0 where
  pub saved : SavedEval
  pub holds : Holds c saved
  pub file_is : saved.unread.file ≡ task.file
  pub variables_are : saved.n ≡ task.variables
  pub at_is : saved.at ≡ task.at
  pub step_is : c.step ≡ task.parts.step
  pub next_is : c.next_part ≡ task.parts.next

-- its words say that this file of so many variables is evaluated, at the bits from a byte of the text on
pub record Evaluates (c : Checkpoint) (n : ℕ) (file : FileNo) (at : ℕ) : Type 0 where
  pub saved : SavedEval
  pub holds : Holds c saved
  pub variables_are : saved.n ≡ n
  pub file_is : saved.unread.file ≡ file
  pub at_is : saved.at ≡ at

abbrev pub eval_saving : Saving Evaluated OneTable
eval_saving = record {
  operands = λ task f. f ≡ task.file;
  text = λ task. task.text;
  names = Names;
  fits = Fits;
  rests = RestsOn;
  reading = λ task r. count_of (r task.file) / 8;
  stands = StandsFor;
}

-- the checkpoint's place, where the path passed none of so many nodes
pub record IsPassedBeyond (step : ℕ) (state : Following) (count : ℕ) (r : FileNo → List ℕ) (f : FileNo) (at : ℕ)
    : Type 0 where
  pub file_is : f ≡ checkpoint_file step
  pub place_is : at ≡ checkpoint_place step r
  pub beyond : ¬ (IsPlaceAt state count)

abbrev pub IsPassedFault : ℕ → Following → ℕ → (FileNo → List ℕ) → SortFault → Type 0
IsPassedFault step state count r Shelf = Unit
IsPassedFault step state count r (Damaged f at) = IsPassedBeyond step state count r f at
IsPassedFault step state count r RunsSpent = ⊥

-- the cause that an evaluation isn't rebuilt
pub record Blames (c : Checkpoint) (world : World) (e : SortFault) : Type 0 where
  pub saved : SavedEval
  pub holds : Holds c saved
  pub state : Following
  pub come : following_of saved ≡ Some state
  pub cause : IsPlaceFault saved.n c.step saved.unread (reads_of world) e
      ⊎ IsPassedFault c.step state (count_of (reads_of world saved.unread.file)) (reads_of world) e

-- with the same bytes in its file it goes on in the same way
pub stays : (c : Checkpoint) (text : List ℕ) (old new : FileNo → List ℕ) (d : OneTable) (turns : ℕ) → Fits c text
    → ((f : FileNo) (n : ℕ) → RestsOn c f n → take n (new f) ≡ take n (old f)) → StandsFor c text old d turns
    → StandsFor c text new d turns
stays c text old new d turns fits same stands =
    let x = stands.saved in
    let goes = stands.goes_on in
    let file : new x.unread.file ≡ old x.unread.file = same_fronts _ _
    (λ n. same x.unread.file n (record { saved = x; holds = stands.holds; read = refl })) in
    record {
      saved = x;
      holds = stands.holds;
      goes_on = record {
        variables = goes.variables;
        form = goes.form;
        file_is = file ∙ goes.file_is;
        within = goes.within;
        followed = subst (λ bytes. IsFollowedAt (following_of x) x.unread.place bytes (canon_nodes d.n d.table)
            (canon_root d.n d.table) (bits_at d.n text x.at)
            (value_at d.table (place_of_bits (bits_at d.n text x.at)))) (sym file) goes.followed;
        few = goes.few;
      };
    }

-- the words are those of one evaluation
pub one_evaluation : (c : Checkpoint) (x y : SavedEval) → Holds c x → Holds c y → x ≡ y
one_evaluation c x y = one_front eval_count eval_words IsSaved eval_differs x y c.carry

-- its file is of another step
pub apart : (c : Checkpoint) (text : List ℕ) (f : FileNo) (n : ℕ) → Fits c text → RestsOn c f n → IsRestingPlace c f
apart c text f n fits on =
    let rules = subst (KeepsRules c text) (one_evaluation c fits.saved on.saved fits.holds on.holds) fits.rules in
    read_rests c f rules.parts (subst (IsReadPart c.step c.next_part) (sym on.read) rules.other)
