-- The rules of the checkpoints of comparisons, what these rest on, and what they stand for.
use Rattle.std.specs.Prelude.{◌≡◌, ◌≢◌, ◌⊎◌, ℕ, ◌+◌, ◌*◌, ◌/◌, ◌≤◌, Bool, true, false, cond, List, [], ◌∷◌, length}
use Rattle.std.specs.Prelude.{take}
use Rattle.std.specs.Prelude.{drop, Option, Some, None}
use Rattle.std.proofs.Common.{refl, sym, ap, subst, ◌∙◌, inl, inr}
use Rattle.bool_tables.specs.Tables.{same_bits}
use Rattle.rec_words.specs.Words.{node_size}
use Rattle.shelf_model.specs.declared.file_no.FileNo.{FileNo}
use Rattle.shelf_model.specs.declared.sort_fault.SortFault.{SortFault}
use Rattle.shelf_model.specs.declared.sort_fault.SortFault.TheVariants.{Shelf, Damaged, RunsSpent}
use Rattle.shelf_model.specs.Calls.{longest}
use Rattle.shelf_model.specs.World.{World}
use Rattle.canon_file.specs.Canon.{canon_nodes, canon_bytes}
use Rattle.canon_file.specs.Laws.{HasForm}
use Rattle.file_numbers.specs.Files.{inner_part}
use Rattle.rec_words.specs.declared.node.Node.{Node}
use Rattle.node_file.specs.declared.reader.NodeReader.{NodeReader}
use Rattle.node_reading.specs.Reading.{IsDamagedNode, count_of}
use Rattle.restrict_eval.specs.Canonical.{AreLeftBut}
use Rattle.node_file.specs.Readers.{file_of, trailer_of, left_of}
use Rattle.saved_words.specs.Fronts.{IsFront, one_front}
use Rattle.sweep_core.specs.declared.checkpoint.Checkpoint.{Checkpoint}
use Rattle.sweep_core.specs.Saving.{Saving, IsReadPart, IsRestingPlace, reads_of}
use Rattle.sweep_core.specs.Resting.{same_fronts, read_rests}
use Rattle.restrict_eval.specs.declared.comparing.Comparing.{Comparing}
use Rattle.restrict_eval.specs.declared.comparing.Comparing.TheVariants.{Level, Ahead, Answered}
use Rattle.restrict_eval.specs.declared.same.SameSweep.{SameSweep}
use Rattle.restrict_eval.specs.declared.saved.SavedSame.{SavedSame}
use Rattle.node_reading.specs.declared.resuming.Unread.{Unread}
use Rattle.restrict_eval.specs.Same.{Compared, Tables, answer_at}
use Rattle.restrict_eval.specs.SavedSame.{same_count, same_words, IsSaved, same_differs}
use Rattle.node_reading.specs.Resuming.{IsPlaceFault}

-- the first words of the checkpoint are those of a comparison
abbrev pub Holds : Checkpoint → SavedSame → Type 0
Holds c x = IsFront same_count same_words IsSaved x c.carry

-- how many nodes are at hand
abbrev pub at_hand : Bool → ℕ
at_hand ahead = cond ahead 1 0

-- whether a node of the first file is at hand
abbrev pub is_ahead : Comparing → Bool
is_ahead Level = false
is_ahead (Ahead x) = true
is_ahead (Answered b) = false

-- what is saved of a comparison
abbrev pub saved_of : SameSweep → SavedSame
saved_of s = record {
  n = (trailer_of s.left).n;
  left = record { file = file_of s.left; place = left_of s.left };
  right = record { file = file_of s.right; place = left_of s.right };
  ahead = is_ahead s.state;
  answer = answer_at s.state;
}

-- both files are ones that the step may read, and neither has more nodes than the longest file
pub record KeepsRules (c : Checkpoint) (x : SavedSame) : Type 0 where
  pub parts : inner_part ≤ c.next_part
  pub first_other : IsReadPart c.step c.next_part x.left.file
  pub second_other : IsReadPart c.step c.next_part x.right.file
  pub first_few : x.left.place * node_size ≤ longest
  pub second_few : x.right.place * node_size ≤ longest

-- its words are those of a comparison, by these rules, and it has no tables
pub record Fits (c : Checkpoint) : Type 0 where
  pub tables : c.tables ≡ 0
  pub saved : SavedSame
  pub holds : Holds c saved
  pub rules : KeepsRules c saved

-- a comparison rests on its two files
abbrev pub IsRead : SavedSame → FileNo → Type 0
IsRead x f = (f ≡ x.left.file) ⊎ (f ≡ x.right.file)

pub record RestsOn (c : Checkpoint) (f : FileNo) (n : ℕ) : Type 0 where
  pub saved : SavedSame
  pub holds : Holds c saved
  pub read : IsRead saved f

-- the nodes of the first file that were given before the one at hand, if there is one, are those that were given of the
-- second; or the answer is whether the tables are the same
abbrev pub AreComparedTo : SavedSame → Option Bool → Tables → Type 0
AreComparedTo x None d = drop (x.left.place + at_hand x.ahead) (canon_nodes d.n d.first)
    ≡ drop x.right.place (canon_nodes d.n d.second)
AreComparedTo x (Some b) d = b ≡ same_bits d.first d.second

-- a turn for each node that wasn't given, and one; none once there is an answer
abbrev pub turns_of : Option Bool → ℕ → ℕ
turns_of None n = n + 1
turns_of (Some b) n = 0

-- the files are the canonical ones of the two tables, and what was read of them is compared; and no more turns remain
pub record GoesOn (x : SavedSame) (r : FileNo → List ℕ) (d : Tables) (turns : ℕ) : Type 0 where
  pub variables : x.n ≡ d.n
  pub first_form : HasForm d.n d.first
  pub second_form : HasForm d.n d.second
  pub first_is : r x.left.file ≡ canon_bytes d.n d.first
  pub second_is : r x.right.file ≡ canon_bytes d.n d.second
  pub first_within : x.left.place + at_hand x.ahead ≤ length (canon_nodes d.n d.first)
  pub second_within : x.right.place ≤ length (canon_nodes d.n d.second)
  pub compared : AreComparedTo x x.answer d
  pub few : turns_of x.answer (x.left.place + x.right.place) ≤ turns

pub record StandsFor (c : Checkpoint) (r : FileNo → List ℕ) (d : Tables) (turns : ℕ) : Type 0 where
  pub saved : SavedSame
  pub holds : Holds c saved
  pub goes_on : GoesOn saved r d turns

-- its words and its parts say that these files are compared
pub record Names (c : Checkpoint) (task : Compared) : Type 0 where
  pub saved : SavedSame
  pub holds : Holds c saved
  pub first_is : saved.left.file ≡ task.first
  pub second_is : saved.right.file ≡ task.second
  pub first_variables_are : saved.n ≡ task.first_variables
  pub second_variables_are : saved.n ≡ task.second_variables
  pub step_is : c.step ≡ task.parts.step
  pub next_is : c.next_part ≡ task.parts.next

-- its words say that these two files of so many variables are compared
pub record Compares (c : Checkpoint) (n : ℕ) (left right : FileNo) : Type 0 where
  pub saved : SavedSame
  pub holds : Holds c saved
  pub variables_are : saved.n ≡ n
  pub first_is : saved.left.file ≡ left
  pub second_is : saved.right.file ≡ right

abbrev pub same_saving : Saving Compared Tables
same_saving = record {
  operands = λ task f. (f ≡ task.first) ⊎ (f ≡ task.second);
  text = λ task. [];
  names = Names;
  fits = λ c text. Fits c;
  rests = RestsOn;
  reading = λ task r. (count_of (r task.first) + count_of (r task.second)) / 8;
  stands = λ c text r d turns. StandsFor c r d turns;
}

-- the first file with the place from which its nodes are given again: before the one at hand
abbrev pub behind_hand : SavedSame → Unread
behind_hand x = record { file = x.left.file; place = x.left.place + at_hand x.ahead }

-- the node at hand, or one nearer the end of the first file, is damaged
abbrev pub IsHandFault : SavedSame → (FileNo → List ℕ) → SortFault → Type 0
IsHandFault x r Shelf = Unit
IsHandFault x r (Damaged f at) = (f ≡ x.left.file) × IsDamagedNode x.n (r x.left.file) at
IsHandFault x r RunsSpent = ⊥

-- the cause that a comparison isn't rebuilt is a fault of one of its files
pub record Blames (c : Checkpoint) (world : World) (e : SortFault) : Type 0 where
  pub saved : SavedSame
  pub holds : Holds c saved
  pub cause : IsPlaceFault saved.n c.step (behind_hand saved) (reads_of world) e
      ⊎ IsPlaceFault saved.n c.step saved.right (reads_of world) e ⊎ IsHandFault saved (reads_of world) e

-- where a comparison goes on, all of these nodes of the first file but the given ones and the one at hand are left, or
-- the answer is known
abbrev pub GoesOnFrom : Option Bool → Comparing → NodeReader → List ℕ → List Node → List Node → Type 0
GoesOnFrom answer Level r bytes nodes given = (answer ≡ None) × AreLeftBut r bytes nodes given
GoesOnFrom answer (Ahead x) r bytes nodes given = (answer ≡ None) × AreLeftBut r bytes nodes (x ∷ given)
GoesOnFrom answer (Answered b) r bytes nodes given = answer ≡ Some b

-- with the same bytes in both files it goes on in the same way
pub stays : (c : Checkpoint) (text : List ℕ) (old new : FileNo → List ℕ) (d : Tables) (turns : ℕ) → Fits c
    → ((f : FileNo) (n : ℕ) → RestsOn c f n → take n (new f) ≡ take n (old f)) → StandsFor c old d turns
    → StandsFor c new d turns
stays c text old new d turns fits same stands =
    let x = stands.saved in
    let goes = stands.goes_on in
    let first : new x.left.file ≡ old x.left.file = same_fronts _ _
    (λ n. same x.left.file n (record { saved = x; holds = stands.holds; read = inl refl })) in
    let second : new x.right.file ≡ old x.right.file = same_fronts _ _
    (λ n. same x.right.file n (record { saved = x; holds = stands.holds; read = inr refl })) in
    record {
      saved = x;
      holds = stands.holds;
      goes_on = record {
        variables = goes.variables;
        first_form = goes.first_form;
        second_form = goes.second_form;
        first_is = first ∙ goes.first_is;
        second_is = second ∙ goes.second_is;
        first_within = goes.first_within;
        second_within = goes.second_within;
        compared = goes.compared;
        few = goes.few;
      };
    }

-- the words are those of one comparison
pub one_comparison : (c : Checkpoint) (x y : SavedSame) → Holds c x → Holds c y → x ≡ y
one_comparison c x y = one_front same_count same_words IsSaved same_differs x y c.carry

-- its files are ones that the step may read
read_apart : (c : Checkpoint) (x : SavedSame) (f : FileNo) → KeepsRules c x → IsRead x f → IsRestingPlace c f
read_apart c x f rules (inl read) =
    read_rests c f rules.parts (subst (IsReadPart c.step c.next_part) (sym read) rules.first_other)
read_apart c x f rules (inr read) =
    read_rests c f rules.parts (subst (IsReadPart c.step c.next_part) (sym read) rules.second_other)

pub apart : (c : Checkpoint) (text : List ℕ) (f : FileNo) (n : ℕ) → Fits c → RestsOn c f n → IsRestingPlace c f
apart c text f n fits on =
    read_apart c on.saved f (subst (KeepsRules c) (one_comparison c fits.saved on.saved fits.holds on.holds) fits.rules)
    on.read
