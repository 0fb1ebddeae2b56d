-- What a checkpoint keeps of a reduction, and its words.
use Rattle.std.specs.Prelude.{◌≡◌, ℕ, ◌<◌, ◌^◌, List, All, length, Option, refl}
use Rattle.std.proofs.Common.{lit≤}
use Rattle.rec_words.specs.Words.{IsPointer}
use Rattle.shelf_model.specs.declared.file_no.FileNo.{FileNo}
use Rattle.arc_diagrams.specs.Items.{final_arc_words, IsFinalArc}
use Rattle.arc_diagrams.specs.ItemLaws.{same_final_arc, final_arc_fits}
use Rattle.arc_diagrams.specs.declared.final_arc.FinalArc.{FinalArc}
use Rattle.saved_words.specs.declared.item.Item.{Item}
use Rattle.saved_words.specs.Singles.{one_word, IsWord, word_long, word_fits, word_differs}
use Rattle.saved_words.specs.Singles.{IsHalf, half_long, half_fits, half_differs}
use Rattle.saved_words.specs.Singles.{pointer_long, pointer_word_fits, pointer_differs}
use Rattle.saved_words.specs.Singles.{file_words, IsFileNo, file_long, file_fits, file_differs}
use Rattle.saved_words.specs.Joined.{pair_words, IsPair, pair_long, pair_fits, pair_differs}
use Rattle.saved_words.specs.Joined.{option_words, IsOption, option_long, option_fits, option_differs}
use Rattle.saved_words.specs.Items.{item_words, IsItem, item_long, item_fits, item_differs}
use Rattle.reduce_sweep.specs.declared.saved_phase.SavedPhase.{SavedPhase}
use Rattle.reduce_sweep.specs.declared.saved.Saved.{Saved}
use Rattle.reduce_sweep.specs.SavedPhase.{AreWords, phase_words, IsSavedPhase, phase_long, phase_fits, phase_differs}

-- four words of numbers, three for each file, fourteen for the phase, and four for the last arc of the queue
abbrev pub saved_count : ℕ
saved_count = 31

-- a file, and how many records of it count
abbrev pub Front : Type 0
Front = FileNo × ℕ

abbrev pub front_words : Front → List ℕ
front_words = pair_words file_words one_word

abbrev pub IsFront : Front → Type 0
IsFront = IsPair IsFileNo IsWord

-- the variables and the level
abbrev pub Levels : Type 0
Levels = ℕ × ℕ

abbrev pub levels_words : Levels → List ℕ
levels_words = pair_words one_word one_word

abbrev pub AreLevels : Levels → Type 0
AreLevels = IsPair IsHalf IsHalf

-- the root, and its final pointer
abbrev pub Root : Type 0
Root = ℕ × ℕ

abbrev pub root_words : Root → List ℕ
root_words = pair_words one_word one_word

abbrev pub IsRoot : Root → Type 0
IsRoot = IsPair IsPointer IsPointer

abbrev pub Numbers : Type 0
Numbers = Levels × Root

abbrev pub numbers_words : Numbers → List ℕ
numbers_words = pair_words levels_words root_words

abbrev pub AreNumbers : Numbers → Type 0
AreNumbers = IsPair AreLevels IsRoot

-- the two arc files
abbrev pub Fronts : Type 0
Fronts = Front × Front

abbrev pub fronts_words : Fronts → List ℕ
fronts_words = pair_words front_words front_words

abbrev pub AreFronts : Fronts → Type 0
AreFronts = IsPair IsFront IsFront

-- the last arc of the queue
abbrev pub Last : Type 0
Last = Option (Item FinalArc)

abbrev pub last_words : Last → List ℕ
last_words = option_words 3 (item_words 3 final_arc_words)

abbrev pub IsLast : Last → Type 0
IsLast = IsOption (IsItem IsFinalArc)

-- the phase and the last arc
abbrev pub State : Type 0
State = SavedPhase × Last

abbrev pub state_words : State → List ℕ
state_words = pair_words phase_words last_words

abbrev pub IsState : State → Type 0
IsState = IsPair IsSavedPhase IsLast

abbrev pub First : Type 0
First = Numbers × Fronts

abbrev pub first_words : First → List ℕ
first_words = pair_words numbers_words fronts_words

abbrev pub IsFirst : First → Type 0
IsFirst = IsPair AreNumbers AreFronts

abbrev pub Second : Type 0
Second = Front × State

abbrev pub second_words : Second → List ℕ
second_words = pair_words front_words state_words

abbrev pub IsSecond : Second → Type 0
IsSecond = IsPair IsFront IsState

abbrev pub parts_of : Saved → First × Second
parts_of s = (
  (
    ((s.variables, s.level), (s.arcs.root, s.known)),
    ((s.arcs.inner, s.arcs.inner_count), (s.arcs.ends, s.arcs.ends_count)),
  ),
  ((s.out, s.kept), (s.phase, s.last)),
)

abbrev pub saved_words : Saved → List ℕ
saved_words s = pair_words first_words second_words (parts_of s)

abbrev pub IsSaved : Saved → Type 0
IsSaved s = IsPair IsFirst IsSecond (parts_of s)

-- how many words each of them has
front_long : (p : Front) → IsFront p → length (front_words p) ≡ 3
front_long = pair_long 2 1 file_words one_word IsFileNo IsWord file_long word_long

fronts_long : (p : Fronts) → AreFronts p → length (fronts_words p) ≡ 6
fronts_long = pair_long 3 3 front_words front_words IsFront IsFront front_long front_long

levels_long : (p : Levels) → AreLevels p → length (levels_words p) ≡ 2
levels_long = pair_long 1 1 one_word one_word IsHalf IsHalf half_long half_long

root_long : (p : Root) → IsRoot p → length (root_words p) ≡ 2
root_long = pair_long 1 1 one_word one_word IsPointer IsPointer pointer_long pointer_long

numbers_long : (p : Numbers) → AreNumbers p → length (numbers_words p) ≡ 4
numbers_long = pair_long 2 2 levels_words root_words AreLevels IsRoot levels_long root_long

arc_long : (x : Item FinalArc) → IsItem IsFinalArc x → length (item_words 3 final_arc_words x) ≡ 3
arc_long = item_long 3 final_arc_words IsFinalArc (lit≤ tt, lit≤ tt) (λ _ _. refl)

last_long : (o : Last) → IsLast o → length (last_words o) ≡ 4
last_long = option_long 3 (item_words 3 final_arc_words) (IsItem IsFinalArc) arc_long

state_long : (p : State) → IsState p → length (state_words p) ≡ 18
state_long = pair_long 14 4 phase_words last_words IsSavedPhase IsLast phase_long last_long

first_long : (p : First) → IsFirst p → length (first_words p) ≡ 10
first_long = pair_long 4 6 numbers_words fronts_words AreNumbers AreFronts numbers_long fronts_long

second_long : (p : Second) → IsSecond p → length (second_words p) ≡ 21
second_long = pair_long 3 18 front_words state_words IsFront IsState front_long state_long

pub saved_long : (s : Saved) → IsSaved s → length (saved_words s) ≡ saved_count
saved_long s is = pair_long 10 21 first_words second_words IsFirst IsSecond first_long second_long (parts_of s) is

-- each word has 64 bits
front_fits : (p : Front) → IsFront p → AreWords (front_words p)
front_fits = pair_fits 2 1 file_words one_word IsFileNo IsWord file_long word_long file_fits word_fits

numbers_fit : (p : Numbers) → AreNumbers p → AreWords (numbers_words p)
numbers_fit = pair_fits 2 2 levels_words root_words AreLevels IsRoot levels_long root_long
    (pair_fits 1 1 one_word one_word IsHalf IsHalf half_long half_long half_fits half_fits)
    (pair_fits 1 1 one_word one_word IsPointer IsPointer pointer_long pointer_long pointer_word_fits pointer_word_fits)

first_fits : (p : First) → IsFirst p → AreWords (first_words p)
first_fits = pair_fits 4 6 numbers_words fronts_words AreNumbers AreFronts numbers_long fronts_long numbers_fit
    (pair_fits 3 3 front_words front_words IsFront IsFront front_long front_long front_fits front_fits)

last_fits : (o : Last) → IsLast o → AreWords (last_words o)
last_fits = option_fits 3 (item_words 3 final_arc_words) (IsItem IsFinalArc) arc_long
    (item_fits 3 final_arc_words IsFinalArc final_arc_fits)

second_fits : (p : Second) → IsSecond p → AreWords (second_words p)
second_fits = pair_fits 3 18 front_words state_words IsFront IsState front_long state_long front_fits
    (pair_fits 14 4 phase_words last_words IsSavedPhase IsLast phase_long last_long phase_fits last_fits)

pub saved_fits : (s : Saved) → IsSaved s → All (λ word. word < 2 ^ 64) (saved_words s)
saved_fits s is = pair_fits 10 21 first_words second_words IsFirst IsSecond first_long second_long first_fits second_fits
    (parts_of s) is

-- no two have the same words
front_differs : (p q : Front) → IsFront p → IsFront q → front_words p ≡ front_words q → p ≡ q
front_differs = pair_differs 2 1 file_words one_word IsFileNo IsWord file_long word_long file_differs word_differs

numbers_differ : (p q : Numbers) → AreNumbers p → AreNumbers q → numbers_words p ≡ numbers_words q → p ≡ q
numbers_differ = pair_differs 2 2 levels_words root_words AreLevels IsRoot levels_long root_long
    (pair_differs 1 1 one_word one_word IsHalf IsHalf half_long half_long half_differs half_differs)
    (pair_differs 1 1 one_word one_word IsPointer IsPointer pointer_long pointer_long pointer_differs pointer_differs)

first_differs : (p q : First) → IsFirst p → IsFirst q → first_words p ≡ first_words q → p ≡ q
first_differs = pair_differs 4 6 numbers_words fronts_words AreNumbers AreFronts numbers_long fronts_long numbers_differ
    (pair_differs 3 3 front_words front_words IsFront IsFront front_long front_long front_differs front_differs)

last_differs : (o p : Last) → IsLast o → IsLast p → last_words o ≡ last_words p → o ≡ p
last_differs = option_differs 3 (item_words 3 final_arc_words) (IsItem IsFinalArc) arc_long
    (item_differs 3 final_arc_words IsFinalArc (λ _ _. refl) same_final_arc)

second_differs : (p q : Second) → IsSecond p → IsSecond q → second_words p ≡ second_words q → p ≡ q
second_differs = pair_differs 3 18 front_words state_words IsFront IsState front_long state_long front_differs
    (pair_differs 14 4 phase_words last_words IsSavedPhase IsLast phase_long last_long phase_differs last_differs)

-- the one of these parts
abbrev saved_by : First → Second → Saved
saved_by (((variables, level), (root, known)), ((inner, inner_count), (ends, ends_count)))
    ((out, kept), (phase, last)) = record {
      variables = variables;
      arcs = record { root = root; inner = inner; inner_count = inner_count; ends = ends; ends_count = ends_count };
      known = known;
      out = out;
      kept = kept;
      level = level;
      phase = phase;
      last = last;
    }

pub saved_differs : (s t : Saved) → IsSaved s → IsSaved t → saved_words s ≡ saved_words t → s ≡ t
saved_differs s t a b same =
    let one : parts_of s ≡ parts_of t = pair_differs 10 21 first_words second_words IsFirst IsSecond first_long
    second_long first_differs second_differs (parts_of s) (parts_of t) a b same in
    λ i. saved_by (one i).0 (one i).1
