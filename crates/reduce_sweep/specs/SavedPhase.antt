-- What a checkpoint keeps of what a reduction does, and its words.
use Rattle.std.specs.Prelude.{◌≡◌, ℕ, ◌<◌, ◌^◌, Bool, true, false, List, All, length, Option, Some, None}
use Rattle.rec_words.specs.Words.{IsPointer, IsNodeWord}
use Rattle.canon_file.specs.declared.row.Row.{Row}
use Rattle.saved_words.specs.Singles.{one_word, IsWord, word_long, word_fits, word_differs}
use Rattle.saved_words.specs.Singles.{bit_word, IsBit, bit_long, bit_fits, bit_differs}
use Rattle.saved_words.specs.Singles.{pointer_long, pointer_word_fits, pointer_differs}
use Rattle.saved_words.specs.Singles.{node_long, node_word_fits, node_differs}
use Rattle.saved_words.specs.Joined.{pair_words, IsPair, pair_long, pair_fits, pair_differs}
use Rattle.saved_words.specs.Joined.{option_words, IsOption, option_long, option_fits, option_differs}
use Rattle.reduce_sweep.specs.declared.phase.Phase.{Phase}
use Rattle.reduce_sweep.specs.declared.phase.Phase.TheVariants.{Between, Collect, Number, Forward, Ended}
use Rattle.reduce_sweep.specs.declared.saved_phase.SavedPhase.{SavedPhase}

-- six words for the source that is collected, five for the rows that have numbers, one for whether names are forwarded,
-- and two for the number of nodes
abbrev pub phase_count : ℕ
phase_count = 14

-- the identifier of a source, and the final pointers of its sides
abbrev pub Sides : Type 0
Sides = Option ℕ × Option ℕ

abbrev pub Collected : Type 0
Collected = ℕ × Sides

-- how many rows have a number, and the pair of the last one
abbrev pub Pair : Type 0
Pair = ℕ × ℕ

abbrev pub Rows : Type 0
Rows = ℕ × Option Pair

abbrev pub pair_at : Option Row → Option Pair
pair_at None = None
pair_at (Some r) = Some (r.low, r.high)

abbrev pub row_at : Option Pair → Option Row
row_at None = None
row_at (Some (low, high)) = Some (record { low = low; high = high })

-- what is kept of a phase
abbrev pub saved_phase : Phase → SavedPhase
saved_phase Between = record { collected = None; numbered = None; forwards = false; count = None }
saved_phase (Collect s) = record { collected = Some (s.uid, (s.low, s.high)); numbered = None; forwards = false; count = None }
saved_phase (Number s) = record { collected = None; numbered = Some (s.number, pair_at s.last); forwards = false; count = None }
saved_phase Forward = record { collected = None; numbered = None; forwards = true; count = None }
saved_phase (Ended count) = record { collected = None; numbered = None; forwards = false; count = Some count }

-- the phase of which that is kept, if there is one
abbrev pub phase_at : Option Collected → Option Rows → Bool → Option ℕ → Option Phase
phase_at None None false None = Some Between
phase_at (Some (uid, (low, high))) None false None = Some (Collect (record { uid = uid; low = low; high = high }))
phase_at None (Some (number, last)) false None = Some (Number (record { number = number; last = row_at last }))
phase_at None None true None = Some Forward
phase_at None None false (Some count) = Some (Ended count)
phase_at collected numbered forwards count = None

abbrev pub phase_of : SavedPhase → Option Phase
phase_of s = phase_at s.collected s.numbered s.forwards s.count

-- the words of a source
abbrev pub side_words : Option ℕ → List ℕ
side_words = option_words 1 one_word

abbrev pub IsSide : Option ℕ → Type 0
IsSide = IsOption IsPointer

abbrev pub sides_words : Sides → List ℕ
sides_words = pair_words side_words side_words

abbrev pub AreSides : Sides → Type 0
AreSides = IsPair IsSide IsSide

abbrev pub source_words : Collected → List ℕ
source_words = pair_words one_word sides_words

abbrev pub IsSource : Collected → Type 0
IsSource = IsPair IsNodeWord AreSides

abbrev pub collected_words : Option Collected → List ℕ
collected_words = option_words 5 source_words

abbrev pub IsCollectedOne : Option Collected → Type 0
IsCollectedOne = IsOption IsSource

-- the words of the rows that have numbers
abbrev pub pair_of_words : Pair → List ℕ
pair_of_words = pair_words one_word one_word

abbrev pub ArePointers : Pair → Type 0
ArePointers = IsPair IsPointer IsPointer

abbrev pub last_words : Option Pair → List ℕ
last_words = option_words 2 pair_of_words

abbrev pub IsLastPair : Option Pair → Type 0
IsLastPair = IsOption ArePointers

abbrev pub rows_words : Rows → List ℕ
rows_words = pair_words one_word last_words

abbrev pub AreRows : Rows → Type 0
AreRows = IsPair IsWord IsLastPair

abbrev pub numbered_words : Option Rows → List ℕ
numbered_words = option_words 4 rows_words

abbrev pub IsNumberedOne : Option Rows → Type 0
IsNumberedOne = IsOption AreRows

-- the words of the number of nodes
abbrev pub count_words : Option ℕ → List ℕ
count_words = option_words 1 one_word

abbrev pub IsCount : Option ℕ → Type 0
IsCount = IsOption IsWord

-- the source and the rows, and then the others
abbrev pub First : Type 0
First = Option Collected × Option Rows

abbrev pub first_words : First → List ℕ
first_words = pair_words collected_words numbered_words

abbrev pub IsFirst : First → Type 0
IsFirst = IsPair IsCollectedOne IsNumberedOne

abbrev pub Second : Type 0
Second = Bool × Option ℕ

abbrev pub second_words : Second → List ℕ
second_words = pair_words bit_word count_words

abbrev pub IsSecond : Second → Type 0
IsSecond = IsPair IsBit IsCount

abbrev pub parts_of : SavedPhase → First × Second
parts_of s = ((s.collected, s.numbered), (s.forwards, s.count))

abbrev pub phase_words : SavedPhase → List ℕ
phase_words s = pair_words first_words second_words (parts_of s)

abbrev pub IsSavedPhase : SavedPhase → Type 0
IsSavedPhase s = IsPair IsFirst IsSecond (parts_of s)

-- how many words each of them has
side_long : (o : Option ℕ) → IsSide o → length (side_words o) ≡ 2
side_long = option_long 1 one_word IsPointer pointer_long

sides_long : (p : Sides) → AreSides p → length (sides_words p) ≡ 4
sides_long = pair_long 2 2 side_words side_words IsSide IsSide side_long side_long

source_long : (p : Collected) → IsSource p → length (source_words p) ≡ 5
source_long = pair_long 1 4 one_word sides_words IsNodeWord AreSides node_long sides_long

collected_long : (o : Option Collected) → IsCollectedOne o → length (collected_words o) ≡ 6
collected_long = option_long 5 source_words IsSource source_long

pair_of_long : (p : Pair) → ArePointers p → length (pair_of_words p) ≡ 2
pair_of_long = pair_long 1 1 one_word one_word IsPointer IsPointer pointer_long pointer_long

last_long : (o : Option Pair) → IsLastPair o → length (last_words o) ≡ 3
last_long = option_long 2 pair_of_words ArePointers pair_of_long

rows_long : (p : Rows) → AreRows p → length (rows_words p) ≡ 4
rows_long = pair_long 1 3 one_word last_words IsWord IsLastPair word_long last_long

numbered_long : (o : Option Rows) → IsNumberedOne o → length (numbered_words o) ≡ 5
numbered_long = option_long 4 rows_words AreRows rows_long

count_long : (o : Option ℕ) → IsCount o → length (count_words o) ≡ 2
count_long = option_long 1 one_word IsWord word_long

first_long : (p : First) → IsFirst p → length (first_words p) ≡ 11
first_long = pair_long 6 5 collected_words numbered_words IsCollectedOne IsNumberedOne collected_long numbered_long

second_long : (p : Second) → IsSecond p → length (second_words p) ≡ 3
second_long = pair_long 1 2 bit_word count_words IsBit IsCount bit_long count_long

pub phase_long : (s : SavedPhase) → IsSavedPhase s → length (phase_words s) ≡ phase_count
phase_long s is = pair_long 11 3 first_words second_words IsFirst IsSecond first_long second_long (parts_of s) is

-- each word has 64 bits
abbrev pub AreWords : List ℕ → Type 0
AreWords words = All (λ word. word < 2 ^ 64) words

side_fits : (o : Option ℕ) → IsSide o → AreWords (side_words o)
side_fits = option_fits 1 one_word IsPointer pointer_long pointer_word_fits

sides_fit : (p : Sides) → AreSides p → AreWords (sides_words p)
sides_fit = pair_fits 2 2 side_words side_words IsSide IsSide side_long side_long side_fits side_fits

source_fits : (p : Collected) → IsSource p → AreWords (source_words p)
source_fits = pair_fits 1 4 one_word sides_words IsNodeWord AreSides node_long sides_long node_word_fits sides_fit

pair_of_fits : (p : Pair) → ArePointers p → AreWords (pair_of_words p)
pair_of_fits = pair_fits 1 1 one_word one_word IsPointer IsPointer pointer_long pointer_long pointer_word_fits
    pointer_word_fits

last_fits : (o : Option Pair) → IsLastPair o → AreWords (last_words o)
last_fits = option_fits 2 pair_of_words ArePointers pair_of_long pair_of_fits

rows_fit : (p : Rows) → AreRows p → AreWords (rows_words p)
rows_fit = pair_fits 1 3 one_word last_words IsWord IsLastPair word_long last_long word_fits last_fits

first_fits : (p : First) → IsFirst p → AreWords (first_words p)
first_fits = pair_fits 6 5 collected_words numbered_words IsCollectedOne IsNumberedOne collected_long numbered_long
    (option_fits 5 source_words IsSource source_long source_fits) (option_fits 4 rows_words AreRows rows_long rows_fit)

second_fits : (p : Second) → IsSecond p → AreWords (second_words p)
second_fits = pair_fits 1 2 bit_word count_words IsBit IsCount bit_long count_long bit_fits
    (option_fits 1 one_word IsWord word_long word_fits)

pub phase_fits : (s : SavedPhase) → IsSavedPhase s → All (λ word. word < 2 ^ 64) (phase_words s)
phase_fits s is = pair_fits 11 3 first_words second_words IsFirst IsSecond first_long second_long first_fits second_fits
    (parts_of s) is

-- no two have the same words
side_differs : (o p : Option ℕ) → IsSide o → IsSide p → side_words o ≡ side_words p → o ≡ p
side_differs = option_differs 1 one_word IsPointer pointer_long pointer_differs

sides_differ : (p q : Sides) → AreSides p → AreSides q → sides_words p ≡ sides_words q → p ≡ q
sides_differ = pair_differs 2 2 side_words side_words IsSide IsSide side_long side_long side_differs side_differs

source_differs : (p q : Collected) → IsSource p → IsSource q → source_words p ≡ source_words q → p ≡ q
source_differs = pair_differs 1 4 one_word sides_words IsNodeWord AreSides node_long sides_long node_differs sides_differ

pair_of_differs : (p q : Pair) → ArePointers p → ArePointers q → pair_of_words p ≡ pair_of_words q → p ≡ q
pair_of_differs = pair_differs 1 1 one_word one_word IsPointer IsPointer pointer_long pointer_long pointer_differs
    pointer_differs

last_differs : (o p : Option Pair) → IsLastPair o → IsLastPair p → last_words o ≡ last_words p → o ≡ p
last_differs = option_differs 2 pair_of_words ArePointers pair_of_long pair_of_differs

rows_differ : (p q : Rows) → AreRows p → AreRows q → rows_words p ≡ rows_words q → p ≡ q
rows_differ = pair_differs 1 3 one_word last_words IsWord IsLastPair word_long last_long word_differs last_differs

first_differs : (p q : First) → IsFirst p → IsFirst q → first_words p ≡ first_words q → p ≡ q
first_differs = pair_differs 6 5 collected_words numbered_words IsCollectedOne IsNumberedOne collected_long
    numbered_long (option_differs 5 source_words IsSource source_long source_differs)
    (option_differs 4 rows_words AreRows rows_long rows_differ)

second_differs : (p q : Second) → IsSecond p → IsSecond q → second_words p ≡ second_words q → p ≡ q
second_differs = pair_differs 1 2 bit_word count_words IsBit IsCount bit_long count_long bit_differs
    (option_differs 1 one_word IsWord word_long word_differs)

-- the one of these parts
abbrev saved_by : First → Second → SavedPhase
saved_by (collected, numbered) (forwards, count) = record {
  collected = collected;
  numbered = numbered;
  forwards = forwards;
  count = count;
}

pub phase_differs : (s t : SavedPhase) → IsSavedPhase s → IsSavedPhase t → phase_words s ≡ phase_words t → s ≡ t
phase_differs s t a b same =
    let one : parts_of s ≡ parts_of t = pair_differs 11 3 first_words second_words IsFirst IsSecond first_long
    second_long first_differs second_differs (parts_of s) (parts_of t) a b same in
    λ i. saved_by (one i).0 (one i).1
