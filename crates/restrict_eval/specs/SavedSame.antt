-- What a checkpoint keeps of a comparison, and its words.
use Rattle.std.specs.Prelude.{◌≡◌, ℕ, ◌<◌, ◌^◌, Bool, List, All, length, Option}
use Rattle.shelf_model.specs.declared.file_no.FileNo.{FileNo}
use Rattle.saved_words.specs.Singles.{one_word, IsWord, word_long, word_fits, word_differs}
use Rattle.saved_words.specs.Singles.{IsHalf, half_long, half_fits, half_differs}
use Rattle.saved_words.specs.Singles.{bit_word, IsBit, bit_long, bit_fits, bit_differs}
use Rattle.saved_words.specs.Singles.{file_words, IsFileNo, file_long, file_fits, file_differs}
use Rattle.saved_words.specs.Joined.{pair_words, IsPair, pair_long, pair_fits, pair_differs}
use Rattle.saved_words.specs.Joined.{option_words, IsOption, option_long, option_fits, option_differs}
use Rattle.restrict_eval.specs.declared.saved.SavedSame.{SavedSame}

-- one word for the variables, three for each file, and three for what was found
abbrev pub same_count : ℕ
same_count = 10

-- a file with a place
abbrev pub Place : Type 0
Place = FileNo × ℕ

abbrev pub place_words : Place → List ℕ
place_words = pair_words file_words one_word

abbrev pub IsPlace : Place → Type 0
IsPlace = IsPair IsFileNo IsWord

-- the variables, and a file with a place
abbrev pub First : Type 0
First = ℕ × Place

abbrev pub first_words : First → List ℕ
first_words = pair_words one_word place_words

abbrev pub IsFirst : First → Type 0
IsFirst = IsPair IsHalf IsPlace

-- whether a node is at hand, and the answer
abbrev pub Found : Type 0
Found = Bool × Option Bool

abbrev pub answer_words : Option Bool → List ℕ
answer_words = option_words 1 bit_word

abbrev pub found_words : Found → List ℕ
found_words = pair_words bit_word answer_words

abbrev pub IsFound : Found → Type 0
IsFound = IsPair IsBit (IsOption IsBit)

-- a file with a place, and what was found
abbrev pub Second : Type 0
Second = Place × Found

abbrev pub second_words : Second → List ℕ
second_words = pair_words place_words found_words

abbrev pub IsSecond : Second → Type 0
IsSecond = IsPair IsPlace IsFound

abbrev pub parts_of : SavedSame → First × Second
parts_of s = ((s.n, (s.left.file, s.left.place)), ((s.right.file, s.right.place), (s.ahead, s.answer)))

abbrev pub same_words : SavedSame → List ℕ
same_words s = pair_words first_words second_words (parts_of s)

abbrev pub IsSaved : SavedSame → Type 0
IsSaved s = IsPair IsFirst IsSecond (parts_of s)

pub place_long : (p : Place) → IsPlace p → length (place_words p) ≡ 3
place_long = pair_long 2 1 file_words one_word IsFileNo IsWord file_long word_long

first_long : (p : First) → IsFirst p → length (first_words p) ≡ 4
first_long = pair_long 1 3 one_word place_words IsHalf IsPlace half_long place_long

pub answer_long : (o : Option Bool) → IsOption IsBit o → length (answer_words o) ≡ 2
answer_long = option_long 1 bit_word IsBit bit_long

found_long : (p : Found) → IsFound p → length (found_words p) ≡ 3
found_long = pair_long 1 2 bit_word answer_words IsBit (IsOption IsBit) bit_long answer_long

second_long : (p : Second) → IsSecond p → length (second_words p) ≡ 6
second_long = pair_long 3 3 place_words found_words IsPlace IsFound place_long found_long

pub same_long : (s : SavedSame) → IsSaved s → length (same_words s) ≡ same_count
same_long s is = pair_long 4 6 first_words second_words IsFirst IsSecond first_long second_long (parts_of s) is

-- each word has 64 bits
abbrev pub AreWords : List ℕ → Type 0
AreWords words = All (λ word. word < 2 ^ 64) words

pub place_fits : (p : Place) → IsPlace p → AreWords (place_words p)
place_fits = pair_fits 2 1 file_words one_word IsFileNo IsWord file_long word_long file_fits word_fits

first_fits : (p : First) → IsFirst p → AreWords (first_words p)
first_fits = pair_fits 1 3 one_word place_words IsHalf IsPlace half_long place_long half_fits place_fits

found_fits : (p : Found) → IsFound p → AreWords (found_words p)
found_fits = pair_fits 1 2 bit_word answer_words IsBit (IsOption IsBit) bit_long answer_long bit_fits
    (option_fits 1 bit_word IsBit bit_long bit_fits)

second_fits : (p : Second) → IsSecond p → AreWords (second_words p)
second_fits = pair_fits 3 3 place_words found_words IsPlace IsFound place_long found_long place_fits found_fits

pub same_fits : (s : SavedSame) → IsSaved s → All (λ word. word < 2 ^ 64) (same_words s)
same_fits s is = pair_fits 4 6 first_words second_words IsFirst IsSecond first_long second_long first_fits second_fits
    (parts_of s) is

pub place_differs : (p q : Place) → IsPlace p → IsPlace q → place_words p ≡ place_words q → p ≡ q
place_differs = pair_differs 2 1 file_words one_word IsFileNo IsWord file_long word_long file_differs word_differs

first_differs : (p q : First) → IsFirst p → IsFirst q → first_words p ≡ first_words q → p ≡ q
first_differs = pair_differs 1 3 one_word place_words IsHalf IsPlace half_long place_long half_differs place_differs

found_differs : (p q : Found) → IsFound p → IsFound q → found_words p ≡ found_words q → p ≡ q
found_differs = pair_differs 1 2 bit_word answer_words IsBit (IsOption IsBit) bit_long answer_long bit_differs
    (option_differs 1 bit_word IsBit bit_long bit_differs)

second_differs : (p q : Second) → IsSecond p → IsSecond q → second_words p ≡ second_words q → p ≡ q
second_differs = pair_differs 3 3 place_words found_words IsPlace IsFound place_long found_long place_differs
    found_differs

-- the one of these parts
abbrev saved_by : First → Second → SavedSame
saved_by (n, (f, p)) ((g, q), (ahead, answer)) = record {
  n = n;
  left = record { file = f; place = p };
  right = record { file = g; place = q };
  ahead = ahead;
  answer = answer;
}

pub same_differs : (s t : SavedSame) → IsSaved s → IsSaved t → same_words s ≡ same_words t → s ≡ t
same_differs s t a b same =
    let one : parts_of s ≡ parts_of t = pair_differs 4 6 first_words second_words IsFirst IsSecond first_long
    second_long first_differs second_differs (parts_of s) (parts_of t) a b same in
    λ i. saved_by (one i).0 (one i).1
