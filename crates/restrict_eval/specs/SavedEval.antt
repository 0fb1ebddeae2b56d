-- What a checkpoint keeps of an evaluation, and its words.
use Rattle.std.specs.Prelude.{◌≡◌, ℕ, ◌<◌, ◌^◌, Bool, List, All, length, Option, Some, None}
use Rattle.rec_words.specs.Words.{IsPointer}
use Rattle.saved_words.specs.Singles.{one_word, IsWord, word_long, word_fits, word_differs}
use Rattle.saved_words.specs.Singles.{IsHalf, half_long, half_fits, half_differs}
use Rattle.saved_words.specs.Singles.{bit_word, IsBit, bit_long, bit_fits, bit_differs}
use Rattle.saved_words.specs.Singles.{pointer_long, pointer_word_fits, pointer_differs}
use Rattle.saved_words.specs.Joined.{pair_words, IsPair, pair_long, pair_fits, pair_differs}
use Rattle.saved_words.specs.Joined.{option_words, IsOption, option_long, option_fits, option_differs}
use Rattle.restrict_eval.specs.declared.following.Following.{Following}
use Rattle.restrict_eval.specs.declared.following.Following.TheVariants.{To, Past, Answered}
use Rattle.restrict_eval.specs.declared.saved_eval.SavedEval.{SavedEval}
use Rattle.restrict_eval.specs.SavedSame.{Place, place_words, IsPlace, place_long, place_fits, place_differs}
use Rattle.restrict_eval.specs.SavedSame.{answer_words, answer_long, AreWords}

-- two words for the bits, three for the file, and two for each of the three that may be missing
abbrev pub eval_count : ℕ
eval_count = 11

-- the variables and the place of the bits
abbrev pub Bits : Type 0
Bits = ℕ × ℕ

abbrev pub bits_words : Bits → List ℕ
bits_words = pair_words one_word one_word

abbrev pub AreBits : Bits → Type 0
AreBits = IsPair IsHalf IsHalf

-- and the file
abbrev pub Given : Type 0
Given = Bits × Place

abbrev pub given_words : Given → List ℕ
given_words = pair_words bits_words place_words

abbrev pub IsGiven : Given → Type 0
IsGiven = IsPair AreBits IsPlace

-- a number that may be missing
abbrev pub maybe_words : Option ℕ → List ℕ
maybe_words = option_words 1 one_word

-- a place and an answer that may be missing
abbrev pub Rest : Type 0
Rest = Option ℕ × Option Bool

abbrev pub rest_words : Rest → List ℕ
rest_words = pair_words maybe_words answer_words

abbrev pub IsRest : Rest → Type 0
IsRest = IsPair (IsOption IsWord) (IsOption IsBit)

-- and a pointer
abbrev pub Come : Type 0
Come = Option ℕ × Rest

abbrev pub come_words : Come → List ℕ
come_words = pair_words maybe_words rest_words

abbrev pub HasCome : Come → Type 0
HasCome = IsPair (IsOption IsPointer) IsRest

abbrev pub parts_of : SavedEval → Given × Come
parts_of s = (((s.n, s.at), (s.unread.file, s.unread.place)), (s.pointer, (s.passed, s.answer)))

abbrev pub eval_words : SavedEval → List ℕ
eval_words s = pair_words given_words come_words (parts_of s)

abbrev pub IsSaved : SavedEval → Type 0
IsSaved s = IsPair IsGiven HasCome (parts_of s)

-- how far the path was followed: to an answer, past a place, or to a pointer
abbrev pub following_at : Option Bool → Option ℕ → Option ℕ → Option Following
following_at (Some b) passed pointer = Some (Answered b)
following_at None (Some q) pointer = Some (Past q)
following_at None None (Some p) = Some (To (record { pointer = p }))
following_at None None None = None

abbrev pub following_of : SavedEval → Option Following
following_of s = following_at s.answer s.passed s.pointer

bits_long : (p : Bits) → AreBits p → length (bits_words p) ≡ 2
bits_long = pair_long 1 1 one_word one_word IsHalf IsHalf half_long half_long

given_long : (p : Given) → IsGiven p → length (given_words p) ≡ 5
given_long = pair_long 2 3 bits_words place_words AreBits IsPlace bits_long place_long

passed_long : (o : Option ℕ) → IsOption IsWord o → length (maybe_words o) ≡ 2
passed_long = option_long 1 one_word IsWord word_long

pointed_long : (o : Option ℕ) → IsOption IsPointer o → length (maybe_words o) ≡ 2
pointed_long = option_long 1 one_word IsPointer pointer_long

rest_long : (p : Rest) → IsRest p → length (rest_words p) ≡ 4
rest_long = pair_long 2 2 maybe_words answer_words (IsOption IsWord) (IsOption IsBit) passed_long answer_long

come_long : (p : Come) → HasCome p → length (come_words p) ≡ 6
come_long = pair_long 2 4 maybe_words rest_words (IsOption IsPointer) IsRest pointed_long rest_long

pub eval_long : (s : SavedEval) → IsSaved s → length (eval_words s) ≡ eval_count
eval_long s is = pair_long 5 6 given_words come_words IsGiven HasCome given_long come_long (parts_of s) is

given_fits : (p : Given) → IsGiven p → AreWords (given_words p)
given_fits = pair_fits 2 3 bits_words place_words AreBits IsPlace bits_long place_long
    (pair_fits 1 1 one_word one_word IsHalf IsHalf half_long half_long half_fits half_fits) place_fits

rest_fits : (p : Rest) → IsRest p → AreWords (rest_words p)
rest_fits = pair_fits 2 2 maybe_words answer_words (IsOption IsWord) (IsOption IsBit) passed_long answer_long
    (option_fits 1 one_word IsWord word_long word_fits) (option_fits 1 bit_word IsBit bit_long bit_fits)

come_fits : (p : Come) → HasCome p → AreWords (come_words p)
come_fits = pair_fits 2 4 maybe_words rest_words (IsOption IsPointer) IsRest pointed_long rest_long
    (option_fits 1 one_word IsPointer pointer_long pointer_word_fits) rest_fits

pub eval_fits : (s : SavedEval) → IsSaved s → All (λ word. word < 2 ^ 64) (eval_words s)
eval_fits s is = pair_fits 5 6 given_words come_words IsGiven HasCome given_long come_long given_fits come_fits
    (parts_of s) is

given_differs : (p q : Given) → IsGiven p → IsGiven q → given_words p ≡ given_words q → p ≡ q
given_differs = pair_differs 2 3 bits_words place_words AreBits IsPlace bits_long place_long
    (pair_differs 1 1 one_word one_word IsHalf IsHalf half_long half_long half_differs half_differs) place_differs

rest_differs : (p q : Rest) → IsRest p → IsRest q → rest_words p ≡ rest_words q → p ≡ q
rest_differs = pair_differs 2 2 maybe_words answer_words (IsOption IsWord) (IsOption IsBit) passed_long answer_long
    (option_differs 1 one_word IsWord word_long word_differs) (option_differs 1 bit_word IsBit bit_long bit_differs)

come_differs : (p q : Come) → HasCome p → HasCome q → come_words p ≡ come_words q → p ≡ q
come_differs = pair_differs 2 4 maybe_words rest_words (IsOption IsPointer) IsRest pointed_long rest_long
    (option_differs 1 one_word IsPointer pointer_long pointer_differs) rest_differs

-- the one of these parts
abbrev saved_by : Given → Come → SavedEval
saved_by ((n, at), (f, p)) (pointer, (passed, answer)) = record {
  n = n;
  at = at;
  unread = record { file = f; place = p };
  pointer = pointer;
  passed = passed;
  answer = answer;
}

pub eval_differs : (s t : SavedEval) → IsSaved s → IsSaved t → eval_words s ≡ eval_words t → s ≡ t
eval_differs s t a b same =
    let one : parts_of s ≡ parts_of t = pair_differs 5 6 given_words come_words IsGiven HasCome given_long come_long
    given_differs come_differs (parts_of s) (parts_of t) a b same in
    λ i. saved_by (one i).0 (one i).1
