-- How the values of a type stand in the words of a checkpoint: how many words, which, and the laws of that.
use Rattle.std.specs.Prelude.{◌≡◌, ℕ, ◌+◌, ◌<◌, ◌^◌, Bool, List, All, length, Option}
use Rattle.shelf_model.specs.declared.file_no.FileNo.{FileNo}
use Rattle.rec_words.specs.Words.{IsPointer, IsNodeWord}
use Rattle.saved_words.specs.Singles.{one_word, IsWord, word_long, word_fits, word_differs, IsHalf, half_long}
use Rattle.saved_words.specs.Singles.{half_fits, half_differs, bit_word, IsBit, bit_long, bit_fits, bit_differs}
use Rattle.saved_words.specs.Singles.{pointer_long, pointer_word_fits, pointer_differs, node_long, node_word_fits}
use Rattle.saved_words.specs.Singles.{node_differs, file_words, IsFileNo, file_long, file_fits, file_differs}
use Rattle.saved_words.specs.Joined.{option_words, IsOption, option_long, option_fits, option_differs, pair_words}
use Rattle.saved_words.specs.Joined.{IsPair, pair_long, pair_fits, pair_differs}

-- each value has so many words, of 64 bits, which are those of no other one
pub record Spelling (A : Type 0) : Type 1 where
  pub count : ℕ
  pub words : A → List ℕ
  pub is_value : A → Type 0
  pub long : (x : A) → is_value x → length (words x) ≡ count
  pub fits : (x : A) → is_value x → All (λ word. word < 2 ^ 64) (words x)
  pub differ : (x y : A) → is_value x → is_value y → words x ≡ words y → x ≡ y

-- that of numbers of 64 and of 32 bits, of truth values, of pointers and of nodes' identifiers, and of file numbers
abbrev pub word : Spelling ℕ
word = record { count = 1; words = one_word; is_value = IsWord; long = word_long; fits = word_fits; differ = word_differs }

abbrev pub half : Spelling ℕ
half = record { count = 1; words = one_word; is_value = IsHalf; long = half_long; fits = half_fits; differ = half_differs }

abbrev pub bit : Spelling Bool
bit = record { count = 1; words = bit_word; is_value = IsBit; long = bit_long; fits = bit_fits; differ = bit_differs }

abbrev pub pointer : Spelling ℕ
pointer = record {
  count = 1;
  words = one_word;
  is_value = IsPointer;
  long = pointer_long;
  fits = pointer_word_fits;
  differ = pointer_differs;
}

abbrev pub identifier : Spelling ℕ
identifier = record {
  count = 1;
  words = one_word;
  is_value = IsNodeWord;
  long = node_long;
  fits = node_word_fits;
  differ = node_differs;
}

abbrev pub file_number : Spelling FileNo
file_number = record {
  count = 2;
  words = file_words;
  is_value = IsFileNo;
  long = file_long;
  fits = file_fits;
  differ = file_differs;
}

-- that of two values, and of a value that may be missing
abbrev pub both : {A B : Type 0} → Spelling A → Spelling B → Spelling (A × B)
both a b = record {
  count = a.count + b.count;
  words = pair_words a.words b.words;
  is_value = IsPair a.is_value b.is_value;
  long = pair_long a.count b.count a.words b.words a.is_value b.is_value a.long b.long;
  fits = pair_fits a.count b.count a.words b.words a.is_value b.is_value a.long b.long a.fits b.fits;
  differ = pair_differs a.count b.count a.words b.words a.is_value b.is_value a.long b.long a.differ b.differ;
}

abbrev pub maybe : {A : Type 0} → Spelling A → Spelling (Option A)
maybe a = record {
  count = 1 + a.count;
  words = option_words a.count a.words;
  is_value = IsOption a.is_value;
  long = option_long a.count a.words a.is_value a.long;
  fits = option_fits a.count a.words a.is_value a.long a.fits;
  differ = option_differs a.count a.words a.is_value a.long a.differ;
}

-- and that of what is one with its parts
abbrev pub by_parts : {A S : Type 0} (parts : S → A) → ((x y : S) → parts x ≡ parts y → x ≡ y) → Spelling A → Spelling S
by_parts parts one a = record {
  count = a.count;
  words = λ x. a.words (parts x);
  is_value = λ x. a.is_value (parts x);
  long = λ x is. a.long (parts x) is;
  fits = λ x is. a.fits (parts x) is;
  differ = λ x y is other same. one x y (a.differ (parts x) (parts y) is other same);
}
