-- What is found for names one after the other.
use Rattle.std.proofs.Common.{◌≡◌, ℕ, zero, suc, ◌+◌, ◌<◌, ◌≤◌, List, [], ◌∷◌, ◌++◌, length, drop, get_or, Option, Some, None, refl, sym, ap, ◌∙◌, append_assoc, arith}
use Rattle.std.specs.Prelude.{Result, Ok, Err, Bool, true, false, ◌&&◌, ◌||◌}
use Rattle.std.specs.List.{list_all, list_any}
use Rattle.std.proofs.lemmas.Bool.{and_parts}
use Rattle.std.proofs.lemmas.List.{append-nil, drop_more, drop_all, length-map, get_or-map}
use Rattle.std.specs.Borrow.{Bor}
use Rattle.text_words.specs.Text.{Word}
use Rattle.text_words.specs.Left.{word_of}
use Rattle.text_words.specs.declared.words.Word as shown
use Rattle.script_reader.specs.declared.fault.ScriptKind.{ScriptKind}
use Rattle.script_reader.specs.Results.{◌>>=◌}
use Rattle.script_reader.specs.declared.fault.ScriptKind.TheVariants as kind
use Rattle.script_reader.specs.Names.{level_or}
use Rattle.script_reader.specs.Nets.{or_fault, all_found}
use Rattle.script_reader.specs.Views.{texts, words_of}

-- what was found so far, and what is for the names that are left
abbrev pub found_behind : ScriptKind → (List ℕ → Option ℕ) → List ℕ → List (List ℕ) → Result (List ℕ) ScriptKind
found_behind k find so_far names = all_found k find names >>= λ xs. Ok (so_far ++ xs)

module _ (k : ScriptKind) (find : List ℕ → Option ℕ) (so_far : List ℕ) where
  -- nothing yet
  pub found_none : (names : List (List ℕ)) → found_behind k find [] names ≡ all_found k find names
  found_none names = by (all_found k find names)
    where
      by : (r : Result (List ℕ) ScriptKind) → (r >>= λ xs. Ok ([] ++ xs)) ≡ r
      by (Ok xs) = refl
      by (Err fault) = refl

  -- all
  pub found_last : found_behind k find so_far [] ≡ Ok so_far
  found_last = ap Ok (append-nil so_far)

  -- one more
  pub found_more : (name : List ℕ) (names : List (List ℕ)) (x : ℕ) → or_fault k (find name) ≡ Ok x → found_behind k find so_far (name ∷ names) ≡ found_behind k find (so_far ++ x ∷ []) names
  found_more name names x is =
      ap (λ (r : Result ℕ ScriptKind). (r >>= λ y. all_found k find names >>= λ ys. Ok (y ∷ ys)) >>= λ xs. Ok (so_far ++ xs)) is ∙ by (all_found k find names)
    where
      by : (r : Result (List ℕ) ScriptKind) → ((r >>= λ ys. Ok (x ∷ ys)) >>= λ xs. Ok (so_far ++ xs)) ≡ (r >>= λ xs. Ok ((so_far ++ x ∷ []) ++ xs))
      by (Ok ys) = ap Ok (sym (append_assoc so_far (x ∷ []) ys))
      by (Err fault) = refl

  -- a fault
  pub found_fault : (name : List ℕ) (names : List (List ℕ)) (fault : ScriptKind) → or_fault k (find name) ≡ Err fault → found_behind k find so_far (name ∷ names) ≡ Err fault
  found_fault name names fault is = ap (λ (r : Result ℕ ScriptKind). (r >>= λ y. all_found k find names >>= λ ys. Ok (y ∷ ys)) >>= λ xs. Ok (so_far ++ xs)) is

-- the names that are left, the first of them apart
pub texts_left : (slices : List (Bor (List ℕ))) (i : ℕ) (d : Bor (List ℕ)) → i < length slices → drop i (texts slices) ≡ (get_or slices i d).now ∷ drop (i + 1) (texts slices)
texts_left slices i d below =
    drop_more (texts slices) i [] (omega (arith, length-map slices (λ (s : Bor (List ℕ)). s.now)))
    ∙ ap (λ (t : List ℕ). t ∷ drop (i + 1) (texts slices)) (get_or-map (λ (s : Bor (List ℕ)). s.now) slices i d [] below)

-- and of words
pub words_left : (words : List shown.Word) (i : ℕ) (d : shown.Word) → i < length words → drop i (words_of words) ≡ word_of (get_or words i d) ∷ drop (i + 1) (words_of words)
words_left words i d below =
    drop_more (words_of words) i (word_of d) (omega (arith, length-map words word_of))
    ∙ ap (λ (w : Word). w ∷ drop (i + 1) (words_of words)) (get_or-map word_of words i d (word_of d) below)

pub no_words_left : (words : List shown.Word) (i : ℕ) → length words ≤ i → drop i (words_of words) ≡ []
no_words_left words i above = drop_all i (words_of words) (omega (arith, length-map words word_of))

-- no bytes
abbrev pub no_slice : Bor (List ℕ)
no_slice = record { ref_ptr = (0, 0); now = [] }

-- a word without bytes
abbrev pub no_word : shown.Word
no_word = record { at = 0; bytes = no_slice }

-- tests of the first element decide, or leave it to the others
pub all_more : {A : Type 0} (p : A → Bool) (x : A) (xs : List A) → p x ≡ true → list_all p (x ∷ xs) ≡ list_all p xs
all_more p x xs passes = ap (λ b. b && list_all p xs) passes

pub all_not : {A : Type 0} (p : A → Bool) (x : A) (xs : List A) → p x ≡ false → list_all p (x ∷ xs) ≡ false
all_not p x xs fails = ap (λ b. b && list_all p xs) fails

pub any_more : {A : Type 0} (p : A → Bool) (x : A) (xs : List A) → p x ≡ false → list_any p (x ∷ xs) ≡ list_any p xs
any_more p x xs fails = ap (λ b. b || list_any p xs) fails

pub any_is : {A : Type 0} (p : A → Bool) (x : A) (xs : List A) → p x ≡ true → list_any p (x ∷ xs) ≡ true
any_is p x xs passes = ap (λ b. b || list_any p xs) passes

-- a test that all words pass, at one of them
pub word_passes : (p : Word → Bool) (words : List shown.Word) (i : ℕ) (d : shown.Word) → list_all p (words_of words) ≡ true → i < length words → p (word_of (get_or words i d)) ≡ true
word_passes p [] i d all below = absurd (omega arith)
word_passes p (w ∷ words) zero d all below = (and_parts (p (word_of w)) _ all).0
word_passes p (w ∷ words) (suc i) d all below = word_passes p words i d (and_parts (p (word_of w)) _ all).1 (omega arith)

-- a level, or the fault of a name that is no variable
pub level_fault : (o : Option ℕ) → or_fault kind.Variable o ≡ level_or o
level_fault None = refl
level_fault (Some level) = refl
