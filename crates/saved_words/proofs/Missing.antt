-- A value that may be missing, where its first word and those behind it are known.
use Rattle.std.specs.Prelude.{◌≡◌, ◌≢◌, ℕ, ◌+◌, List, [], ◌∷◌, get_or, replicate, Option, Some, None}
use Rattle.std.proofs.Common.{refl, sym, ap, ◌∙◌, arith}
use Rattle.saved_words.specs.Places.{next_words, moved}
use Rattle.saved_words.specs.Joined.{option_words, IsOption}
use Rattle.saved_words.specs.declared.words.Words.{Words}
use Rattle.saved_words.proofs.Placing.{split_words, next_both, no_later}

-- the first word of the next ones is the next word
first_word : (first word : ℕ) (xs : List ℕ) (n : ℕ) (o : Words) → word ∷ [] ≡ next_words 1 o
    → first ∷ xs ≡ next_words (1 + n) o → first ≡ word
first_word first word xs n o one all =
    ap (λ l. get_or l 0 0) ((split_words (first ∷ []) xs 1 n o refl all).0 ∙ sym one)

module _ {A : Type 0} (n : ℕ) (words : A → List ℕ) (is_value : A → Type 0) (o p : Words) (word : ℕ)
    (one : word ∷ [] ≡ next_words 1 o) (after : p ≡ moved 1 o) where
  -- none stands there by a word 0 and zeros
  pub none_stands : word ≡ 0 → next_words n p ≡ replicate n 0 → option_words n words None ≡ next_words (1 + n) o
  none_stands zeroth zeros =
      next_both (0 ∷ []) (replicate n 0) 1 n o p (ap (λ w. w ∷ []) (sym zeroth) ∙ one) after (sym zeros)

  -- a value stands there by a word 1 and its words
  pub some_stands : (x : A) → word ≡ 1 → words x ≡ next_words n p → option_words n words (Some x) ≡ next_words (1 + n) o
  some_stands x first value = next_both (1 ∷ []) (words x) 1 n o p (ap (λ w. w ∷ []) (sym first) ∙ one) after value

  -- neither stands there by a word 0 without zeros
  pub not_zeros : word ≡ 0 → next_words n p ≢ replicate n 0 → (x : Option A) → IsOption is_value x
      → option_words n words x ≢ next_words (1 + n) o
  not_zeros zeroth other None is = no_later (0 ∷ []) (replicate n 0) 1 n o p refl after (λ e. other (sym e))
  not_zeros zeroth other (Some x) is = λ all.
      let same : 1 ≡ word = first_word 1 word (words x) n o one all in
      absurd (omega (arith, same, zeroth))

  -- nor by a word 1 and no value's words
  pub not_value : word ≡ 1 → ((x : A) → is_value x → words x ≢ next_words n p) → (x : Option A) → IsOption is_value x
      → option_words n words x ≢ next_words (1 + n) o
  not_value first other None is = λ all.
      let same : 0 ≡ word = first_word 0 word (replicate n 0) n o one all in
      absurd (omega (arith, same, first))
  not_value first other (Some x) is = no_later (1 ∷ []) (words x) 1 n o p refl after (other x is)
