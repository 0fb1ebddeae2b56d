-- The value that words begin with.
use Rattle.std.specs.Prelude.{◌≡◌, ℕ, List, take}
use Rattle.std.proofs.Common.{sym, ◌∙◌}

-- the first words are those of a value
pub record IsFront {A : Type 0} (count : ℕ) (words : A → List ℕ) (is_value : A → Type 0) (x : A) (carry : List ℕ)
    : Type 0 where
  pub value : is_value x
  pub words_are : words x ≡ take count carry

-- and of no other one
pub one_front : {A : Type 0} (count : ℕ) (words : A → List ℕ) (is_value : A → Type 0)
    → ((x y : A) → is_value x → is_value y → words x ≡ words y → x ≡ y) → (x y : A) (carry : List ℕ)
    → IsFront count words is_value x carry → IsFront count words is_value y carry → x ≡ y
one_front count words is_value differ x y carry a b = differ x y a.value b.value (a.words_are ∙ sym b.words_are)
