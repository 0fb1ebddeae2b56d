-- The words of a value that may be missing, and of two values, and their laws.
use Rattle.std.specs.Prelude.{◌≡◌, ℕ, ◌+◌, ◌<◌, ◌^◌, List, ◌∷◌, ◌++◌, All, length, get_or, replicate, take, drop}
use Rattle.std.specs.Prelude.{Option, Some, None}
use Rattle.std.proofs.Common.{refl, sym, ap, ◌∙◌, arith}
use Rattle.std.proofs.lemmas.List.{length-append, length-replicate, take_at, drop_at}
use Rattle.std.proofs.lemmas.List.Elements.{All-cons, All-append, All-replicate}

-- a word 0 and zeros, or a word 1 and the words of the value
abbrev pub option_words : {A : Type 0} → ℕ → (A → List ℕ) → Option A → List ℕ
option_words n words None = 0 ∷ replicate n 0
option_words n words (Some x) = 1 ∷ words x

-- none, or one that is a value
abbrev pub IsOption : {A : Type 0} → (A → Type 0) → Option A → Type 0
IsOption is_value None = Unit
IsOption is_value (Some x) = is_value x

-- the words of the one, and then those of the other
abbrev pub pair_words : {A B : Type 0} → (A → List ℕ) → (B → List ℕ) → A × B → List ℕ
pair_words first second p = first p.0 ++ second p.1

-- both are values
abbrev pub IsPair : {A B : Type 0} → (A → Type 0) → (B → Type 0) → A × B → Type 0
IsPair first second p = first p.0 × second p.1

module _ {A : Type 0} (n : ℕ) (words : A → List ℕ) (is_value : A → Type 0)
    (long : (x : A) → is_value x → length (words x) ≡ n) where
  pub option_long : (o : Option A) → IsOption is_value o → length (option_words n words o) ≡ 1 + n
  option_long None is = let e : length (replicate {A = ℕ} n 0) ≡ n = length-replicate n 0 in omega (arith, e)
  option_long (Some x) is = omega (arith, long x is)

  pub option_fits : ((x : A) → is_value x → All (λ word. word < 2 ^ 64) (words x)) → (o : Option A)
      → IsOption is_value o → All (λ word. word < 2 ^ 64) (option_words n words o)
  option_fits fits None is = All-cons (λ word. word < 2 ^ 64) 0 (replicate n 0) (omega arith)
      (All-replicate (λ word. word < 2 ^ 64) n 0 (omega arith))
  option_fits fits (Some x) is = All-cons (λ word. word < 2 ^ 64) 1 (words x) (omega arith) (fits x is)

  pub option_differs : ((x y : A) → is_value x → is_value y → words x ≡ words y → x ≡ y) → (o p : Option A)
      → IsOption is_value o → IsOption is_value p → option_words n words o ≡ option_words n words p → o ≡ p
  option_differs one None None a b same = refl
  option_differs one None (Some y) a b same = let e : 0 ≡ 1 = ap (λ xs. get_or xs 0 0) same in absurd (omega (arith, e))
  option_differs one (Some x) None a b same = let e : 1 ≡ 0 = ap (λ xs. get_or xs 0 0) same in absurd (omega (arith, e))
  option_differs one (Some x) (Some y) a b same = ap Some (one x y a b (ap (drop 1) same))

module _ {A B : Type 0} (n m : ℕ) (first : A → List ℕ) (second : B → List ℕ) (is_first : A → Type 0)
    (is_second : B → Type 0)
    (long_first : (x : A) → is_first x → length (first x) ≡ n)
    (long_second : (y : B) → is_second y → length (second y) ≡ m) where
  pub pair_long : (p : A × B) → IsPair is_first is_second p → length (pair_words first second p) ≡ n + m
  pair_long p is = length-append (first p.0) (second p.1) ∙ (λ i. long_first p.0 is.0 i + long_second p.1 is.1 i)

  pub pair_fits : ((x : A) → is_first x → All (λ word. word < 2 ^ 64) (first x))
      → ((y : B) → is_second y → All (λ word. word < 2 ^ 64) (second y))
      → (p : A × B) → IsPair is_first is_second p → All (λ word. word < 2 ^ 64) (pair_words first second p)
  pair_fits a b p is = All-append (λ word. word < 2 ^ 64) (first p.0) (second p.1) (a p.0 is.0) (b p.1 is.1)

  pub pair_differs : ((x y : A) → is_first x → is_first y → first x ≡ first y → x ≡ y)
      → ((x y : B) → is_second x → is_second y → second x ≡ second y → x ≡ y)
      → (p q : A × B) → IsPair is_first is_second p → IsPair is_first is_second q
      → pair_words first second p ≡ pair_words first second q → p ≡ q
  pair_differs a b p q x y same =
      let one : first p.0 ≡ first q.0 = sym (take_at (first p.0) (second p.1) n (long_first p.0 x.0))
      ∙ ap (take n) same ∙ take_at (first q.0) (second q.1) n (long_first q.0 y.0) in
      let two : second p.1 ≡ second q.1 = sym (drop_at (first p.0) (second p.1) n (long_first p.0 x.0))
      ∙ ap (drop n) same ∙ drop_at (first q.0) (second q.1) n (long_first q.0 y.0) in
      λ i. (a p.0 q.0 x.0 y.0 one i, b p.1 q.1 x.1 y.1 two i)
