-- The words of numbers, truth values, pointers and file numbers, and their laws.
use Rattle.std.specs.Prelude.{◌≡◌, ℕ, zero, suc, ◌<◌, ◌^◌, Bool, true, false, List, [], ◌∷◌, All, length, get_or, refl}
use Rattle.std.proofs.Common.{ap, arith, inl}
use Rattle.shelf_model.specs.declared.file_no.FileNo.{FileNo}
use Rattle.rec_words.specs.Words.{IsPointer, IsNodeWord}
use Rattle.rec_words.specs.RecordLaws.{pointer_fits}

-- a number is its word
abbrev pub one_word : ℕ → List ℕ
one_word x = x ∷ []

-- of 64 bits
abbrev pub IsWord : ℕ → Type 0
IsWord x = x < 2 ^ 64

-- of 32 bits
abbrev pub IsHalf : ℕ → Type 0
IsHalf x = x < 2 ^ 32

-- a truth value is the word 0 or 1
abbrev pub bit_word : Bool → List ℕ
bit_word false = 0 ∷ []
bit_word true = 1 ∷ []

-- either value
abbrev pub IsBit : Bool → Type 0
IsBit b = Unit

-- a file number is its step and its part
abbrev pub file_words : FileNo → List ℕ
file_words f = f.step ∷ f.part ∷ []

-- a step of 32 bits, and a part of 64
pub record IsFileNo (f : FileNo) : Type 0 where
  pub step : f.step < 2 ^ 32
  pub part : f.part < 2 ^ 64

-- one word has one place
pub one_fits : (x : ℕ) → x < 2 ^ 64 → All (λ word. word < 2 ^ 64) (x ∷ [])
one_fits x is zero d b = is
one_fits x is (suc k) d b = absurd (omega (arith, b))

pub one_differs : (x y : ℕ) → one_word x ≡ one_word y → x ≡ y
one_differs x y same = ap (λ xs. get_or xs 0 0) same

pub word_long : (x : ℕ) → IsWord x → length (one_word x) ≡ 1
word_long x is = refl

pub word_fits : (x : ℕ) → IsWord x → All (λ word. word < 2 ^ 64) (one_word x)
word_fits x is = one_fits x is

pub word_differs : (x y : ℕ) → IsWord x → IsWord y → one_word x ≡ one_word y → x ≡ y
word_differs x y a b same = one_differs x y same

pub half_long : (x : ℕ) → IsHalf x → length (one_word x) ≡ 1
half_long x is = refl

pub half_fits : (x : ℕ) → IsHalf x → All (λ word. word < 2 ^ 64) (one_word x)
half_fits x is = one_fits x (omega (arith, is))

pub half_differs : (x y : ℕ) → IsHalf x → IsHalf y → one_word x ≡ one_word y → x ≡ y
half_differs x y a b same = one_differs x y same

pub bit_long : (b : Bool) → IsBit b → length (bit_word b) ≡ 1
bit_long false is = refl
bit_long true is = refl

pub bit_fits : (b : Bool) → IsBit b → All (λ word. word < 2 ^ 64) (bit_word b)
bit_fits false is = one_fits 0 (omega arith)
bit_fits true is = one_fits 1 (omega arith)

pub bit_differs : (a b : Bool) → IsBit a → IsBit b → bit_word a ≡ bit_word b → a ≡ b
bit_differs false false x y same = refl
bit_differs false true x y same = let e : 0 ≡ 1 = one_differs 0 1 same in absurd (omega (arith, e))
bit_differs true false x y same = let e : 1 ≡ 0 = one_differs 1 0 same in absurd (omega (arith, e))
bit_differs true true x y same = refl

pub pointer_long : (x : ℕ) → IsPointer x → length (one_word x) ≡ 1
pointer_long x is = refl

pub pointer_word_fits : (x : ℕ) → IsPointer x → All (λ word. word < 2 ^ 64) (one_word x)
pointer_word_fits x is = one_fits x (pointer_fits x is)

pub pointer_differs : (x y : ℕ) → IsPointer x → IsPointer y → one_word x ≡ one_word y → x ≡ y
pointer_differs x y a b same = one_differs x y same

pub node_long : (x : ℕ) → IsNodeWord x → length (one_word x) ≡ 1
node_long x is = refl

pub node_word_fits : (x : ℕ) → IsNodeWord x → All (λ word. word < 2 ^ 64) (one_word x)
node_word_fits x is = one_fits x (pointer_fits x (inl is))

pub node_differs : (x y : ℕ) → IsNodeWord x → IsNodeWord y → one_word x ≡ one_word y → x ≡ y
node_differs x y a b same = one_differs x y same

pub file_long : (f : FileNo) → IsFileNo f → length (file_words f) ≡ 2
file_long f is = refl

pub file_fits : (f : FileNo) → IsFileNo f → All (λ word. word < 2 ^ 64) (file_words f)
file_fits f is zero d b = let step : f.step < 2 ^ 32 = is.step in omega (arith, step)
file_fits f is (suc zero) d b = is.part
file_fits f is (suc (suc k)) d b = absurd (omega (arith, b))

pub file_differs : (f g : FileNo) → IsFileNo f → IsFileNo g → file_words f ≡ file_words g → f ≡ g
file_differs f g a b same = λ i. record { step = get_or (same i) 0 0; part = get_or (same i) 1 0 }
