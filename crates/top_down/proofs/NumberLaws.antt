-- the identifiers that a sweep uses, level by level
use Rattle.std.specs.Prelude.{◌≡◌, ◌⊎◌, ◌+◌, ◌*◌, ◌^◌, ◌<◌, ◌≤◌, ◌==◌, ℕ, suc, Bool, true, false, cond, List, [], ◌∷◌, length}
use Rattle.std.proofs.Common.{refl, sym, ◌∙◌, ap, subst, inl, inr, arith}
use Rattle.std.proofs.lemmas.Bool.Decides.{nat_tests}
use Rattle.rec_words.specs.Words.{node_word, level_of}
use Rattle.canon_file.specs.Members.{Has}
use Rattle.top_down.specs.Asks.{next_identifier, IsUpTo, AreNumbered}

-- the level of a new identifier's place, by whether the newest one has it
next_of : (r l : ℕ) → ((level_of r ≡ l) × (cond (level_of r == l) (suc r) (node_word l 0) ≡ suc r))
    ⊎ ((level_of r ≡ l → ⊥) × (cond (level_of r == l) (suc r) (node_word l 0) ≡ node_word l 0))
next_of r l = by (level_of r == l) refl
  where
    by : (b : Bool) → (level_of r == l) ≡ b → ((level_of r ≡ l) × (cond b (suc r) (node_word l 0) ≡ suc r))
        ⊎ ((level_of r ≡ l → ⊥) × (cond b (suc r) (node_word l 0) ≡ node_word l 0))
    by true e = inl (grind (arith, nat_tests), refl)
    by false e = inr (λ same. grind (arith, nat_tests), refl)

-- the next identifier is above the newest one
next_after : (r l : ℕ) → level_of r ≤ l → r < cond (level_of r == l) (suc r) (node_word l 0)
next_after r l up = elim (next_of r l) [
  | inl (same, next) ↦ omega (arith, next)
  | inr (other, next) ↦ above other next
]
  where
    above : (level_of r ≡ l → ⊥) → cond (level_of r == l) (suc r) (node_word l 0) ≡ node_word l 0 → r < cond (level_of r == l) (suc r) (node_word l 0)
    above other next = omega (arith, next)

-- each identifier is above those before it
pub newest_above : (s : ℕ) (used : List ℕ) → AreNumbered (s ∷ used) → (t : ℕ) → Has t used → t < s
newest_above s [] numbered t m = absurd m
newest_above s (r ∷ used) numbered t m =
    let last : r < s = omega (arith, next_after r (level_of s) numbered.1, numbered.0) in
    elim m [ inl e ↦ omega (arith, e) | inr k ↦ omega (arith, newest_above r used numbered.2 t k) ]

-- so is the next one
pub next_above : (used : List ℕ) (l : ℕ) → AreNumbered used → IsUpTo used l → (t : ℕ) → Has t used → t < next_identifier used l
next_above [] l numbered up t m = absurd m
next_above (r ∷ used) l numbered up t m =
    let last : r < next_identifier (r ∷ used) l = next_after r l up in
    elim m [ inl e ↦ omega (arith, e) | inr k ↦ omega (arith, newest_above r used numbered t k) ]

-- the number of the newest is less than the count
newest_few : (s : ℕ) (used : List ℕ) → AreNumbered (s ∷ used) → s < level_of s * 2 ^ 47 + length (s ∷ used)
newest_few s [] numbered = omega (arith, numbered.0)
newest_few s (r ∷ used) numbered = elim (next_of r (level_of s)) [
  | inl (same, next) ↦
      let few : r < level_of r * 2 ^ 47 + length (r ∷ used) = newest_few r used numbered.2 in
      omega (arith, numbered.0, next)
  | inr (other, next) ↦ omega (arith, numbered.0, next)
]

-- the next identifier has the level that it is for
pub next_level : (used : List ℕ) (l : ℕ) → AreNumbered used → length used < 2 ^ 47 → level_of (next_identifier used l) ≡ l
next_level [] l numbered few = omega arith
next_level (r ∷ used) l numbered few = elim (next_of r l) [
  | inl (same, next) ↦ omega (arith, newest_few r used numbered, next)
  | inr (other, next) ↦ omega (arith, next)
]

-- and is numbered as the others are
pub next_numbered : (used : List ℕ) (l : ℕ) → AreNumbered used → IsUpTo used l → length used < 2 ^ 47 → AreNumbered (next_identifier used l ∷ used)
next_numbered used l numbered up few =
    let at : level_of (next_identifier used l) ≡ l = next_level used l numbered few in
    (ap (next_identifier used) (sym at), subst (IsUpTo used) (sym at) up, numbered)

-- the first one has the number 0
pub first_level : (l : ℕ) → level_of (node_word l 0) ≡ l
first_level l = omega arith

pub first_numbered : (l : ℕ) → AreNumbered (node_word l 0 ∷ [])
first_numbered l = (ap (λ k. node_word k 0) (sym (first_level l)), tt, tt)

-- no number is left out: each that is less than a used identifier's on its level is used
newest_full : (s k : ℕ) (used : List ℕ) → AreNumbered (s ∷ used) → node_word (level_of s) k < s → Has (node_word (level_of s) k) used
newest_full s k [] numbered less = absurd (omega (arith, numbered.0))
newest_full s k (r ∷ used) numbered less = elim (next_of r (level_of s)) [
  | inl (same, next) ↦ elim (last r (node_word (level_of s) k) (omega (arith, numbered.0 ∙ next))) [
    | inl here ↦ inl here
    | inr before ↦ inr (subst (λ l. Has (node_word l k) used) same (newest_full r k used numbered.2 (subst (λ l. node_word l k < r) (sym same) before)))
  ]
  | inr (other, next) ↦ absurd (omega (arith, numbered.0, next))
]
  where
    last : (r w : ℕ) → w ≤ r → (r ≡ w) ⊎ (w < r)
    last r w most = by (r == w) refl
      where
        by : (b : Bool) → (r == w) ≡ b → (r ≡ w) ⊎ (w < r)
        by true e = inl (grind (arith, nat_tests))
        by false e = inr (grind (arith, nat_tests))

pub numbers_full : (used : List ℕ) → AreNumbered used → (s k : ℕ) → Has s used → node_word (level_of s) k < s → Has (node_word (level_of s) k) used
numbers_full [] numbered s k m less = absurd m
numbers_full (r ∷ used) numbered s k (inl e) less =
    inr (subst (λ t. Has (node_word (level_of t) k) used) e (newest_full r k used numbered (subst (λ t. node_word (level_of t) k < t) (sym e) less)))
numbers_full (r ∷ used) numbered s k (inr m) less = inr (numbers_full used numbered.2 s k m less)
