-- How many open asks an asker has.
use Rattle.std.proofs.Common.{◌≡◌, ◌≢◌, ℕ, ◌+◌, ◌≤◌, ◌∙◌, Bool, true, false, cond, List, [], ◌∷◌, refl, sym, ap, inl, inr, arith}
use Rattle.std.specs.Prelude.{◌==◌}
use Rattle.std.proofs.lemmas.List.Sums.{sum_by-cons}
use Rattle.std.proofs.lemmas.Bool.{eq-eqb, ne_eqb, eqb-true, eqb-false}
use Rattle.canon_file.specs.Members.{Has}
use Rattle.top_down_laws.specs.Remains.{Open, asks_by}

asks_first : (w : ℕ) (o : Open) (os : List Open)
    → asks_by w (o ∷ os) ≡ cond (o.asker == w) 1 0 + asks_by w os
asks_first w o os = sum_by-cons (λ (p : Open). cond (p.asker == w) 1 0) o os

pub asks_same : (w : ℕ) (o : Open) (os : List Open) → o.asker ≡ w
    → asks_by w (o ∷ os) ≡ 1 + asks_by w os
asks_same w o os is = asks_first w o os ∙ ap (λ b. cond b 1 0 + asks_by w os) (eq-eqb o.asker w is)

pub asks_other : (w : ℕ) (o : Open) (os : List Open) → o.asker ≢ w
    → asks_by w (o ∷ os) ≡ asks_by w os
asks_other w o os other =
    let first : asks_by w (o ∷ os) ≡ 0 + asks_by w os =
    asks_first w o os ∙ ap (λ b. cond b 1 0 + asks_by w os) (ne_eqb o.asker w other) in
    omega (arith, first)

asks_more : (w : ℕ) (o : Open) (os : List Open) → asks_by w os ≤ asks_by w (o ∷ os)
asks_more w o os = omega (arith, asks_first w o os)

pub has_asks : (o : Open) (os : List Open) → Has o os → 1 ≤ asks_by o.asker os
has_asks o [] m = absurd m
has_asks o (p ∷ os) (inl is) = omega (arith, asks_same o.asker p os (ap (λ (q : Open). q.asker) is))
has_asks o (p ∷ os) (inr m) = omega (arith, has_asks o os m, asks_more o.asker p os)

pub no_asks : (w : ℕ) (os : List Open) → ((o : Open) → Has o os → o.asker ≢ w) → asks_by w os ≡ 0
no_asks w [] none = refl
no_asks w (o ∷ os) none = asks_other w o os (none o (inl refl))
    ∙ no_asks w os (λ p m. none p (inr m))

-- where each asker has one ask at most, so it is without the first one, and no other is that
-- asker's
pub asks_rest : (o : Open) (os : List Open) → ((w : ℕ) → asks_by w (o ∷ os) ≤ 1) → (w : ℕ)
    → asks_by w os ≤ 1
asks_rest o os once w = omega (arith, once w, asks_more w o os)

pub other_asker : (o : Open) (os : List Open) → ((w : ℕ) → asks_by w (o ∷ os) ≤ 1) → (p : Open)
    → Has p os → p.asker ≢ o.asker
other_asker o os once p m = λ same.
    let here : 1 ≤ asks_by p.asker os = has_asks p os m in
    let both : asks_by p.asker (o ∷ os) ≡ 1 + asks_by p.asker os =
    asks_same p.asker o os (sym same) in
    omega (arith, here, both, once p.asker)

-- another ask of the same asker in place of the first one
pub asks_instead : (o p : Open) (os : List Open) → o.asker ≡ p.asker
    → ((w : ℕ) → asks_by w (o ∷ os) ≤ 1) → (w : ℕ) → asks_by w (p ∷ os) ≤ 1
asks_instead o p os same once w =
    let first : asks_by w (p ∷ os) ≡ asks_by w (o ∷ os) =
    asks_first w p os ∙ ap (λ a. cond (a == w) 1 0 + asks_by w os) (sym same)
    ∙ sym (asks_first w o os) in
    omega (arith, first, once w)

-- asks of an asker that has none
pub asks_added : (p : Open) (os : List Open) → ((o : Open) → Has o os → o.asker ≢ p.asker)
    → ((w : ℕ) → asks_by w os ≤ 1) → (w : ℕ) → asks_by w (p ∷ os) ≤ 1
asks_added p os none once w = by (p.asker == w) refl
  where
    by : (b : Bool) → (p.asker == w) ≡ b → asks_by w (p ∷ os) ≤ 1
    by true same =
        let is : p.asker ≡ w = eqb-true p.asker w same in
        omega (arith, asks_same w p os is, no_asks w os (λ o m e. none o m (e ∙ sym is)))
    by false other = omega (arith, asks_other w p os (eqb-false p.asker w other), once w)
