-- Which steps may follow others, by the steps alone, without their names.
use Rattle.std.proofs.Common.{◌≡◌, ℕ, zero, suc, ◌<◌, ◌≤◌, Bool, true, false, not, ◌&&◌, ◌||◌, List, [], ◌∷◌, ◌++◌, length, nat_lt, refl, sym, ap, ◌∙◌, subst, arith, append_assoc, length-append}
use Rattle.std.specs.List.{list_all, list_any}
use Rattle.std.proofs.lemmas.Bool.{and_parts, and_from, not-true, not_from_false, or_from, true≢false, ne_eqb}
use Rattle.std.proofs.lemmas.List.{append-nil, map-append}
use Rattle.std.proofs.lemmas.List.Folds.{list_any-append}
use Rattle.bool_tables.specs.Plans.{makes_diagram, operands, levels_of, drops, is_diagram, is_live, has_bits, has_name, may_follow, all_may_follow}
use Rattle.bool_tables.specs.declared.steps.Step.{Step}
use Rattle.bool_tables.specs.declared.steps.Step.TheVariants.{Const, Var, Pair, Ite, Quantify, Restrict, Drop, Same, Leq, Eval, Size}
use Rattle.bool_tables.specs.declared.steps.Planned.{Planned}
use Rattle.net_plan.specs.Values.{steps_of}

-- the number is that of one of the steps, which makes a diagram
pub is_made : List Step → ℕ → Bool
is_made [] k = false
is_made (s ∷ ss) zero = makes_diagram s
is_made (s ∷ ss) (suc k) = is_made ss k

-- and none of the steps drops it
pub live : List Step → ℕ → Bool
live steps k = is_made steps k && not (list_any (drops k) steps)

-- a step may follow others
unfoldable pub follows : ℕ → List ℕ → List Step → Step → Bool
follows n text before s = (list_all (live before) (operands s) && list_all (λ level. nat_lt level n) (levels_of s)) && has_bits n text s

-- each of the steps may follow those before it
pub all_follow : ℕ → List ℕ → List Step → List Step → Bool
all_follow n text before [] = true
all_follow n text before (s ∷ ss) = follows n text before s && all_follow n text (before ++ s ∷ []) ss

-- names change nothing

is_diagram_is : (planned : List Planned) (k : ℕ) → is_diagram planned k ≡ is_made (steps_of planned) k
unfolding is_made
is_diagram_is [] k = refl
is_diagram_is (s ∷ ss) zero = refl
is_diagram_is (s ∷ ss) (suc k) = is_diagram_is ss k

drops_is : (planned : List Planned) (k : ℕ) → list_any (λ (s : Planned). drops k s.step) planned ≡ list_any (drops k) (steps_of planned)
drops_is [] k = refl
drops_is (s ∷ ss) k = ap (λ b. drops k s.step || b) (drops_is ss k)

pub live_is : (planned : List Planned) (k : ℕ) → is_live planned k ≡ live (steps_of planned) k
unfolding live
live_is planned k = ap (λ b. b && not (list_any (λ (s : Planned). drops k s.step) planned)) (is_diagram_is planned k) ∙ ap (λ b. is_made (steps_of planned) k && not b) (drops_is planned k)

all_same : (f g : ℕ → Bool) → ((k : ℕ) → f k ≡ g k) → (ks : List ℕ) → list_all f ks ≡ list_all g ks
all_same f g same [] = refl
all_same f g same (k ∷ ks) = ap (λ b. b && list_all f ks) (same k) ∙ ap (λ b. g k && b) (all_same f g same ks)

follows_is : (n : ℕ) (text : List ℕ) (before : List Planned) (s : Planned)
    → ((list_all (is_live before) (operands s.step) && list_all (λ level. nat_lt level n) (levels_of s.step)) && has_bits n text s.step) ≡ follows n text (steps_of before) s.step
unfolding follows
follows_is n text before s =
    ap (λ b. (b && list_all (λ level. nat_lt level n) (levels_of s.step)) && has_bits n text s.step) (all_same (is_live before) (live (steps_of before)) (live_is before) (operands s.step))

steps_push : (before : List Planned) (s : Planned) → steps_of (before ++ s ∷ []) ≡ steps_of before ++ s.step ∷ []
steps_push before s = map-append (λ (p : Planned). p.step) before (s ∷ [])

-- steps that may follow, with names that stand in the text
pub may_from : (n : ℕ) (text : List ℕ) (before planned : List Planned) → all_follow n text (steps_of before) (steps_of planned) ≡ true → list_all (has_name text) planned ≡ true → all_may_follow n text before planned ≡ true
unfolding all_follow
may_from n text before [] ok names = refl
may_from n text before (s ∷ ss) ok names =
    let here = and_parts (follows n text (steps_of before) s.step) _ ok in
    let named = and_parts (has_name text s) (list_all (has_name text) ss) names in
    let whole = follows_is n text before s ∙ here.0 in
    let split = and_parts (list_all (is_live before) (operands s.step) && list_all (λ level. nat_lt level n) (levels_of s.step)) (has_bits n text s.step) whole in
    and_from (may_follow n text before s) _ (and_from _ _ split.0 (and_from _ _ split.1 named.0))
    (may_from n text (before ++ s ∷ []) ss (ap (λ b. all_follow n text b (steps_of ss)) (steps_push before s) ∙ here.1) named.1)

pub follow_from : (n : ℕ) (text : List ℕ) (before planned : List Planned) → all_may_follow n text before planned ≡ true → all_follow n text (steps_of before) (steps_of planned) ≡ true
unfolding all_follow
follow_from n text before [] ok = refl
follow_from n text before (s ∷ ss) ok =
    let here = and_parts (may_follow n text before s) (all_may_follow n text (before ++ s ∷ []) ss) ok in
    let split = and_parts (list_all (is_live before) (operands s.step) && list_all (λ level. nat_lt level n) (levels_of s.step)) (has_bits n text s.step && has_name text s) here.0 in
    let bits = and_parts (has_bits n text s.step) (has_name text s) split.1 in
    and_from (follows n text (steps_of before) s.step) _ (sym (follows_is n text before s) ∙ and_from _ _ split.0 bits.0)
    (ap (λ b. all_follow n text b (steps_of ss)) (sym (steps_push before s)) ∙ follow_from n text (before ++ s ∷ []) ss here.1)

-- what one more step does

made_inside : (xs : List Step) (k : ℕ) → is_made xs k ≡ true → k < length xs
unfolding is_made
made_inside [] k h = absurd (true≢false (sym h))
made_inside (x ∷ xs) zero h = omega arith
made_inside (x ∷ xs) (suc k) h = omega (arith, made_inside xs k h)

made_on : (xs ys : List Step) (k : ℕ) → is_made xs k ≡ true → is_made (xs ++ ys) k ≡ true
unfolding is_made
made_on [] ys k h = absurd (true≢false (sym h))
made_on (x ∷ xs) ys zero h = h
made_on (x ∷ xs) ys (suc k) h = made_on xs ys k h

made_last : (xs : List Step) (s : Step) → is_made (xs ++ s ∷ []) (length xs) ≡ makes_diagram s
unfolding is_made
made_last [] s = refl
made_last (x ∷ xs) s = made_last xs s

pub live_inside : (xs : List Step) (k : ℕ) → live xs k ≡ true → k < length xs
unfolding live
live_inside xs k h = made_inside xs k (and_parts (is_made xs k) _ h).0

-- no step drops a number that isn't one of a step before it
pub IsBelow : List Step → Type 0
IsBelow xs = (k : ℕ) → length xs ≤ k → list_any (drops k) xs ≡ false

drops_live : (xs : List Step) (s : Step) (k : ℕ) → list_all (live xs) (operands s) ≡ true → length xs ≤ k → drops k s ≡ false
drops_live xs (Const v) k h b = refl
drops_live xs (Var l) k h b = refl
drops_live xs (Pair op l r) k h b = refl
drops_live xs (Ite t y z) k h b = refl
drops_live xs (Quantify q o l) k h b = refl
drops_live xs (Restrict o l v) k h b = refl
drops_live xs (Drop gone) k h b = ne_eqb gone k (λ e. let less : gone < length xs = live_inside xs gone (and_parts (live xs gone) true h).0 in absurd (omega arith))
drops_live xs (Same l r) k h b = refl
drops_live xs (Leq l r) k h b = refl
drops_live xs (Eval o a) k h b = refl
drops_live xs (Size o) k h b = refl

-- one more step
drops_push : (xs : List Step) (s : Step) (k : ℕ) → list_any (drops k) xs ≡ false → drops k s ≡ false → list_any (drops k) (xs ++ s ∷ []) ≡ false
drops_push xs s k h e = list_any-append (drops k) xs (s ∷ []) ∙ or_from (list_any (drops k) xs) (drops k s || false) h (or_from (drops k s) false e refl)

pub below_follows : (n : ℕ) (text : List ℕ) (base xs : List Step) → IsBelow base → all_follow n text base xs ≡ true → IsBelow (base ++ xs)
unfolding all_follow follows IsBelow
below_follows n text base [] below ok = subst IsBelow (sym (append-nil base)) below
below_follows n text base (x ∷ xs) below ok =
    let here = and_parts (follows n text base x) (all_follow n text (base ++ x ∷ []) xs) ok in
    let asked = and_parts (list_all (live base) (operands x) && list_all (λ level. nat_lt level n) (levels_of x)) (has_bits n text x) here.0 in
    let operand = and_parts (list_all (live base) (operands x)) (list_all (λ level. nat_lt level n) (levels_of x)) asked.0 in
    let next : IsBelow (base ++ x ∷ []) = λ k b.
    let longer : length base ≤ k = omega (arith, length-append base (x ∷ [])) in
    drops_push base x k (below k longer) (drops_live base x k operand.0 longer) in
    subst IsBelow (append_assoc base (x ∷ []) xs) (below_follows n text (base ++ x ∷ []) xs next here.1)

pub follow_push : (n : ℕ) (text : List ℕ) (base xs : List Step) (s : Step) → all_follow n text base xs ≡ true → follows n text (base ++ xs) s ≡ true → all_follow n text base (xs ++ s ∷ []) ≡ true
unfolding all_follow
follow_push n text base [] s ok h = and_from (follows n text base s) true (ap (λ b. follows n text b s) (sym (append-nil base)) ∙ h) refl
follow_push n text base (x ∷ xs) s ok h =
    let here = and_parts (follows n text base x) (all_follow n text (base ++ x ∷ []) xs) ok in
    and_from (follows n text base x) _ here.0 (follow_push n text (base ++ x ∷ []) xs s here.1 (ap (λ b. follows n text b s) (append_assoc base (x ∷ []) xs) ∙ h))

-- a live step stays live unless it is dropped
pub live_push : (xs : List Step) (s : Step) (k : ℕ) → live xs k ≡ true → drops k s ≡ false → live (xs ++ s ∷ []) k ≡ true
unfolding live
live_push xs s k h e =
    let parts = and_parts (is_made xs k) (not (list_any (drops k) xs)) h in
    and_from (is_made (xs ++ s ∷ []) k) _ (made_on xs (s ∷ []) k parts.0) (not_from_false _ (drops_push xs s k (not-true _ parts.1) e))

-- a step that makes a diagram is live
pub live_last : (xs : List Step) (s : Step) → IsBelow xs → makes_diagram s ≡ true → drops (length xs) s ≡ false → live (xs ++ s ∷ []) (length xs) ≡ true
unfolding live IsBelow
live_last xs s below made e =
    and_from (is_made (xs ++ s ∷ []) (length xs)) _ (made_last xs s ∙ made) (not_from_false _ (drops_push xs s (length xs) (below (length xs) (omega arith)) e))

pub below_none : IsBelow []
unfolding IsBelow
below_none = λ k b. refl

pub follow_none : (n : ℕ) (text : List ℕ) (base : List Step) → all_follow n text base [] ≡ true
unfolding all_follow
follow_none n text base = refl
