-- Which diagrams are live after a number of steps.
use Rattle.std.proofs.Common.{◌≡◌, ◌∙◌, ℕ, zero, suc, ◌+◌, ◌<◌, ◌≤◌, Bool, true, false, not, ◌||◌, List, [], ◌∷◌, ◌++◌, length, take, get_or, refl, sym, ap, subst, inl, inr, arith}
use Rattle.std.specs.Prelude.{IsTrue}
use Rattle.std.specs.List.{list_any}
use Rattle.std.proofs.lemmas.Bool.{and_parts, and_from, cases_lt}
use Rattle.std.proofs.lemmas.List.{take_more, length-take}
use Rattle.bool_tables.specs.declared.steps.Planned.{Planned}
use Rattle.bool_tables.specs.Plans.{is_live, is_diagram, drops, makes_diagram}

-- a diagram's number is that of one of the steps
diagram_within : (steps : List Planned) (s : ℕ) → IsTrue (is_diagram steps s) → s < length steps
diagram_within [] s h = absurd cc
diagram_within (p ∷ steps) zero h = omega arith
diagram_within (p ∷ steps) (suc s) h = omega (arith, diagram_within steps s h)

diagram_before : (xs ys : List Planned) (s : ℕ) → s < length xs → is_diagram (xs ++ ys) s ≡ is_diagram xs s
diagram_before [] ys s within = absurd (omega arith)
diagram_before (x ∷ xs) ys zero within = refl
diagram_before (x ∷ xs) ys (suc s) within = let less : s < length xs = omega arith in diagram_before xs ys s less

diagram_last : (xs : List Planned) (p : Planned) → is_diagram (xs ++ p ∷ []) (length xs) ≡ makes_diagram p.step
diagram_last [] p = refl
diagram_last (x ∷ xs) p = diagram_last xs p

-- a step that none of a list drops is dropped by none of its front
undropped_before : (test : Planned → Bool) (xs ys : List Planned) → IsTrue (not (list_any test (xs ++ ys))) → IsTrue (not (list_any test xs))
undropped_before test [] ys h = refl
undropped_before test (x ∷ xs) ys h = by_head (test x) (undropped_before test xs ys) h
  where
    by_head : (b : Bool) → (IsTrue (not (list_any test (xs ++ ys))) → IsTrue (not (list_any test xs))) → IsTrue (not (b || list_any test (xs ++ ys))) → IsTrue (not (b || list_any test xs))
    by_head true further k = k
    by_head false further k = further k

-- a diagram that is live after k steps is one of them
pub live_below : (steps : List Planned) (k s : ℕ) → IsTrue (is_live (take k steps) s) → s < k
live_below steps k s h =
    let within : s < length (take k steps) =
    diagram_within (take k steps) s (and_parts (is_diagram (take k steps) s) (not (list_any (λ (p : Planned). drops s p.step) (take k steps))) h).0 in
    omega (arith, within, length-take k steps)

-- it was live before the last of them, unless that made it
pub live_earlier : (steps : List Planned) (k s : ℕ) (d : Planned) → k < length steps → s < k → IsTrue (is_live (take (k + 1) steps) s) → IsTrue (is_live (take k steps) s)
live_earlier steps k s d within below h =
    let more : take (k + 1) steps ≡ take k steps ++ get_or steps k d ∷ [] = take_more steps k d within in
    let live : IsTrue (is_live (take k steps ++ get_or steps k d ∷ []) s) = subst (λ xs. IsTrue (is_live xs s)) more h in
    let inside : s < length (take k steps) = omega (arith, below, within, length-take k steps) in
    let test : Planned → Bool = λ p. drops s p.step in
    and_from (is_diagram (take k steps) s) (not (list_any test (take k steps)))
    (subst IsTrue (diagram_before (take k steps) (get_or steps k d ∷ []) s inside)
    (and_parts (is_diagram (take k steps ++ get_or steps k d ∷ []) s) (not (list_any test (take k steps ++ get_or steps k d ∷ []))) live).0)
    (undropped_before test (take k steps) (get_or steps k d ∷ [])
    (and_parts (is_diagram (take k steps ++ get_or steps k d ∷ []) s) (not (list_any test (take k steps ++ get_or steps k d ∷ []))) live).1)

-- so it was live behind fewer steps, where it is one of them
pub live_sooner : (steps : List Planned) (k c s : ℕ) (d : Planned) → k ≤ c → c ≤ length steps → s < k → IsTrue (is_live (take c steps) s) → IsTrue (is_live (take k steps) s)
live_sooner steps k zero s d fewer few below live = absurd (omega (arith, fewer, below))
live_sooner steps k (suc c) s d fewer few below live = elim (cases_lt c k) [
  | inl all ↦ let same : suc c ≡ k = omega (arith, all, fewer) in subst (λ j. IsTrue (is_live (take j steps) s)) same live
  | inr more ↦
      let last : c < length steps = omega (arith, few) in
      let next : suc c ≡ c + 1 = omega arith in
      live_sooner steps k c s d more (omega (arith, few)) below (live_earlier steps c s d last (omega (arith, below, more)) (subst (λ j. IsTrue (is_live (take j steps) s)) next live))
]

-- and the last one is live only where it makes a diagram
pub live_last : (steps : List Planned) (k : ℕ) (d : Planned) → k < length steps → IsTrue (is_live (take (k + 1) steps) k) → IsTrue (makes_diagram (get_or steps k d).step)
live_last steps k d within h =
    let more : take (k + 1) steps ≡ take k steps ++ get_or steps k d ∷ [] = take_more steps k d within in
    let size : length (take k steps) ≡ k = omega (arith, within, length-take k steps) in
    let live : IsTrue (is_live (take k steps ++ get_or steps k d ∷ []) k) = subst (λ xs. IsTrue (is_live xs k)) more h in
    let diagram : IsTrue (is_diagram (take k steps ++ get_or steps k d ∷ []) k) =
    (and_parts (is_diagram (take k steps ++ get_or steps k d ∷ []) k) (not (list_any (λ (p : Planned). drops k p.step) (take k steps ++ get_or steps k d ∷ []))) live).0 in
    subst IsTrue (ap (is_diagram (take k steps ++ get_or steps k d ∷ [])) (sym size) ∙ diagram_last (take k steps) (get_or steps k d)) diagram

-- what a list's last step drops isn't live behind it
pub live_undropped : (steps : List Planned) (k s : ℕ) (d : Planned) → k < length steps → IsTrue (drops s (get_or steps k d).step) → IsTrue (is_live (take (k + 1) steps) s) → ⊥
live_undropped steps k s d within dropped h =
    let more : take (k + 1) steps ≡ take k steps ++ get_or steps k d ∷ [] = take_more steps k d within in
    let live : IsTrue (is_live (take k steps ++ get_or steps k d ∷ []) s) = subst (λ xs. IsTrue (is_live xs s)) more h in
    none_drops (λ p. drops s p.step) (take k steps) (get_or steps k d) dropped
    (and_parts (is_diagram (take k steps ++ get_or steps k d ∷ []) s) (not (list_any (λ (p : Planned). drops s p.step) (take k steps ++ get_or steps k d ∷ []))) live).1
  where
    none_drops : (test : Planned → Bool) (xs : List Planned) (p : Planned) → IsTrue (test p) → IsTrue (not (list_any test (xs ++ p ∷ []))) → ⊥
    none_drops test [] p one none = by_test (test p) one none
      where
        by_test : (b : Bool) → IsTrue b → IsTrue (not (b || false)) → ⊥
        by_test true one none = cc
        by_test false one none = cc
    none_drops test (x ∷ xs) p one none = none_drops test xs p one (further (test x) none)
      where
        further : (b : Bool) → IsTrue (not (b || list_any test (xs ++ p ∷ []))) → IsTrue (not (list_any test (xs ++ p ∷ [])))
        further true none = absurd cc
        further false none = none
