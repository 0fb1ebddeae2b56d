-- A graph without cycles is visited without repeats.
use Rattle.std.proofs.Common.{◌≡◌, ◌⊎◌, inl, inr, ⊎_elim, ℕ, zero, suc, ◌==◌, true, false, List, [], ◌∷◌, ◌++◌, length, refl, sym, ap, ◌∙◌, subst}
use Rattle.std.specs.List.{fold}
use Rattle.std.proofs.lemmas.Bool.{cases_Bool, eqb-true, or_cases, or_parts, or_from, false_from_ne_true, true≢false, ne_eqb, eqb-false}
use Rattle.depth_first.specs.Graph.{edges_of, has, Reaches, IsAcyclic, visit, visits}
use Rattle.depth_first.proofs.Frames.{has_push}
use Rattle.depth_first.proofs.Resumes.{visit_seen, visit_new}
use Rattle.net_plan.proofs.Blocks.{has_head, has_tail}

-- no number stands twice
pub IsDistinct : List ℕ → Type 0
IsDistinct [] = Unit {0}
IsDistinct (x ∷ xs) = (has xs x ≡ false) × IsDistinct xs

pub distinct_head : (x : ℕ) (xs : List ℕ) → IsDistinct (x ∷ xs) → has xs x ≡ false
unfolding IsDistinct
distinct_head x xs d = d.0

pub distinct_rest : (x : ℕ) (xs : List ℕ) → IsDistinct (x ∷ xs) → IsDistinct xs
unfolding IsDistinct
distinct_rest x xs d = d.1

distinct_push : (xs : List ℕ) (s : ℕ) → IsDistinct xs → has xs s ≡ false → IsDistinct (xs ++ s ∷ [])
unfolding IsDistinct
distinct_push [] s d h = (refl, tt)
distinct_push (x ∷ xs) s d h =
    let parts = or_parts (x == s) (has xs s) h in
    let other : (s == x) ≡ false = ne_eqb s x (λ e. eqb-false x s parts.0 (sym e)) in
    (has_push xs s x ∙ or_from (has xs x) (s == x) d.0 other, distinct_push xs s d.1 parts.1)

-- what a visit adds is the node or can be reached from it
Found : List (List ℕ) → List ℕ → ℕ → ℕ → Type 0
Found g seen t x = (has seen x ≡ true) ⊎ ((x ≡ t) ⊎ Reaches g t x)

-- what visits of nodes add is one of these or can be reached from one
FoundAmong : List (List ℕ) → List ℕ → List ℕ → ℕ → Type 0
FoundAmong g seen ts x = (has seen x ≡ true) ⊎ ((t : ℕ) × (has ts t ≡ true) × ((x ≡ t) ⊎ Reaches g t x))

fold_finds : (g : List (List ℕ)) (f : List ℕ → ℕ → List ℕ) (x : ℕ) → ((us : List ℕ) (t : ℕ) → has (f us t) x ≡ true → Found g us t x) → (us ts : List ℕ) → has (fold f us ts) x ≡ true → FoundAmong g us ts x
unfolding Found FoundAmong
fold_finds g f x one us [] h = inl h
fold_finds g f x one us (t ∷ ts) h =
    ⊎_elim
    (λ (a : has (f us t) x ≡ true). ⊎_elim
    (λ (b : has us x ≡ true). inl b)
    (λ (b : (x ≡ t) ⊎ Reaches g t x). inr (t, has_head t ts, b))
    (one us t a))
    (λ (a : (u : ℕ) × (has ts u ≡ true) × ((x ≡ u) ⊎ Reaches g u x)). inr (a.0, has_tail t ts a.0 a.1, a.2))
    (fold_finds g f x one (f us t) ts h)

visit_finds : (d : ℕ) (g : List (List ℕ)) (seen : List ℕ) (t x : ℕ) → has (visit d g seen t) x ≡ true → Found g seen t x
unfolding visit Found FoundAmong
visit_finds zero g seen t x h = inl h
visit_finds (suc d) g seen t x h =
    ⊎_elim
    (λ (e : has seen t ≡ true). inl (ap (λ us. has us x) (sym (visit_seen (suc d) g seen t e)) ∙ h))
    (λ (e : has seen t ≡ false).
    let before : List ℕ = fold (λ us u. visit d g us u) seen (edges_of g t) in
    ⊎_elim
    (λ (a : has before x ≡ true). ⊎_elim
    (λ (b : has seen x ≡ true). inl b)
    (λ (b : (u : ℕ) × (has (edges_of g t) u ≡ true) × ((x ≡ u) ⊎ Reaches g u x)). inr (inr (⊎_elim
    (λ (c : x ≡ b.0). subst (λ y. Reaches g t y) (sym c) (Reaches.directly t b.0 b.1))
    (λ (c : Reaches g b.0 x). Reaches.through t b.0 x b.1 c)
    b.2)))
    (fold_finds g (λ us u. visit d g us u) x (λ us u. visit_finds d g us u x) seen (edges_of g t) a))
    (λ (a : (t == x) ≡ true). inr (inl (sym (eqb-true t x a))))
    (or_cases (has before x) (t == x) (sym (has_push before t x) ∙ ap (λ us. has us x) (sym (visit_new d g seen t e)) ∙ h)))
    (cases_Bool (has seen t))

fold_distinct : (f : List ℕ → ℕ → List ℕ) → ((us : List ℕ) (t : ℕ) → IsDistinct us → IsDistinct (f us t)) → (us ts : List ℕ) → IsDistinct us → IsDistinct (fold f us ts)
fold_distinct f one us [] d = d
fold_distinct f one us (t ∷ ts) d = fold_distinct f one (f us t) ts (one us t d)

visit_distinct : (d : ℕ) (g : List (List ℕ)) → IsAcyclic g → (seen : List ℕ) (s : ℕ) → IsDistinct seen → IsDistinct (visit d g seen s)
unfolding visit FoundAmong
visit_distinct zero g acyclic seen s u = u
visit_distinct (suc d) g acyclic seen s u =
    ⊎_elim
    (λ (e : has seen s ≡ true). subst IsDistinct (sym (visit_seen (suc d) g seen s e)) u)
    (λ (e : has seen s ≡ false).
    let before : List ℕ = fold (λ us t. visit d g us t) seen (edges_of g s) in
    let fresh : has before s ≡ false = false_from_ne_true (has before s) (λ h. ⊎_elim
    (λ (a : has seen s ≡ true). true≢false (sym a ∙ e))
    (λ (a : (t : ℕ) × (has (edges_of g s) t ≡ true) × ((s ≡ t) ⊎ Reaches g t s)). acyclic s (⊎_elim
    (λ (c : s ≡ a.0). subst (λ y. Reaches g s y) (sym c) (Reaches.directly s a.0 a.1))
    (λ (c : Reaches g a.0 s). Reaches.through s a.0 s a.1 c)
    a.2))
    (fold_finds g (λ us t. visit d g us t) s (λ us t. visit_finds d g us t s) seen (edges_of g s) h)) in
    subst IsDistinct (sym (visit_new d g seen s e)) (distinct_push before s (fold_distinct (λ us t. visit d g us t) (λ us t. visit_distinct d g acyclic us t) seen (edges_of g s) u) fresh))
    (cases_Bool (has seen s))

pub visits_distinct : (g : List (List ℕ)) (roots : List ℕ) → IsAcyclic g → IsDistinct (visits g roots)
unfolding IsDistinct
visits_distinct g roots acyclic = fold_distinct (λ us t. visit (length g) g us t) (λ us t. visit_distinct (length g) g acyclic us t) [] roots tt
