-- Steps that lead from tuples to the same tuples join as many.
use Rattle.std.proofs.Common.{◌≡◌, ◌∙◌, ℕ, zero, suc, ◌+◌, Bool, List, [], ◌∷◌, refl, ap, cond}
use Rattle.std.specs.List.{flat_map}
use Rattle.bool_tables.specs.declared.steps.Step.{Step}
use Rattle.step_work.specs.Tuples.{joins, tuples_below, split_tuples, tuples_from, tuple_count}

-- both lead to the same tuples of the next level
abbrev pub LeadAlike : Step → Step → Type 0
LeadAlike s t = (i h : ℕ) (pieces : List (List Bool)) → tuples_below s i h pieces ≡ tuples_below t i h pieces

same_from : (s t : Step) → LeadAlike s t → (h i : ℕ) (tuples : List (List (List Bool)))
    → tuples_from s i h tuples ≡ tuples_from t i h tuples
same_from s t alike zero i tuples = refl
same_from s t alike (suc h) i tuples =
    ap (λ k. split_tuples h tuples + k)
    (ap (tuples_from s (suc i) h) (λ j. flat_map (λ x. alike i h x j) tuples)
    ∙ same_from s t alike h (suc i) (flat_map (tuples_below t i h) tuples))

-- so they join as many
pub same_count : (s t : Step) → joins s ≡ joins t → LeadAlike s t → (n : ℕ) (tables : List (List Bool))
    → tuple_count n s tables ≡ tuple_count n t tables
unfolding tuple_count
same_count s t both alike n tables =
    (λ j. cond (both j) (tuples_from s 0 n (tables ∷ [])) 0)
    ∙ ap (λ k. cond (joins t) k 0) (same_from s t alike n 0 (tables ∷ []))
