-- What a visit reaches.
use Rattle.std.proofs.Common.{◌≡◌, ℕ, zero, suc, ◌-◌, ◌<◌, true, false, List, [], ◌∷◌, length, get_or, ap, ◌∙◌, arith}
use Rattle.std.specs.List.{fold}
use Rattle.depth_first.specs.Graph.{edges_of, has, visit, visits}
use Rattle.depth_first.proofs.Descents.{visit_keeps, visit_sees}

-- steps that each keep a number keep it together
fold_keeps : (f : List ℕ → ℕ → List ℕ) (x : ℕ) → ((us : List ℕ) (t : ℕ) → has us x ≡ true → has (f us t) x ≡ true) → (us ts : List ℕ) → has us x ≡ true → has (fold f us ts) x ≡ true
fold_keeps f x step us [] h = h
fold_keeps f x step us (t ∷ ts) h = fold_keeps f x step (f us t) ts (step us t h)

fold_has : (d : ℕ) (g : List (List ℕ)) (us ts : List ℕ) (i : ℕ) → i < length ts → has (fold (λ vs t. visit (suc d) g vs t) us ts) (get_or ts i 0) ≡ true
fold_has d g us [] i b = absurd (omega arith)
fold_has d g us (t ∷ ts) zero b = fold_keeps (λ vs u. visit (suc d) g vs u) t (λ vs u. visit_keeps (suc d) g vs u t) (visit (suc d) g us t) ts (visit_sees d g us t)
fold_has d g us (t ∷ ts) (suc i) b = fold_has d g (visit (suc d) g us t) ts i (omega arith)

-- each root is visited
pub roots_visited : (g : List (List ℕ)) (roots : List ℕ) (i : ℕ) → i < length roots → get_or roots i 0 < length g → has (visits g roots) (get_or roots i 0) ≡ true
roots_visited g roots i b inside =
    let n : length g ≡ suc (length g - 1) = omega arith in
    ap (λ d. has (fold (λ us t. visit d g us t) [] roots) (get_or roots i 0)) n ∙ fold_has (length g - 1) g [] roots i b
