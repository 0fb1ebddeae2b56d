-- New walks, and what a walk over all nodes says.
use Rattle.std.proofs.Common.{◌≡◌, ℕ, zero, suc, ◌+◌, ◌-◌, ◌*◌, ◌<◌, ◌≤◌, true, false, List, [], ◌∷◌, length, get_or, take, replicate, min, sym, ap, ◌∙◌, subst, arith, ⊎_elim}
use Rattle.std.specs.List.{count_by, fold}
use Rattle.std.proofs.lemmas.List.{get_or-replicate, length-replicate, take_all, get_or-take, length-take}
use Rattle.std.proofs.Math.ListN.{get_or-eq_default}
use Rattle.std.proofs.lemmas.List.Folds.{sum_by-replicate}
use Rattle.std.proofs.lemmas.Bool.{cases_Bool, cases_lt}
use Rattle.depth_first.specs.declared.state.State.{State}
use Rattle.depth_first.specs.declared.state.State.TheVariants.{New}
use Rattle.depth_first.specs.declared.walk.Frame.{Frame}
use Rattle.depth_first.specs.Graph.{has, edges_of, IsGraph, IsAcyclic, IsTopological, NeverRises, FallsAt, Reaches, directly, through, visit}
use Rattle.depth_first.specs.Walk.{IsWalk, is_new, is_done}
use Rattle.depth_first.proofs.Frames.{has_last, has_still}
use Rattle.depth_first.proofs.Keeps.{before_or_last}
use Rattle.depth_first.proofs.Resumes.{visit_seen, visit_new}
use Rattle.depth_first.proofs.Searches.{has_where}

-- where every node is new
pub new_is_walk : (g : List (List ℕ)) (states : List State) (order : List ℕ) (stack : List Frame) (n : ℕ) → n ≡ length g → n < 4294967294 → states ≡ replicate n New → order ≡ [] → stack ≡ [] → IsWalk g states order stack
new_is_walk g states order stack n e small p o s =
    let read : (k : ℕ) → k < length g → get_or states k New ≡ New = λ k lt. ap (λ xs. get_or xs k New) p ∙ get_or-replicate n k New New (omega arith) in
    let counted : count_by is_new (replicate n New) ≡ n * 1 = sum_by-replicate _ n New in
    let counted2 : count_by is_new states ≡ n * 1 = ap (count_by is_new) p ∙ counted in
    rw (o, s) (record {
      size = ap length p ∙ length-replicate n New ∙ e;
      small = omega arith;
      tally = omega arith;
      nodes = λ q lt. absurd (omega arith);
      entered = λ q lt. absurd (omega arith);
      apart = λ p q less lt. absurd (omega arith);
      done = λ k lt. sym (ap is_done (read k lt));
      way = λ k lt on. let never : true ≡ false = ap is_new (sym (read k lt) ∙ on) in absurd (cc);
      past = λ q i lt. absurd (omega arith);
      chain = λ q lt. absurd (omega arith);
      links = λ q lt. absurd (omega arith);
      above = λ k i lt. absurd (omega arith);
      inside = λ k lt. absurd (omega arith);
    })

-- visits keep what each of them keeps
fold_keeps : (d : ℕ) (g : List (List ℕ)) (seen ts : List ℕ) (t : ℕ) → ((us : List ℕ) (s : ℕ) → has us t ≡ true → has (visit d g us s) t ≡ true) → has seen t ≡ true → has (fold (λ us s. visit d g us s) seen ts) t ≡ true
fold_keeps d g seen [] t keeps h = h
fold_keeps d g seen (x ∷ xs) t keeps h = fold_keeps d g (visit d g seen x) xs t keeps (keeps seen x h)

-- a visit keeps what was seen
pub visit_keeps : (d : ℕ) (g : List (List ℕ)) (seen : List ℕ) (s t : ℕ) → has seen t ≡ true → has (visit d g seen s) t ≡ true
unfolding visit
visit_keeps zero g seen s t h = h
visit_keeps (suc d) g seen s t h = ⊎_elim
    (λ (e : has seen s ≡ true). ap (λ us. has us t) (visit_seen (suc d) g seen s e) ∙ h)
    (λ (e : has seen s ≡ false). ap (λ us. has us t) (visit_new d g seen s e) ∙ has_still (fold (λ us u. visit d g us u) seen (edges_of g s)) s t (fold_keeps d g seen (edges_of g s) t (λ us u k. visit_keeps d g us u t k) h))
    (cases_Bool (has seen s))

-- a visit sees its node
pub visit_sees : (d : ℕ) (g : List (List ℕ)) (seen : List ℕ) (s : ℕ) → has (visit (suc d) g seen s) s ≡ true
visit_sees d g seen s = ⊎_elim
    (λ (e : has seen s ≡ true). ap (λ us. has us s) (visit_seen (suc d) g seen s e) ∙ e)
    (λ (e : has seen s ≡ false). ap (λ us. has us s) (visit_new d g seen s e) ∙ has_last (fold (λ us u. visit d g us u) seen (edges_of g s)) s)
    (cases_Bool (has seen s))

-- where each node stands behind those that it leads to, each of these stands before it
edge_before : (g : List (List ℕ)) (order : List ℕ) → IsTopological g order → (s u k : ℕ) → has (take k order) s ≡ true → has (edges_of g s) u ≡ true → (i : ℕ) × (i < k) × (has (take i order) u ≡ true)
edge_before g order above s u k h e =
    let p = has_where (take k order) s h in
    let i : ℕ = p.0 in
    let short : length (take k order) ≡ min k (length order) = length-take k order in
    let within : i < length (take k order) = p.1 in
    let here : get_or order i 0 ≡ s = sym (get_or-take k order i 0 (omega arith)) ∙ p.2 in
    let q = has_where (edges_of g s) u e in
    let less : q.0 < length (edges_of g (get_or order i 0)) = subst (λ v. q.0 < length (edges_of g v)) (sym here) q.1 in
    let there : has (take i order) (get_or (edges_of g (get_or order i 0)) q.0 0) ≡ true = above i q.0 (omega arith) less in
    (i, omega arith, subst (λ v. has (take i order) v ≡ true) (ap (λ v. get_or (edges_of g v) q.0 0) here ∙ q.2) there)

-- and so does what it reaches
pub descends : (g : List (List ℕ)) (order : List ℕ) → IsTopological g order → (s t : ℕ) → Reaches g s t → (k : ℕ) → has (take k order) s ≡ true → (j : ℕ) × (j < k) × (has (take j order) t ≡ true)
descends g order above s t (directly _ _ e) k h = edge_before g order above s t k h e
descends g order above s t (through _ u _ e way) k h =
    let b = edge_before g order above s u k h e in
    let r = descends g order above u t way b.0 b.2 in
    let one : r.0 < b.0 = r.1 in
    let two : b.0 < k = b.1 in
    (r.0, omega arith, r.2)

no_descent : (g : List (List ℕ)) (order : List ℕ) → IsTopological g order → (s : ℕ) → Reaches g s s → (n k : ℕ) → k ≤ n → has (take k order) s ≡ true → ⊥
no_descent g order above s way zero k le h =
    let r = descends g order above s s way k h in
    let one : r.0 < k = r.1 in
    absurd (omega arith)
no_descent g order above s way (suc n) k le h =
    let r = descends g order above s s way k h in
    let one : r.0 < k = r.1 in
    no_descent g order above s way n r.0 (omega arith) r.2

-- so no node of the order reaches itself
pub topological_acyclic : (g : List (List ℕ)) (order : List ℕ) → IsTopological g order → (s : ℕ) → has order s ≡ true → Reaches g s s → ⊥
topological_acyclic g order above s h way = no_descent g order above s way (length order) (length order) (omega arith) (ap (λ xs. has xs s) (take_all (length order) order (omega arith)) ∙ h)

-- what is no node of a graph leads nowhere
reaches_inside : (g : List (List ℕ)) (s t : ℕ) → Reaches g s t → s < length g
reaches_inside g s t way = ⊎_elim (λ (lt : s < length g). lt)
    (λ (le : length g ≤ s). absurd (nowhere (get_or-eq_default g [] le) way))
    (cases_lt s (length g)) where
      nowhere : edges_of g s ≡ [] → Reaches g s t → ⊥
      nowhere e (directly _ _ h) = let n : has [] t ≡ true = subst (λ es. has es t ≡ true) e h in absurd (cc)
      nowhere e (through _ u _ h w) = let n : has [] u ≡ true = subst (λ es. has es u ≡ true) e h in absurd (cc)

-- where every node was visited, none reaches itself
pub all_acyclic : (g : List (List ℕ)) (order : List ℕ) → IsTopological g order → ((s : ℕ) → s < length g → has order s ≡ true) → IsAcyclic g
all_acyclic g order above all s way = topological_acyclic g order above s (all s (reaches_inside g s s way)) way

-- one more root
pub sees_more : (g : List (List ℕ)) (order order2 : List ℕ) (root : ℕ) → root < length g → order2 ≡ visit (length g) g order root → ((s : ℕ) → s < root → has order s ≡ true) → (s : ℕ) → s < root + 1 → has order2 s ≡ true
sees_more g order order2 root inside e seen s lt =
    let d : ℕ = length g - 1 in
    let n : length g ≡ suc d = omega arith in
    ap (λ us. has us s) e ∙ ⊎_elim
    (λ (b : s < root). visit_keeps (length g) g order root s (seen s b))
    (λ (q : s ≡ root). ap (has (visit (length g) g order root)) q ∙ ap (λ m. has (visit m g order root) root) n ∙ visit_sees d g order root)
    (before_or_last s root lt)

-- where numbers never rise, what a node reaches has no larger number
rises_never : (g : List (List ℕ)) (numbers : List ℕ) → IsGraph g → NeverRises g numbers → (s t : ℕ) → s < length g → Reaches g s t → get_or numbers t 0 ≤ get_or numbers s 0
rises_never g numbers graph never s t inside (directly _ _ h) =
    let p = has_where (edges_of g s) t h in
    subst (λ u. get_or numbers u 0 ≤ get_or numbers s 0) p.2 (never s p.0 inside p.1)
rises_never g numbers graph never s t inside (through _ u _ h way) =
    let p = has_where (edges_of g s) u h in
    let u_inside : u < length g = subst (λ v. v < length g) p.2 (graph s p.0 inside p.1) in
    let first : get_or numbers u 0 ≤ get_or numbers s 0 = subst (λ v. get_or numbers v 0 ≤ get_or numbers s 0) p.2 (never s p.0 inside p.1) in
    let others : get_or numbers t 0 ≤ get_or numbers u 0 = rises_never g numbers graph never u t u_inside way in
    omega arith

-- and a node that they fall at doesn't reach itself
pub falls_away : (g : List (List ℕ)) (numbers : List ℕ) → IsGraph g → NeverRises g numbers → (s : ℕ) → s < length g → FallsAt g numbers s → Reaches g s s → ⊥
falls_away g numbers graph never s inside falls (directly _ _ h) =
    let p = has_where (edges_of g s) s h in
    let less : get_or numbers s 0 < get_or numbers s 0 = subst (λ u. get_or numbers u 0 < get_or numbers s 0) p.2 (falls p.0 p.1) in
    absurd (omega arith)
falls_away g numbers graph never s inside falls (through _ u _ h way) =
    let p = has_where (edges_of g s) u h in
    let u_inside : u < length g = subst (λ v. v < length g) p.2 (graph s p.0 inside p.1) in
    let first : get_or numbers u 0 < get_or numbers s 0 = subst (λ v. get_or numbers v 0 < get_or numbers s 0) p.2 (falls p.0 p.1) in
    let others : get_or numbers s 0 ≤ get_or numbers u 0 = rises_never g numbers graph never u s u_inside way in
    absurd (omega arith)
