-- What is still visited, step by step.
use Rattle.std.proofs.Common.{◌≡◌, ℕ, zero, suc, ◌+◌, ◌-◌, ◌<◌, ◌≤◌, true, false, List, [], ◌∷◌, ◌++◌, length, get_or, drop, refl, sym, ap, ◌∙◌, cond, append_assoc, arith}
use Rattle.std.proofs.lemmas.List.{append-nil, drop_all}
use Rattle.std.proofs.Math.Seq.{drop-cons}
use Rattle.std.specs.List.{fold}
use Rattle.depth_first.specs.declared.walk.Frame.{Frame}
use Rattle.depth_first.specs.Graph.{has, edges_of, visit}
use Rattle.depth_first.specs.Walk.{resumed}
use Rattle.depth_first.proofs.Frames.{has_last}

-- a node that was visited adds nothing
pub visit_seen : (d : ℕ) (g : List (List ℕ)) (seen : List ℕ) (s : ℕ) → has seen s ≡ true → visit d g seen s ≡ seen
unfolding visit
visit_seen zero g seen s h = refl
visit_seen (suc d) g seen s h = ap (λ b. cond b seen (fold (λ us t. visit d g us t) seen (edges_of g s) ++ s ∷ [])) h

-- a new node stands behind those that it leads to
pub visit_new : (d : ℕ) (g : List (List ℕ)) (seen : List ℕ) (s : ℕ) → has seen s ≡ false → visit (suc d) g seen s ≡ fold (λ us t. visit d g us t) seen (edges_of g s) ++ s ∷ []
unfolding visit
visit_new d g seen s h = ap (λ b. cond b seen (fold (λ us t. visit d g us t) seen (edges_of g s) ++ s ∷ [])) h

-- where no frame is left, nothing is added
pub resumed_none : (d : ℕ) (g : List (List ℕ)) (seen : List ℕ) → resumed d g [] seen ≡ seen
unfolding resumed
resumed_none zero g seen = refl
resumed_none (suc d) g seen = refl

resumed_one : (d : ℕ) (g : List (List ℕ)) (f : Frame) (fs : List Frame) (seen : List ℕ) → resumed (suc d) g (f ∷ fs) seen ≡ fold (λ us t. visit d g us t) (resumed d g fs seen) (drop f.next (edges_of g f.node)) ++ f.node ∷ []
unfolding resumed
resumed_one d g f fs seen = refl

-- what the last frames add decides what all add
resumed_front : (g : List (List ℕ)) (fs xs ys : List Frame) (seen later : List ℕ) (d e : ℕ) → d ≡ length fs + e → resumed e g xs seen ≡ resumed e g ys later → resumed d g (fs ++ xs) seen ≡ resumed d g (fs ++ ys) later
unfolding resumed
resumed_front g [] xs ys seen later d e n h = let k : d ≡ e = omega arith in rw k h
resumed_front g (f ∷ fs) xs ys seen later zero e n h = absurd (omega arith)
resumed_front g (f ∷ fs) xs ys seen later (suc d) e n h =
    ap (λ us. fold (λ vs t. visit d g vs t) us (drop f.next (edges_of g f.node)) ++ f.node ∷ []) (resumed_front g fs xs ys seen later d e (omega arith) h)

next_edge : (es : List ℕ) (i t : ℕ) → i < length es → get_or es i 0 ≡ t → drop i es ≡ t ∷ drop (i + 1) es
next_edge es i t lt e = let k : suc i ≡ i + 1 = omega arith in drop-cons es i 0 lt ∙ ap (λ u. u ∷ drop (suc i) es) e ∙ ap (λ j. t ∷ drop j es) k

-- a frame whose edges were followed
pub resumed_leaves : (d : ℕ) (g : List (List ℕ)) (fs : List Frame) (f : Frame) (seen : List ℕ) → length fs < d → length (edges_of g f.node) ≤ f.next → resumed d g fs (seen ++ f.node ∷ []) ≡ resumed d g (fs ++ f ∷ []) seen
resumed_leaves d g fs f seen lt full =
    let e : ℕ = d - length fs - 1 in
    let n : d ≡ length fs + suc e = omega arith in
    let none : drop f.next (edges_of g f.node) ≡ [] = drop_all f.next (edges_of g f.node) full in
    let one : resumed (suc e) g (f ∷ []) seen ≡ seen ++ f.node ∷ [] =
    resumed_one e g f [] seen ∙ ap (λ ts. fold (λ us t. visit e g us t) (resumed e g [] seen) ts ++ f.node ∷ []) none ∙ ap (λ us. us ++ f.node ∷ []) (resumed_none e g seen) in
    ap (λ gs. resumed d g gs (seen ++ f.node ∷ [])) (sym (append-nil fs)) ∙ resumed_front g fs [] (f ∷ []) (seen ++ f.node ∷ []) seen d (suc e) n (resumed_none (suc e) g (seen ++ f.node ∷ []) ∙ sym one)

-- an edge to a node that was visited
pub resumed_follows : (d : ℕ) (g : List (List ℕ)) (fs : List Frame) (f : Frame) (seen : List ℕ) (t : ℕ) → length fs < d → f.next < length (edges_of g f.node) → get_or (edges_of g f.node) f.next 0 ≡ t → has seen t ≡ true
    → resumed d g (fs ++ record { node = f.node; next = f.next + 1 } ∷ []) seen ≡ resumed d g (fs ++ f ∷ []) seen
resumed_follows d g fs f seen t lt more leads gone =
    let h : Frame = record { node = f.node; next = f.next + 1 } in
    let e : ℕ = d - length fs - 1 in
    let n : d ≡ length fs + suc e = omega arith in
    let split : drop f.next (edges_of g f.node) ≡ t ∷ drop (f.next + 1) (edges_of g f.node) = next_edge (edges_of g f.node) f.next t more leads in
    let one : resumed (suc e) g (f ∷ []) seen ≡ fold (λ us s. visit e g us s) (visit e g (resumed e g [] seen) t) (drop (f.next + 1) (edges_of g f.node)) ++ f.node ∷ [] =
    resumed_one e g f [] seen ∙ ap (λ ts. fold (λ us s. visit e g us s) (resumed e g [] seen) ts ++ f.node ∷ []) split in
    let same : visit e g (resumed e g [] seen) t ≡ resumed e g [] seen = visit_seen e g (resumed e g [] seen) t (ap (λ us. has us t) (resumed_none e g seen) ∙ gone) in
    let two : resumed (suc e) g (h ∷ []) seen ≡ resumed (suc e) g (f ∷ []) seen =
    resumed_one e g h [] seen ∙ sym (one ∙ ap (λ us. fold (λ vs s. visit e g vs s) us (drop (f.next + 1) (edges_of g f.node)) ++ f.node ∷ []) same) in
    resumed_front g fs (h ∷ []) (f ∷ []) seen seen d (suc e) n two

-- a new node, from which the way goes on
pub resumed_root : (d : ℕ) (g : List (List ℕ)) (seen : List ℕ) (t : ℕ) → has seen t ≡ false → resumed (suc d) g (record { node = t; next = 0 } ∷ []) seen ≡ visit (suc d) g seen t
resumed_root d g seen t fresh =
    resumed_one d g (record { node = t; next = 0 }) [] seen ∙ ap (λ us. fold (λ vs s. visit d g vs s) us (edges_of g t) ++ t ∷ []) (resumed_none d g seen) ∙ sym (visit_new d g seen t fresh)

pub resumed_enters : (d : ℕ) (g : List (List ℕ)) (fs : List Frame) (f : Frame) (seen : List ℕ) (t : ℕ) → length fs + 1 < d → f.next < length (edges_of g f.node) → get_or (edges_of g f.node) f.next 0 ≡ t → has seen t ≡ false
    → resumed d g ((fs ++ f ∷ []) ++ record { node = t; next = 0 } ∷ []) seen ≡ resumed d g (fs ++ f ∷ []) seen
resumed_enters d g fs f seen t lt more leads fresh =
    let h : Frame = record { node = t; next = 0 } in
    let e : ℕ = d - length fs - 2 in
    let n : d ≡ length fs + suc (suc e) = omega arith in
    let rest : List ℕ = drop (f.next + 1) (edges_of g f.node) in
    let split : drop f.next (edges_of g f.node) ≡ t ∷ rest = next_edge (edges_of g f.node) f.next t more leads in
    let inner : List ℕ = resumed (suc e) g (h ∷ []) seen in
    let new : inner ≡ visit (suc e) g seen t = resumed_root e g seen t fresh in
    let ends : inner ≡ fold (λ us s. visit e g us s) seen (edges_of g t) ++ t ∷ [] = new ∙ visit_new e g seen t fresh in
    let there : has inner t ≡ true = ap (λ us. has us t) ends ∙ has_last (fold (λ us s. visit e g us s) seen (edges_of g t)) t in
    let left : resumed (suc (suc e)) g (f ∷ h ∷ []) seen ≡ fold (λ us s. visit (suc e) g us s) inner rest ++ f.node ∷ [] =
    resumed_one (suc e) g f (h ∷ []) seen ∙ ap (λ ts. fold (λ us s. visit (suc e) g us s) inner ts ++ f.node ∷ []) split
    ∙ ap (λ us. fold (λ vs s. visit (suc e) g vs s) us rest ++ f.node ∷ []) (visit_seen (suc e) g inner t there) in
    let right : resumed (suc (suc e)) g (f ∷ []) seen ≡ fold (λ us s. visit (suc e) g us s) (visit (suc e) g seen t) rest ++ f.node ∷ [] =
    resumed_one (suc e) g f [] seen ∙ ap (λ ts. fold (λ us s. visit (suc e) g us s) (resumed (suc e) g [] seen) ts ++ f.node ∷ []) split
    ∙ ap (λ us. fold (λ vs s. visit (suc e) g vs s) (visit (suc e) g us t) rest ++ f.node ∷ []) (resumed_none (suc e) g seen) in
    let same : resumed (suc (suc e)) g (f ∷ h ∷ []) seen ≡ resumed (suc (suc e)) g (f ∷ []) seen =
    left ∙ ap (λ us. fold (λ vs s. visit (suc e) g vs s) us rest ++ f.node ∷ []) new ∙ sym right in
    ap (λ gs. resumed d g gs seen) (append_assoc fs (f ∷ []) (h ∷ [])) ∙ resumed_front g fs (f ∷ h ∷ []) (f ∷ []) seen seen d (suc (suc e)) n same
