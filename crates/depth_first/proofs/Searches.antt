-- What each step of a search keeps, and what its end says.
use Rattle.std.proofs.Common.{◌≡◌, ◌≢◌, ℕ, ◌<◌, ◌==◌, ◌||◌, Bool, true, false, List, [], ◌∷◌, ◌++◌, length, get_or, replicate, refl, sym, ap, ◌∙◌, subst, arith, ⊎_elim}
use Rattle.std.proofs.lemmas.Bool.{cases_Bool, cases_eq, eqb-true, or_left, or_right}
use Rattle.std.proofs.lemmas.Grind.{get_or_default_zero}
use Rattle.std.proofs.lemmas.List.{get_or-replicate, length-replicate}
use Rattle.std.proofs.lemmas.List.Folds.{Any-from_list_any}
use Rattle.depth_first.specs.Graph.{has, edges_of, IsGraph, Reaches, directly, through}
use Rattle.depth_first.specs.Search.{Spreads, IsSearch, reached_at}
use Rattle.depth_first.proofs.Frames.{has_push, has_last, has_other, has_at}

or_cases : (a b : Bool) → (a || b) ≡ true → a ≡ false → b ≡ true
or_cases true b h e = absurd (cc)
or_cases false b h e = h

-- where a number of a list stands
pub has_where : (xs : List ℕ) (x : ℕ) → has xs x ≡ true → (i : ℕ) × (i < length xs) × (get_or xs i 0 ≡ x)
has_where xs x h =
    let a = Any-from_list_any (λ y. y == x) xs h in
    (a.0, a.2, sym (get_or_default_zero xs a.0 a.1 a.2) ∙ a.3 ∙ eqb-true a.1 x a.4)

-- a node that is reached directly, and then through others
pub reaches_on : (g : List (List ℕ)) (s u t : ℕ) → Reaches g s u → has (edges_of g u) t ≡ true → Reaches g s t
reaches_on g s u t (directly _ _ h) e = through s u t h (directly u t e)
reaches_on g s u t (through _ v _ h r) e = through s v t h (reaches_on g v u t r e)

module _ (g : List (List ℕ)) (graph : IsGraph g) (node : ℕ) (inside : node < length g) where
  -- the search begins with what the node leads to
  pub search_begins : (reached : List Bool) (later : List ℕ) → Spreads (edges_of g node) (replicate (length g) false) [] reached later → IsSearch g node reached later
  search_begins reached later s =
      let size : length (replicate (length g) false) ≡ length g = length-replicate (length g) false in
      let none : (t : ℕ) → t < length g → reached_at (replicate (length g) false) t ≡ false = λ t lt. get_or-replicate (length g) t false false lt in
      record {
        size = s.size ∙ size;
        found = λ t lt h.
            let m : reached_at reached t ≡ (reached_at (replicate (length g) false) t || has (edges_of g node) t) = s.marks t (omega arith) in
            directly node t (or_cases _ _ (sym m ∙ h) (none t lt));
        waits = λ t h. let o = s.only t h refl in let lt : t < length (replicate (length g) false) = o.0 in (omega arith, o.1);
        first = λ i lt.
            let in_g : get_or (edges_of g node) i 0 < length g = graph node i inside lt in
            s.marks (get_or (edges_of g node) i 0) (omega arith) ∙ or_right _ _ (has_at (edges_of g node) i lt);
        closed = λ t i lt yes no less.
            let h : has later t ≡ true = s.joins t (omega arith) (none t lt) yes in
            absurd (cc);
      }

  pub search_starts : (targets later0 : List ℕ) (reached0 : List Bool) (n : ℕ) (reached : List Bool) (later : List ℕ) → targets ≡ edges_of g node → reached0 ≡ replicate n false → n ≡ length g → later0 ≡ [] → Spreads targets reached0 later0 reached later → IsSearch g node reached later
  search_starts targets later0 reached0 n reached later e f m l s =
      let f2 : reached0 ≡ replicate (length g) false = f ∙ ap (λ k. replicate k false) m in
      let a : Spreads (edges_of g node) reached0 later0 reached later = subst (λ t. Spreads t reached0 later0 reached later) e s in
      let b : Spreads (edges_of g node) (replicate (length g) false) later0 reached later = subst (λ r. Spreads (edges_of g node) r later0 reached later) f2 a in
      search_begins reached later (subst (λ w. Spreads (edges_of g node) (replicate (length g) false) w reached later) l b)

  -- a node that is kept for later is one of the graph
  pub waits_inside : (r : List Bool) (w all : List ℕ) (next : ℕ) → all ≡ w ++ next ∷ [] → IsSearch g node r all → next < length g
  waits_inside r w all next split k = (k.waits next (ap (λ us. has us next) split ∙ has_last w next)).0

  -- the edges of one node are followed
  pub search_goes_on : (r : List Bool) (w all : List ℕ) (next : ℕ) (r2 : List Bool) (w2 : List ℕ) → all ≡ w ++ next ∷ [] → IsSearch g node r all → Spreads (edges_of g next) r w r2 w2 → IsSearch g node r2 w2
  search_goes_on r w all next r2 w2 split k s =
      let size : length r ≡ length g = k.size in
      let member : (t : ℕ) → has w t ≡ true → has all t ≡ true = λ t h. ap (λ us. has us t) split ∙ has_push w next t ∙ or_left (has w t) (next == t) h in
      let last : has all next ≡ true = ap (λ us. has us next) split ∙ has_last w next in
      let known = k.waits next last in
      let from : Reaches g node next = k.found next known.0 known.1 in
      let still : (t : ℕ) → t < length g → reached_at r t ≡ true → reached_at r2 t ≡ true = λ t lt h. s.marks t (omega arith) ∙ or_left _ (has (edges_of g next) t) h in
      record {
        size = s.size ∙ k.size;
        found = λ t lt h. ⊎_elim
            (λ (e : reached_at r t ≡ true). k.found t lt e)
            (λ (e : reached_at r t ≡ false). reaches_on g node next t from (or_cases _ _ (sym (s.marks t (omega arith)) ∙ h) e))
            (cases_Bool (reached_at r t));
        waits = λ t h. ⊎_elim
            (λ (e : has w t ≡ true). let o = k.waits t (member t e) in (o.0, still t o.0 o.1))
            (λ (e : has w t ≡ false). let o = s.only t h e in let lt : t < length r = o.0 in (omega arith, o.1))
            (cases_Bool (has w t));
        first = λ i lt. still _ (inside_of i lt) (k.first i lt);
        closed = λ t i lt yes no less. ⊎_elim
            (λ (e : t ≡ next).
            let less2 : i < length (edges_of g next) = subst (λ u. i < length (edges_of g u)) e less in
            let in_g : get_or (edges_of g next) i 0 < length g = graph next i known.0 less2 in
            subst (λ u. reached_at r2 (get_or (edges_of g u) i 0) ≡ true) (sym e)
            (s.marks _ (omega arith) ∙ or_right _ _ (has_at (edges_of g next) i less2)))
            (λ (ne : t ≢ next). ⊎_elim
            (λ (old : reached_at r t ≡ true).
            let away : has w t ≡ false = ⊎_elim (λ (y : has w t ≡ true). let h : has w2 t ≡ true = s.keeps t y in absurd (cc)) (λ (n : has w t ≡ false). n) (cases_Bool (has w t)) in
            let away2 : has all t ≡ false = ap (λ us. has us t) split ∙ has_other w next t (λ e. ne (sym e)) ∙ away in
            still _ (graph t i lt less) (k.closed t i lt old away2 less))
            (λ (new : reached_at r t ≡ false). let h : has w2 t ≡ true = s.joins t (omega arith) new yes in absurd (cc))
            (cases_Bool (reached_at r t)))
            (cases_eq t next);
      } where
        inside_of : (i : ℕ) → i < length (edges_of g node) → get_or (edges_of g node) i 0 < length g
        inside_of i lt = graph node i inside lt

  -- where no edges are left, what the node leads to was reached
  pub search_ends : (r : List Bool) → IsSearch g node r [] → (t : ℕ) → Reaches g node t → reached_at r t ≡ true
  search_ends r k t way = from_edges node t inside way (λ u h. let p = has_where (edges_of g node) u h in subst (λ v. reached_at r v ≡ true) p.2 (k.first p.0 p.1)) where
    from_edges : (s t : ℕ) → s < length g → Reaches g s t → ((u : ℕ) → has (edges_of g s) u ≡ true → reached_at r u ≡ true) → reached_at r t ≡ true
    from_edges s t lt (directly _ _ h) all = all t h
    from_edges s t lt (through _ u _ h w) all =
        let q = has_where (edges_of g s) u h in
        let in_g : u < length g = subst (λ v. v < length g) q.2 (graph s q.0 lt q.1) in
        from_edges u t in_g w (λ v e.
        let p = has_where (edges_of g u) v e in
        subst (λ x. reached_at r x ≡ true) p.2 (k.closed u p.0 in_g (all u h) refl p.1))
