-- Walks in graphs without cycles, over plain lists: they come to an end.
use Rattle.std.proofs.Common.{◌≡◌, ⊎_elim, ℕ, zero, suc, ◌+◌, ◌<◌, ◌≤◌, List, [], ◌∷◌, ◌++◌, length, get_or, set, replicate, true, false, refl, sym, ap, ◌∙◌, subst, arith}
use Rattle.std.specs.List.{fold}
use Rattle.std.proofs.lemmas.Bool.{cases_Bool, cases_lt}
use Rattle.std.proofs.lemmas.List.{get_or_default}
use Rattle.depth_first.specs.declared.state.State.{State}
use Rattle.depth_first.specs.declared.state.State.TheVariants.{New, OnWay, Done}
use Rattle.depth_first.specs.declared.walk.Frame.{Frame}
use Rattle.depth_first.specs.Graph.{edges_of, IsGraph, IsAcyclic, IsTopological, visit, visits}
use Rattle.depth_first.specs.Walk.{IsWalk, StepsTo, Visited, is_done, resumed, work}
use Rattle.depth_first.proofs.Descents.{new_is_walk}
use Rattle.depth_first.proofs.Steps.{Looks, steps_leaves, steps_follows, steps_enters, steps_closes, target_within}
use Rattle.depth_first.proofs.Roots.{visits_nothing, is_fresh, begins, finishes}

-- a way that isn't empty has a last frame
last_of : (x : Frame) (xs : List Frame) → (fs : List Frame) × (f : Frame) × (x ∷ xs ≡ fs ++ f ∷ [])
last_of x [] = ([], x, refl)
last_of x (y ∷ xs) = let rest = last_of y xs in (x ∷ rest.0, rest.1, ap (λ (zs : List Frame). x ∷ zs) rest.2)

module _ (g : List (List ℕ)) (graph : IsGraph g) (acyclic : IsAcyclic g) where
  -- one step more
  record Stepped (states : List State) (order : List ℕ) (stack : List Frame) : Type 0 where
    states2 : List State
    order2 : List ℕ
    stack2 : List Frame
    steps : StepsTo g states order stack states2 order2 stack2

  -- by the edge to a node of that state
  edge_step : (states : List State) (order : List ℕ) (fs : List Frame) (f : Frame) (targets : List ℕ) (t : ℕ) (here : State) → IsWalk g states order (fs ++ f ∷ []) → Looks g states f targets t here → Stepped states order (fs ++ f ∷ [])
  edge_step states order fs f targets t New w l = record {
    states2 = set states t OnWay;
    order2 = order;
    stack2 = (fs ++ f ∷ []) ++ record { node = t; next = 0 } ∷ [];
    steps = steps_enters g states order fs f targets t New graph w l _ _ _ refl refl refl refl;
  }
  edge_step states order fs f targets t OnWay w l = absurd (acyclic t (steps_closes g states order fs f targets t OnWay graph w l refl))
  edge_step states order fs f targets t Done w l = record {
    states2 = states;
    order2 = order;
    stack2 = fs ++ record { node = f.node; next = f.next + 1 } ∷ [];
    steps = steps_follows g states order fs f targets t Done graph w l _ _ _ refl refl refl refl;
  }

  one_step : (states : List State) (order : List ℕ) (fs : List Frame) (f : Frame) → IsWalk g states order (fs ++ f ∷ []) → Stepped states order (fs ++ f ∷ [])
  one_step states order fs f w =
      let targets : List ℕ = edges_of g f.node in
      let t : ℕ = get_or targets f.next 0 in
      let here : State = get_or states t New in
      let size : length states ≡ length g = w.size in
      ⊎_elim
      (λ (more : f.next < length targets).
      let within : t < length states = target_within g states order fs f targets graph w refl more in
      edge_step states order fs f targets t here w (record { edges = refl; more = more; target = refl; read = get_or_default states t New here within }))
      (λ (full : length targets ≤ f.next).
      record {
        states2 = set states f.node Done;
        order2 = order ++ f.node ∷ [];
        stack2 = fs;
        steps = steps_leaves g states order fs f _ _ _ targets w refl full refl refl refl;
      })
      (cases_lt f.next (length targets))

  last_step : (states : List State) (order : List ℕ) (x : Frame) (xs : List Frame) → IsWalk g states order (x ∷ xs) → Stepped states order (x ∷ xs)
  last_step states order x xs w =
      let last = last_of x xs in
      subst (Stepped states order) (sym last.2) (one_step states order last.0 last.1 (subst (IsWalk g states order) last.2 w))

  -- a walk whose way is empty again
  record Ended (states : List State) (order : List ℕ) (stack : List Frame) : Type 0 where
    states2 : List State
    order2 : List ℕ
    walk : IsWalk g states2 order2 []
    same : resumed (length g) g [] order2 ≡ resumed (length g) g stack order

  ended : (states : List State) (order : List ℕ) (stack : List Frame) (s : Stepped states order stack) → Ended s.states2 s.order2 s.stack2 → Ended states order stack
  ended states order stack s e = record { states2 = e.states2; order2 = e.order2; walk = e.walk; same = e.same ∙ s.steps.same }

  walks_on : (fuel : ℕ) (states : List State) (order : List ℕ) (stack : List Frame) → IsWalk g states order stack → work g states stack ≤ fuel → Ended states order stack
  walks_on zero states order stack w enough = by stack w enough
    where
      by : (stack : List Frame) → IsWalk g states order stack → work g states stack ≤ 0 → Ended states order stack
      by [] w enough = record { states2 = states; order2 = order; walk = w; same = refl }
      by (x ∷ xs) w enough = absurd (omega (arith, (last_step states order x xs w).steps.less))
  walks_on (suc fuel) states order [] w enough = record { states2 = states; order2 = order; walk = w; same = refl }
  walks_on (suc fuel) states order (x ∷ xs) w enough =
      let s = last_step states order x xs w in
      ended states order (x ∷ xs) s (walks_on fuel s.states2 s.order2 s.stack2 s.steps.walk (omega (arith, s.steps.less)))

  -- one root
  record Rooted (seen : List ℕ) (root : ℕ) : Type 0 where
    states2 : List State
    walk : IsWalk g states2 (visit (length g) g seen root) []

  one_root : (states : List State) (seen : List ℕ) (root : ℕ) → IsWalk g states seen [] → root < length g → Rooted seen root
  one_root states seen root w inside =
      ⊎_elim
      (λ (gone : is_done (get_or states root New) ≡ true).
      let v : Visited g seen root states seen [] = visits_nothing g states seen root inside w gone in
      record { states2 = states; walk = subst (λ order. IsWalk g states order []) v.order v.walk })
      (λ (other : is_done (get_or states root New) ≡ false).
      let fresh = is_fresh g states seen root inside w other in
      let states1 : List State = set states root OnWay in
      let stack1 : List Frame = record { node = root; next = 0 } ∷ [] in
      let b = begins g states seen root inside w states1 seen stack1 fresh refl refl refl in
      let e = walks_on (work g states1 stack1) states1 seen stack1 b.0 (omega arith) in
      let v : Visited g seen root e.states2 e.order2 [] = finishes g seen root e.states2 e.order2 [] [] e.walk (e.same ∙ b.1) refl refl in
      record { states2 = e.states2; walk = subst (λ order. IsWalk g e.states2 order []) v.order v.walk })
      (cases_Bool (is_done (get_or states root New)))

  more_roots : (states : List State) (seen roots : List ℕ) → IsWalk g states seen [] → ((i : ℕ) → i < length roots → get_or roots i 0 < length g)
      → (states2 : List State) × IsWalk g states2 (fold (λ us t. visit (length g) g us t) seen roots) []
  more_roots states seen [] w inside = (states, w)
  more_roots states seen (root ∷ roots) w inside =
      let r = one_root states seen root w (inside 0 (omega arith)) in
      more_roots r.states2 (visit (length g) g seen root) roots r.walk (λ i b. inside (suc i) (omega arith))

  -- the visits of roots are those of a walk that came to its end
  walked_over : length g < 4294967294 → (roots : List ℕ) → ((i : ℕ) → i < length roots → get_or roots i 0 < length g) → (states2 : List State) × IsWalk g states2 (visits g roots) []
  walked_over small roots inside =
      let n : ℕ = length g in
      more_roots (replicate n New) [] roots (new_is_walk g (replicate n New) [] [] n refl small refl refl refl) inside

  -- each visited node stands behind those that it leads to
  pub visits_above : length g < 4294967294 → (roots : List ℕ) → ((i : ℕ) → i < length roots → get_or roots i 0 < length g) → IsTopological g (visits g roots)
  visits_above small roots inside = (walked_over small roots inside).1.above

  -- and is one of the graph's
  pub visits_inside : length g < 4294967294 → (roots : List ℕ) → ((i : ℕ) → i < length roots → get_or roots i 0 < length g) → (k : ℕ) → k < length (visits g roots) → get_or (visits g roots) k 0 < length g
  visits_inside small roots inside = (walked_over small roots inside).1.inside
