-- What each step of a walk keeps.
use Rattle.std.proofs.Common.{◌≡◌, ◌≢◌, ◌⊎◌, inl, inr, ℕ, zero, suc, ◌+◌, ◌-◌, ◌<◌, ◌≤◌, true, false, List, [], ◌∷◌, ◌++◌, length, get_or, set, take, sym, ap, ◌∙◌, arith, length-append, length-set, get_or-set_same, get_or-set_other, subst, ⊎_elim}
use Rattle.std.proofs.lemmas.Bool.{cases_lt, cases_eq}
use Rattle.std.proofs.lemmas.List.{take-append-le, take_all, get_or_append_left}
use Rattle.std.proofs.Math.Seq.{get_or-append_seam}
use Rattle.std.specs.List.{count_by}
use Rattle.depth_first.specs.declared.state.State.{State}
use Rattle.depth_first.specs.declared.state.State.TheVariants.{New, OnWay, Done}
use Rattle.depth_first.specs.declared.walk.Frame.{Frame}
use Rattle.depth_first.specs.Graph.{has, edges_of, IsTopological, Reaches, directly, through}
use Rattle.depth_first.specs.Walk.{IsWalk, IsOnWay, is_new, is_done, node_at, next_at}
use Rattle.depth_first.proofs.Counts.{count_left, count_entered}
use Rattle.depth_first.proofs.Frames.{node_front, next_front, node_last, next_last, length_more, has_still, has_last, has_other, has_at}

-- below a number's successor
pub before_or_last : (p n : ℕ) → p < n + 1 → (p < n) ⊎ (p ≡ n)
before_or_last p n lt = ⊎_elim (λ (b : p < n). inl b) (λ (l : n ≤ p). let e : p ≡ n = omega arith in inr e) (cases_lt p n)

-- an order with one more node, behind those that it leads to
pub topological_push : (g : List (List ℕ)) (order : List ℕ) (s : ℕ) → IsTopological g order → ((i : ℕ) → i < length (edges_of g s) → has order (get_or (edges_of g s) i 0) ≡ true) → IsTopological g (order ++ s ∷ [])
topological_push g order s above all k i lt less =
    let n : length (order ++ s ∷ []) ≡ length order + 1 = length-append order (s ∷ []) in
    ⊎_elim
    (λ (b : k < length order).
    let here : get_or (order ++ s ∷ []) k 0 ≡ get_or order k 0 = get_or_append_left order (s ∷ []) 0 k b in
    let front : take k (order ++ s ∷ []) ≡ take k order = take-append-le k order (s ∷ []) (omega arith) in
    rw (front, here) (above k i b (subst (λ t. i < length (edges_of g t)) here less)))
    (λ (e : k ≡ length order).
    let here : get_or (order ++ s ∷ []) k 0 ≡ s = ap (λ j. get_or (order ++ s ∷ []) j 0) e ∙ get_or-append_seam order s [] 0 in
    let front : take k (order ++ s ∷ []) ≡ order = take-append-le k order (s ∷ []) (omega arith) ∙ take_all k order (omega arith) in
    rw (front, here) (all i (subst (λ t. i < length (edges_of g t)) here less)))
    (before_or_last k (length order) (omega arith))

module _ (g : List (List ℕ)) (states : List State) (order : List ℕ) (fs : List Frame) (f : Frame) (w : IsWalk g states order (fs ++ f ∷ [])) where
  -- the last frame of a way: its node is one
  pub last_node : f.node < length g
  last_node =
      let n : length (fs ++ f ∷ []) ≡ length fs + 1 = length_more fs f in
      subst (λ s. s < length g) (node_last fs f) (w.nodes (length fs) (omega arith))

  -- and on the way
  pub last_entered : get_or states f.node New ≡ OnWay
  last_entered =
      let n : length (fs ++ f ∷ []) ≡ length fs + 1 = length_more fs f in
      subst (λ s. get_or states s New ≡ OnWay) (node_last fs f) (w.entered (length fs) (omega arith))

  front_entered : (p : ℕ) → p < length fs → get_or states (node_at fs p) New ≡ OnWay
  front_entered p lt =
      let n : length (fs ++ f ∷ []) ≡ length fs + 1 = length_more fs f in
      subst (λ s. get_or states s New ≡ OnWay) (node_front fs (f ∷ []) p lt) (w.entered p (omega arith))

  front_apart : (p q : ℕ) → p < q → q < length fs → node_at fs p ≢ node_at fs q
  front_apart p q less lt e =
      let n : length (fs ++ f ∷ []) ≡ length fs + 1 = length_more fs f in
      w.apart p q less (omega arith) (node_front fs (f ∷ []) p (omega arith) ∙ e ∙ sym (node_front fs (f ∷ []) q lt))

  last_apart : (p : ℕ) → p < length fs → node_at fs p ≢ f.node
  last_apart p lt e =
      let n : length (fs ++ f ∷ []) ≡ length fs + 1 = length_more fs f in
      w.apart p (length fs) lt (omega arith) (node_front fs (f ∷ []) p lt ∙ e ∙ sym (node_last fs f))

  front_past : (p i : ℕ) → p < length fs → i < next_at fs p → has order (get_or (edges_of g (node_at fs p)) i 0) ≡ true
  front_past p i lt less =
      let n : length (fs ++ f ∷ []) ≡ length fs + 1 = length_more fs f in
      let e : next_at (fs ++ f ∷ []) p ≡ next_at fs p = next_front fs (f ∷ []) p lt in
      let below : i < next_at (fs ++ f ∷ []) p = subst (λ m. i < m) (sym e) less in
      subst (λ s. has order (get_or (edges_of g s) i 0) ≡ true) (node_front fs (f ∷ []) p lt) (w.past p i (omega arith) below)

  pub last_past : (i : ℕ) → i < f.next → has order (get_or (edges_of g f.node) i 0) ≡ true
  last_past i less =
      let n : length (fs ++ f ∷ []) ≡ length fs + 1 = length_more fs f in
      let below : i < next_at (fs ++ f ∷ []) (length fs) = subst (λ m. i < m) (sym (next_last fs f)) less in
      subst (λ s. has order (get_or (edges_of g s) i 0) ≡ true) (node_last fs f) (w.past (length fs) i (omega arith) below)

  front_chain : (p : ℕ) → p < length fs → next_at fs p < length (edges_of g (node_at fs p))
  front_chain p lt =
      let n : length (fs ++ f ∷ []) ≡ length fs + 1 = length_more fs f in
      let h : next_at (fs ++ f ∷ []) p < length (edges_of g (node_at (fs ++ f ∷ []) p)) = w.chain p (omega arith) in
      let h2 : next_at (fs ++ f ∷ []) p < length (edges_of g (node_at fs p)) = subst (λ s. next_at (fs ++ f ∷ []) p < length (edges_of g s)) (node_front fs (f ∷ []) p lt) h in
      subst (λ m. m < length (edges_of g (node_at fs p))) (next_front fs (f ∷ []) p lt) h2

  front_link : (p : ℕ) → p < length fs → get_or (edges_of g (node_at fs p)) (next_at fs p) 0 ≡ node_at (fs ++ f ∷ []) (p + 1)
  front_link p lt =
      let n : length (fs ++ f ∷ []) ≡ length fs + 1 = length_more fs f in
      let h : get_or (edges_of g (node_at (fs ++ f ∷ []) p)) (next_at (fs ++ f ∷ []) p) 0 ≡ node_at (fs ++ f ∷ []) (p + 1) = w.links p (omega arith) in
      sym (ap (λ s. get_or (edges_of g s) (next_at fs p) 0) (node_front fs (f ∷ []) p lt)) ∙ sym (ap (λ m. get_or (edges_of g (node_at (fs ++ f ∷ []) p)) m 0) (next_front fs (f ∷ []) p lt)) ∙ h

  front_way : (s : ℕ) → s < length g → s ≢ f.node → get_or states s New ≡ OnWay → IsOnWay fs s
  front_way s lt ne on =
      let n : length (fs ++ f ∷ []) ≡ length fs + 1 = length_more fs f in
      let there : IsOnWay (fs ++ f ∷ []) s = w.way s lt on in
      ⊎_elim
      (λ (b : there.0 < length fs). (there.0, b, sym (node_front fs (f ∷ []) there.0 b) ∙ there.2))
      (λ (e : there.0 ≡ length fs).
      let same : s ≡ f.node = sym there.2 ∙ ap (node_at (fs ++ f ∷ [])) e ∙ node_last fs f in
      absurd (ne same))
      (before_or_last there.0 (length fs) (subst (λ m. there.0 < m) n there.1))

  -- a node that is left
  pub leaves : length (edges_of g f.node) ≤ f.next → IsWalk g (set states f.node Done) (order ++ f.node ∷ []) fs
  leaves full =
      let n : length (fs ++ f ∷ []) ≡ length fs + 1 = length_more fs f in
      let inside : f.node < length g = last_node in
      let size : length states ≡ length g = w.size in
      let tally : count_by is_new states + length (fs ++ f ∷ []) + length order ≡ length g = w.tally in
      let within : f.node < length states = omega arith in
      let counted : count_by is_new (set states f.node Done) ≡ count_by is_new states = count_left states f.node within (ap is_new last_entered) in
      let longer : length (order ++ f.node ∷ []) ≡ length order + 1 = length-append order (f.node ∷ []) in
      let same : get_or (set states f.node Done) f.node New ≡ Done = get_or-set_same states f.node Done New within in
      let other : (s : ℕ) → s ≢ f.node → get_or (set states f.node Done) s New ≡ get_or states s New = λ s ne. get_or-set_other states f.node s Done New ne in
      let not_left : (s : ℕ) → get_or (set states f.node Done) s New ≡ OnWay → s ≢ f.node = (λ s on e.
      let never : true ≡ false = ap is_done (sym (ap (λ t. get_or (set states f.node Done) t New) e ∙ same) ∙ on) in
      absurd (cc)) in
      record {
        size = length-set states f.node Done ∙ w.size;
        small = w.small;
        tally = omega arith;
        nodes = λ p lt. subst (λ s. s < length g) (node_front fs (f ∷ []) p lt) (w.nodes p (omega arith));
        entered = λ p lt. other (node_at fs p) (last_apart p lt) ∙ front_entered p lt;
        apart = front_apart;
        done = λ s lt. ⊎_elim
            (λ (e : s ≡ f.node). ap (has (order ++ f.node ∷ [])) e ∙ has_last order f.node ∙ sym (ap is_done (ap (λ t. get_or (set states f.node Done) t New) e ∙ same)))
            (λ (ne : s ≢ f.node). has_other order f.node s (λ e. ne (sym e)) ∙ w.done s lt ∙ sym (ap is_done (other s ne)))
            (cases_eq s f.node);
        way = λ s lt on.
            let ne : s ≢ f.node = not_left s on in
            front_way s lt ne (sym (other s ne) ∙ on);
        past = λ p i lt less. has_still order f.node _ (front_past p i lt less);
        chain = λ p lt. front_chain p (omega arith);
        links = λ p lt. front_link p (omega arith) ∙ node_front fs (f ∷ []) (p + 1) lt;
        above = topological_push g order f.node w.above (λ i less. last_past i (omega arith));
        inside = λ k lt. ⊎_elim
            (λ (b : k < length order). subst (λ s. s < length g) (sym (get_or_append_left order (f.node ∷ []) 0 k b)) (w.inside k b))
            (λ (e : k ≡ length order). subst (λ s. s < length g) (sym (ap (λ j. get_or (order ++ f.node ∷ []) j 0) e ∙ get_or-append_seam order f.node [] 0)) inside)
            (before_or_last k (length order) (omega arith));
      }

  -- one more edge of the last frame's node was followed, to a node that was left
  pub follows : (t : ℕ) → t < length g → f.next < length (edges_of g f.node) → get_or (edges_of g f.node) f.next 0 ≡ t → get_or states t New ≡ Done
      → IsWalk g states order (fs ++ record { node = f.node; next = f.next + 1 } ∷ [])
  follows t lt more leads gone =
      let h : Frame = record { node = f.node; next = f.next + 1 } in
      let n : length (fs ++ f ∷ []) ≡ length fs + 1 = length_more fs f in
      let m : length (fs ++ h ∷ []) ≡ length fs + 1 = length_more fs h in
      let same : (p : ℕ) → p < length fs + 1 → node_at (fs ++ h ∷ []) p ≡ node_at (fs ++ f ∷ []) p = (λ p b. ⊎_elim
      (λ (b : p < length fs). node_front fs (h ∷ []) p b ∙ sym (node_front fs (f ∷ []) p b))
      (λ (e : p ≡ length fs). ap (node_at (fs ++ h ∷ [])) e ∙ node_last fs h ∙ sym (ap (node_at (fs ++ f ∷ [])) e ∙ node_last fs f))
      (before_or_last p (length fs) b)) in
      let tally : count_by is_new states + length (fs ++ f ∷ []) + length order ≡ length g = w.tally in
      record {
        size = w.size;
        small = w.small;
        tally = omega arith;
        nodes = λ p lt. subst (λ s. s < length g) (sym (same p (omega arith))) (w.nodes p (omega arith));
        entered = λ p lt. subst (λ s. get_or states s New ≡ OnWay) (sym (same p (omega arith))) (w.entered p (omega arith));
        apart = λ p q less lt e. w.apart p q less (omega arith) (sym (same p (omega arith)) ∙ e ∙ same q (omega arith));
        done = w.done;
        way = λ s lt on.
            let there : IsOnWay (fs ++ f ∷ []) s = w.way s lt on in
            let b : there.0 < length (fs ++ f ∷ []) = there.1 in
            (there.0, omega arith, same there.0 (omega arith) ∙ there.2);
        past = λ p i lt less. ⊎_elim
            (λ (b : p < length fs).
            let below : i < next_at fs p = subst (λ k. i < k) (next_front fs (h ∷ []) p b) less in
            subst (λ s. has order (get_or (edges_of g s) i 0) ≡ true) (sym (node_front fs (h ∷ []) p b)) (front_past p i b below))
            (λ (e : p ≡ length fs).
            let here : node_at (fs ++ h ∷ []) p ≡ f.node = ap (node_at (fs ++ h ∷ [])) e ∙ node_last fs h in
            let next : next_at (fs ++ h ∷ []) p ≡ f.next + 1 = ap (next_at (fs ++ h ∷ [])) e ∙ next_last fs h in
            let below : i < f.next + 1 = subst (λ k. i < k) next less in
            subst (λ s. has order (get_or (edges_of g s) i 0) ≡ true) (sym here)
            (⊎_elim (λ (b : i < f.next). last_past i b)
            (λ (e : i ≡ f.next). ap (λ k. has order (get_or (edges_of g f.node) k 0)) e ∙ ap (has order) leads ∙ w.done t lt' ∙ ap is_done gone)
            (before_or_last i f.next below)))
            (before_or_last p (length fs) (omega arith));
        chain = λ p lt.
            let b : p < length fs = omega arith in
            let c : next_at fs p < length (edges_of g (node_at fs p)) = front_chain p b in
            let c2 : next_at (fs ++ h ∷ []) p < length (edges_of g (node_at fs p)) = subst (λ k. k < length (edges_of g (node_at fs p))) (sym (next_front fs (h ∷ []) p b)) c in
            subst (λ s. next_at (fs ++ h ∷ []) p < length (edges_of g s)) (sym (node_front fs (h ∷ []) p b)) c2;
        links = λ p lt.
            let b : p < length fs = omega arith in
            ap (λ s. get_or (edges_of g s) (next_at (fs ++ h ∷ []) p) 0) (node_front fs (h ∷ []) p b) ∙ ap (λ k. get_or (edges_of g (node_at fs p)) k 0) (next_front fs (h ∷ []) p b) ∙ front_link p b ∙ sym (same (p + 1) (omega arith));
        above = w.above;
        inside = w.inside;
      } where
        lt' : t < length g
        lt' = lt

-- the last node of a way, if any, leads to a node by its next edge
abbrev pub LeadsTo : List (List ℕ) → List Frame → ℕ → Type 0
LeadsTo g stack t = (p : ℕ) → p + 1 ≡ length stack → (next_at stack p < length (edges_of g (node_at stack p))) × (get_or (edges_of g (node_at stack p)) (next_at stack p) 0 ≡ t)

-- the way goes on to a new node
pub enters : (g : List (List ℕ)) (states : List State) (order : List ℕ) (stack : List Frame) (t : ℕ) → IsWalk g states order stack → t < length g → get_or states t New ≡ New → LeadsTo g stack t
    → IsWalk g (set states t OnWay) order (stack ++ record { node = t; next = 0 } ∷ [])
enters g states order stack t w inside fresh leads =
    let h : Frame = record { node = t; next = 0 } in
    let m : length (stack ++ h ∷ []) ≡ length stack + 1 = length_more stack h in
    let size : length states ≡ length g = w.size in
    let tally : count_by is_new states + length stack + length order ≡ length g = w.tally in
    let within : t < length states = omega arith in
    let counted : count_by is_new (set states t OnWay) + 1 ≡ count_by is_new states = count_entered states t within fresh in
    let same : get_or (set states t OnWay) t New ≡ OnWay = get_or-set_same states t OnWay New within in
    let other : (s : ℕ) → s ≢ t → get_or (set states t OnWay) s New ≡ get_or states s New = λ s ne. get_or-set_other states t s OnWay New ne in
    let at_t : (s : ℕ) → s ≡ t → get_or (set states t OnWay) s New ≡ OnWay = (λ s e. ap (λ u. get_or (set states t OnWay) u New) e ∙ same) in
    let not_there : (p : ℕ) → p < length stack → node_at stack p ≢ t = (λ p b e.
    let never : false ≡ true = ap is_new (sym (w.entered p b) ∙ ap (λ s. get_or states s New) e ∙ fresh) in
    absurd (cc)) in
    record {
      size = length-set states t OnWay ∙ w.size;
      small = w.small;
      tally = omega arith;
      nodes = λ p lt. ⊎_elim
          (λ (b : p < length stack). subst (λ s. s < length g) (sym (node_front stack (h ∷ []) p b)) (w.nodes p b))
          (λ (e : p ≡ length stack). subst (λ s. s < length g) (sym (ap (node_at (stack ++ h ∷ [])) e ∙ node_last stack h)) inside)
          (before_or_last p (length stack) (omega arith));
      entered = λ p lt. ⊎_elim
          (λ (b : p < length stack). ap (λ s. get_or (set states t OnWay) s New) (node_front stack (h ∷ []) p b) ∙ other (node_at stack p) (not_there p b) ∙ w.entered p b)
          (λ (e : p ≡ length stack). at_t _ (ap (node_at (stack ++ h ∷ [])) e ∙ node_last stack h))
          (before_or_last p (length stack) (omega arith));
      apart = λ p q less lt e. ⊎_elim
          (λ (b : q < length stack). w.apart p q less b (sym (node_front stack (h ∷ []) p (omega arith)) ∙ e ∙ node_front stack (h ∷ []) q b))
          (λ (d : q ≡ length stack). not_there p (omega arith) (sym (node_front stack (h ∷ []) p (omega arith)) ∙ e ∙ ap (node_at (stack ++ h ∷ [])) d ∙ node_last stack h))
          (before_or_last q (length stack) (omega arith));
      done = λ s lt. ⊎_elim
          (λ (e : s ≡ t). w.done s lt ∙ ap is_done (ap (λ u. get_or states u New) e ∙ fresh) ∙ sym (ap is_done (at_t s e)))
          (λ (ne : s ≢ t). w.done s lt ∙ sym (ap is_done (other s ne)))
          (cases_eq s t);
      way = λ s lt on. ⊎_elim
          (λ (e : s ≡ t). (length stack, omega arith, node_last stack h ∙ sym e))
          (λ (ne : s ≢ t).
          let there : IsOnWay stack s = w.way s lt (sym (other s ne) ∙ on) in
          let b : there.0 < length stack = there.1 in
          (there.0, omega arith, node_front stack (h ∷ []) there.0 b ∙ there.2))
          (cases_eq s t);
      past = λ p i lt less. ⊎_elim
          (λ (b : p < length stack).
          let below : i < next_at stack p = subst (λ k. i < k) (next_front stack (h ∷ []) p b) less in
          subst (λ s. has order (get_or (edges_of g s) i 0) ≡ true) (sym (node_front stack (h ∷ []) p b)) (w.past p i b below))
          (λ (e : p ≡ length stack).
          let none : i < 0 = subst (λ k. i < k) (ap (next_at (stack ++ h ∷ [])) e ∙ next_last stack h) less in
          absurd (omega arith))
          (before_or_last p (length stack) (omega arith));
      chain = λ p lt.
          let b : p < length stack = omega arith in
          let c : next_at stack p < length (edges_of g (node_at stack p)) = ⊎_elim
          (λ (d : p + 1 < length stack). w.chain p d)
          (λ (d : length stack ≤ p + 1). (leads p (omega arith)).0)
          (cases_lt (p + 1) (length stack)) in
          let c2 : next_at (stack ++ h ∷ []) p < length (edges_of g (node_at stack p)) = subst (λ k. k < length (edges_of g (node_at stack p))) (sym (next_front stack (h ∷ []) p b)) c in
          subst (λ s. next_at (stack ++ h ∷ []) p < length (edges_of g s)) (sym (node_front stack (h ∷ []) p b)) c2;
      links = λ p lt.
          let b : p < length stack = omega arith in
          let c : get_or (edges_of g (node_at stack p)) (next_at stack p) 0 ≡ node_at (stack ++ h ∷ []) (p + 1) = ⊎_elim
          (λ (d : p + 1 < length stack). w.links p d ∙ sym (node_front stack (h ∷ []) (p + 1) d))
          (λ (d : length stack ≤ p + 1).
          let e : p + 1 ≡ length stack = omega arith in
          (leads p e).1 ∙ sym (ap (node_at (stack ++ h ∷ [])) e ∙ node_last stack h))
          (cases_lt (p + 1) (length stack)) in
          ap (λ s. get_or (edges_of g s) (next_at (stack ++ h ∷ []) p) 0) (node_front stack (h ∷ []) p b) ∙ ap (λ k. get_or (edges_of g (node_at stack p)) k 0) (next_front stack (h ∷ []) p b) ∙ c;
      above = w.above;
      inside = w.inside;
    }

-- the last frame's next edge
pub leads_on : (g : List (List ℕ)) (fs : List Frame) (f : Frame) (t : ℕ) → f.next < length (edges_of g f.node) → get_or (edges_of g f.node) f.next 0 ≡ t → LeadsTo g (fs ++ f ∷ []) t
leads_on g fs f t more leads p e =
    let n : length (fs ++ f ∷ []) ≡ length fs + 1 = length_more fs f in
    let q : p ≡ length fs = omega arith in
    let here : node_at (fs ++ f ∷ []) p ≡ f.node = ap (node_at (fs ++ f ∷ [])) q ∙ node_last fs f in
    let next : next_at (fs ++ f ∷ []) p ≡ f.next = ap (next_at (fs ++ f ∷ [])) q ∙ next_last fs f in (
      subst (λ k. k < length (edges_of g (node_at (fs ++ f ∷ []) p))) (sym next) (subst (λ s. f.next < length (edges_of g s)) (sym here) more),
      ap (λ s. get_or (edges_of g s) (next_at (fs ++ f ∷ []) p) 0) here ∙ ap (λ k. get_or (edges_of g f.node) k 0) next ∙ leads,
    )

-- a way reaches what its last node leads to
climbs : (g : List (List ℕ)) (states : List State) (order : List ℕ) (stack : List Frame) (t : ℕ) → IsWalk g states order stack → LeadsTo g stack t → (k p : ℕ) → p + k + 1 ≡ length stack → Reaches g (node_at stack p) t
climbs g states order stack t w leads zero p e =
    let l = leads p (omega arith) in
    directly _ _ (subst (λ u. has (edges_of g (node_at stack p)) u ≡ true) l.1 (has_at (edges_of g (node_at stack p)) (next_at stack p) l.0))
climbs g states order stack t w leads (suc k) p e =
    let d : p + 1 < length stack = omega arith in
    let l = w.links p d in
    through _ (node_at stack (p + 1)) _ (subst (λ u. has (edges_of g (node_at stack p)) u ≡ true) l (has_at (edges_of g (node_at stack p)) (next_at stack p) (w.chain p d)))
    (climbs g states order stack t w leads k (p + 1) (omega arith))

-- where the last node leads to a node on the way, that node leads to itself
pub closes : (g : List (List ℕ)) (states : List State) (order : List ℕ) (stack : List Frame) (t : ℕ) → IsWalk g states order stack → t < length g → get_or states t New ≡ OnWay → LeadsTo g stack t → Reaches g t t
closes g states order stack t w inside on leads =
    let there : IsOnWay stack t = w.way t inside on in
    let b : there.0 < length stack = there.1 in
    let k : ℕ = length stack - (there.0 + 1) in
    let e : there.0 + k + 1 ≡ length stack = omega arith in
    subst (λ s. Reaches g s t) there.2 (climbs g states order stack t w leads k there.0 e)
