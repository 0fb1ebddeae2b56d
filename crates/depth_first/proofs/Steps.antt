-- One step of a walk, over plain lists.
use Rattle.std.proofs.Common.{◌≡◌, ℕ, ◌+◌, ◌<◌, ◌≤◌, List, [], ◌∷◌, ◌++◌, length, get_or, set, sym, ap, ◌∙◌, subst, arith, Vec}
use Rattle.std.specs.List.{count_by}
use Rattle.std.proofs.lemmas.List.{get_or-map, get_or_default, length-map}
use Rattle.std.specs.declared.alloc.Global.{Global}
use Rattle.depth_first.specs.declared.state.State.{State}
use Rattle.depth_first.specs.declared.state.State.TheVariants.{New, OnWay, Done}
use Rattle.depth_first.specs.declared.walk.Frame.{Frame}
use Rattle.depth_first.specs.Graph.{edges_of, IsGraph, Reaches}
use Rattle.depth_first.specs.Walk.{IsWalk, StepsTo, is_new, is_done}
use Rattle.depth_first.specs.Views.{graph_of}
use Rattle.depth_first.proofs.Frames.{length_more}
use Rattle.depth_first.proofs.Counts.{count_entered, work_leaves, work_follows, work_enters}
use Rattle.depth_first.proofs.Keeps.{last_node, last_entered, leaves, follows, enters, leads_on, closes}
use Rattle.depth_first.proofs.Resumes.{resumed_leaves, resumed_follows, resumed_enters}

-- the edges of a node, as they are read
pub edges_read : (edges : List (Vec ℕ Global)) (s : ℕ) (v : Vec ℕ Global) (targets : List ℕ) → s < length edges → v ≡ get_or edges s v → targets ≡ v.items → edges_of (graph_of edges) s ≡ targets
edges_read edges s v targets lt e f = get_or-map (λ (u : Vec ℕ Global). u.items) edges s v [] lt ∙ ap (λ (u : Vec ℕ Global). u.items) (sym e) ∙ sym f

-- the last node is left
pub steps_leaves : (g : List (List ℕ)) (states : List State) (order : List ℕ) (fs : List Frame) (f : Frame) (states2 : List State) (order2 : List ℕ) (fs2 : List Frame) (targets : List ℕ) → IsWalk g states order (fs ++ f ∷ []) → edges_of g f.node ≡ targets → length targets ≤ f.next
    → states2 ≡ set states f.node Done → order2 ≡ order ++ f.node ∷ [] → fs2 ≡ fs → StepsTo g states order (fs ++ f ∷ []) states2 order2 fs2
steps_leaves g states order fs f states2 order2 fs2 targets w e full p o s =
    let full2 : length (edges_of g f.node) ≤ f.next = rw e full in
    let n : length (fs ++ f ∷ []) ≡ length fs + 1 = length_more fs f in
    let tally = w.tally in
    let small = w.small in
    let size = w.size in
    let inside : f.node < length g = last_node g states order fs f w in
    let here : get_or states f.node New ≡ OnWay = last_entered g states order fs f w in
    rw (p, o, s) (record {
      walk = leaves g states order fs f w full2;
      same = resumed_leaves (length g) g fs f order (omega arith) full2;
      less = work_leaves g states fs f (omega arith) (ap is_new here);
    })

-- the next edge of the last frame leads to a node t, whose state was read
pub record Looks (g : List (List ℕ)) (states : List State) (f : Frame) (targets : List ℕ) (t : ℕ) (here : State) : Type 0 where
  pub edges : edges_of g f.node ≡ targets
  pub more : f.next < length targets
  pub target : t ≡ get_or targets f.next 0
  pub read : here ≡ get_or states t here

module _ (g : List (List ℕ)) (states : List State) (order : List ℕ) (fs : List Frame) (f : Frame) (targets : List ℕ) (t : ℕ) (here : State) (graph : IsGraph g) (w : IsWalk g states order (fs ++ f ∷ [])) (l : Looks g states f targets t here) where
  more_edges : f.next < length (edges_of g f.node)
  more_edges = let more = l.more in rw l.edges more

  leads : get_or (edges_of g f.node) f.next 0 ≡ t
  leads = ap (λ es. get_or es f.next 0) l.edges ∙ sym l.target

  -- the node is one of the graph
  pub target_inside : t < length g
  target_inside = subst (λ s. s < length g) leads (graph f.node f.next (last_node g states order fs f w) more_edges)

  -- its state is the one that was read
  pub state_is : get_or states t New ≡ here
  state_is =
      let size : length states ≡ length g = w.size in
      let inside : t < length g = target_inside in
      get_or_default states t New here (omega arith) ∙ sym l.read

  -- it was left
  pub steps_follows : (states2 : List State) (order2 : List ℕ) (fs2 : List Frame) → here ≡ Done → states2 ≡ states → order2 ≡ order → fs2 ≡ fs ++ record { node = f.node; next = f.next + 1 } ∷ [] → StepsTo g states order (fs ++ f ∷ []) states2 order2 fs2
  steps_follows states2 order2 fs2 gone p o s =
      let n : length (fs ++ f ∷ []) ≡ length fs + 1 = length_more fs f in
      let tally = w.tally in
      let there : get_or states t New ≡ Done = state_is ∙ gone in
      rw (p, o, s) (record {
        walk = follows g states order fs f w t target_inside more_edges leads there;
        same = resumed_follows (length g) g fs f order t (omega arith) more_edges leads (w.done t target_inside ∙ ap is_done there);
        less = work_follows g states fs f more_edges;
      })

  -- it is new
  pub steps_enters : (states2 : List State) (order2 : List ℕ) (fs2 : List Frame) → here ≡ New → states2 ≡ set states t OnWay → order2 ≡ order → fs2 ≡ (fs ++ f ∷ []) ++ record { node = t; next = 0 } ∷ [] → StepsTo g states order (fs ++ f ∷ []) states2 order2 fs2
  steps_enters states2 order2 fs2 new p o s =
      let n : length (fs ++ f ∷ []) ≡ length fs + 1 = length_more fs f in
      let size : length states ≡ length g = w.size in
      let small : length g < 4294967294 = w.small in
      let inside : t < length g = target_inside in
      let within : t < length states = omega arith in
      let fresh : get_or states t New ≡ New = state_is ∙ new in
      let counted = count_entered states t within fresh in
      let tally : count_by is_new states + length (fs ++ f ∷ []) + length order ≡ length g = w.tally in
      rw (p, o, s) (record {
        walk = enters g states order (fs ++ f ∷ []) t w inside fresh (leads_on g fs f t more_edges leads);
        same = resumed_enters (length g) g fs f order t (omega arith) more_edges leads (w.done t inside ∙ ap is_done fresh);
        less = work_enters g states (fs ++ f ∷ []) t inside within fresh;
      })

  -- it is on the way
  pub steps_closes : here ≡ OnWay → Reaches g t t
  steps_closes on = closes g states order (fs ++ f ∷ []) t w target_inside (state_is ∙ on) (leads_on g fs f t more_edges leads)

-- a graph has as many nodes as there are vectors
pub length_graph : (edges : List (Vec ℕ Global)) → length (graph_of edges) ≡ length edges
length_graph edges = simp length-map

-- the last node of a way, among the vectors
pub frame_inside : (edges : List (Vec ℕ Global)) (states : List State) (order : List ℕ) (fs : List Frame) (f : Frame) → IsWalk (graph_of edges) states order (fs ++ f ∷ []) → f.node < length edges
frame_inside edges states order fs f w =
    let inside : f.node < length (graph_of edges) = last_node (graph_of edges) states order fs f w in
    subst (λ n. f.node < n) (length_graph edges) inside

-- the next node of a way has a state
pub target_within : (g : List (List ℕ)) (states : List State) (order : List ℕ) (fs : List Frame) (f : Frame) (targets : List ℕ) → IsGraph g → IsWalk g states order (fs ++ f ∷ []) → edges_of g f.node ≡ targets → f.next < length targets → get_or targets f.next 0 < length states
target_within g states order fs f targets graph w e more =
    let size : length states ≡ length g = w.size in
    let more2 : f.next < length (edges_of g f.node) = rw e more in
    let h : get_or (edges_of g f.node) f.next 0 < length g = graph f.node f.next (last_node g states order fs f w) more2 in
    let h2 : get_or targets f.next 0 < length g = subst (λ es. get_or es f.next 0 < length g) e h in
    omega arith
