-- Steps of a walk that pass edges to nodes that were left.
use Rattle.std.proofs.Common.{◌≡◌, ℕ, zero, suc, ◌+◌, ◌-◌, ◌<◌, ◌≤◌, true, List, [], ◌∷◌, ◌++◌, length, get_or, take, min, refl, sym, ap, ◌∙◌, subst, arith, ⊎_elim}
use Rattle.std.proofs.lemmas.Bool.{cases_lt}
use Rattle.std.proofs.lemmas.List.{get_or_default, get_or-take, length-take}
use Rattle.depth_first.specs.declared.state.State.{State}
use Rattle.depth_first.specs.declared.state.State.TheVariants.{New, OnWay, Done}
use Rattle.depth_first.specs.declared.walk.Frame.{Frame}
use Rattle.depth_first.specs.Graph.{has, edges_of, IsGraph}
use Rattle.depth_first.specs.Walk.{IsWalk, StepsTo, is_done}
use Rattle.depth_first.specs.Jumps.{jump_at, JumpRepeats}
use Rattle.depth_first.proofs.Keeps.{before_or_last, last_node, last_past}
use Rattle.depth_first.proofs.Searches.{has_where}
use Rattle.depth_first.proofs.Steps.{Looks, steps_follows, target_within, target_inside, state_is}

-- a node that was left
done_is : (s : State) → is_done s ≡ true → s ≡ Done
done_is New e = absurd (cc)
done_is OnWay e = absurd (cc)
done_is Done e = refl

-- edges that repeat ones before them lead to nodes that were left, where those do
all_past : (es order : List ℕ) (i j : ℕ) → j ≤ length es → ((k : ℕ) → k < i + 1 → has order (get_or es k 0) ≡ true) → ((k : ℕ) → i < k → k < j → has (take k es) (get_or es k 0) ≡ true)
    → (n k : ℕ) → k < n → k < j → has order (get_or es k 0) ≡ true
all_past es order i j within first repeats zero k lt below = absurd (omega arith)
all_past es order i j within first repeats (suc n) k lt below = ⊎_elim
    (λ (b : k < i + 1). first k b)
    (λ (b : i + 1 ≤ k).
    let p = has_where (take k es) (get_or es k 0) (repeats k (omega arith) below) in
    let m : ℕ = p.0 in
    let short : length (take k es) ≡ min k (length es) = length-take k es in
    let there : m < length (take k es) = p.1 in
    let same : get_or es m 0 ≡ get_or es k 0 = sym (get_or-take k es m 0 (omega arith)) ∙ p.2 in
    subst (λ t. has order t ≡ true) same (all_past es order i j within first repeats n m (omega arith) (omega arith)))
    (cases_lt k (i + 1))

module _ (g : List (List ℕ)) (states : List State) (order : List ℕ) (fs : List Frame) (s : ℕ) (graph : IsGraph g) where
  -- one edge
  pass : (i : ℕ) → IsWalk g states order (fs ++ record { node = s; next = i } ∷ []) → i < length (edges_of g s) → has order (get_or (edges_of g s) i 0) ≡ true
      → StepsTo g states order (fs ++ record { node = s; next = i } ∷ []) states order (fs ++ record { node = s; next = i + 1 } ∷ [])
  pass i w more past =
      let f : Frame = record { node = s; next = i } in
      let targets : List ℕ = edges_of g s in
      let t : ℕ = get_or targets i 0 in
      let here : State = get_or states t New in
      let inside : t < length g = graph s i (last_node g states order fs f w) more in
      let within : t < length states = target_within g states order fs f targets graph w refl more in
      let l : Looks g states f targets t here = record { edges = refl; more = more; target = refl; read = get_or_default states t New here within } in
      steps_follows g states order fs f targets t here graph w l states order (fs ++ record { node = s; next = i + 1 } ∷ []) (done_is here (sym (w.done t inside) ∙ past)) refl refl refl

  -- more edges, behind steps that came so far
  passes : (stack : List Frame) (n i j : ℕ) → j ≡ i + n → j ≤ length (edges_of g s) → ((k : ℕ) → k < j → has order (get_or (edges_of g s) k 0) ≡ true) → StepsTo g states order stack states order (fs ++ record { node = s; next = i } ∷ [])
      → StepsTo g states order stack states order (fs ++ record { node = s; next = j } ∷ [])
  passes stack zero i j e within past so_far =
      let same : i ≡ j = omega arith in
      subst (λ k. StepsTo g states order stack states order (fs ++ record { node = s; next = k } ∷ [])) same so_far
  passes stack (suc n) i j e within past so_far =
      let one = pass i so_far.walk (omega arith) (past i (omega arith)) in
      passes stack n (i + 1) j (omega arith) within past (record { walk = one.walk; same = one.same ∙ so_far.same; less = omega (arith, one.less, so_far.less) })

-- the next edge of the last frame leads to a node that was left, and so do those that the jump behind it passes
pub steps_jumps : (g jumps : List (List ℕ)) (states : List State) (order : List ℕ) (fs : List Frame) (f : Frame) (targets : List ℕ) (t : ℕ) (here : State) (next : ℕ) (states2 : List State) (order2 : List ℕ) (fs2 : List Frame) → IsGraph g → JumpRepeats g jumps → IsWalk g states order (fs ++ f ∷ [])
    → Looks g states f targets t here → next ≡ jump_at jumps f.node f.next → here ≡ Done → states2 ≡ states → order2 ≡ order → fs2 ≡ fs ++ record { node = f.node; next = next } ∷ [] → StepsTo g states order (fs ++ f ∷ []) states2 order2 fs2
steps_jumps g jumps states order fs f targets t here next states2 order2 fs2 graph leap w l e gone p o q =
    let es : List ℕ = edges_of g f.node in
    let i : ℕ = f.next in
    let node : f.node < length g = last_node g states order fs f w in
    let edges : es ≡ targets = l.edges in
    let more : i < length es = subst (λ ts. i < length ts) (sym edges) l.more in
    let on : i < next = subst (λ n. i < n) (sym e) (leap.on f.node i node more) in
    let within : next ≤ length es = subst (λ n. n ≤ length es) (sym e) (leap.within f.node i node more) in
    let leads : get_or es i 0 ≡ t = ap (λ ts. get_or ts i 0) edges ∙ sym l.target in
    let left : has order t ≡ true = w.done t (target_inside g states order fs f targets t here graph w l) ∙ ap is_done (state_is g states order fs f targets t here graph w l ∙ gone) in
    let first : (k : ℕ) → k < i + 1 → has order (get_or es k 0) ≡ true = (λ k b. ⊎_elim
    (λ (b : k < i). last_past g states order fs f w k b)
    (λ (s : k ≡ i). ap (λ n. has order (get_or es n 0)) s ∙ ap (has order) leads ∙ left)
    (before_or_last k i b)) in
    let repeats : (k : ℕ) → i < k → k < next → has (take k es) (get_or es k 0) ≡ true = (λ k a b. leap.repeats f.node i k node more a (subst (λ n. k < n) e b)) in
    let past : (k : ℕ) → k < next → has order (get_or es k 0) ≡ true = (λ k b. all_past es order i next within first repeats (k + 1) k (omega arith) b) in
    let one = steps_follows g states order fs f targets t here graph w l states order (fs ++ record { node = f.node; next = i + 1 } ∷ []) gone refl refl refl in
    rw (p, o, q) (passes g states order fs f.node graph (fs ++ f ∷ []) (next - (i + 1)) (i + 1) next (omega arith) within past one)

-- without jumps, each edge is followed
pub no_jumps : (g : List (List ℕ)) → JumpRepeats g []
no_jumps g = record {
  on = λ s i inside more. omega arith;
  within = λ s i inside more. omega arith;
  repeats = λ s i k inside more past below. absurd (omega arith);
}
