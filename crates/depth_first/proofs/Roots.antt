-- Visits of roots.
use Rattle.std.proofs.Common.{◌≡◌, ℕ, suc, ◌-◌, ◌<◌, true, false, List, [], ◌∷◌, length, get_or, set, refl, sym, ap, ◌∙◌, subst, arith}
use Rattle.depth_first.specs.declared.state.State.{State}
use Rattle.depth_first.specs.declared.state.State.TheVariants.{New, OnWay, Done}
use Rattle.depth_first.specs.declared.walk.Frame.{Frame}
use Rattle.depth_first.specs.Graph.{has, visit}
use Rattle.depth_first.specs.Walk.{IsWalk, Visited, resumed, is_done}
use Rattle.depth_first.specs.Tables.{IsBlankBut}
use Rattle.depth_first.proofs.Keeps.{enters}
use Rattle.depth_first.proofs.Resumes.{visit_seen, resumed_root, resumed_none}

-- a node that wasn't left and isn't on the way is new
pub new_or_else : (state : State) → is_done state ≡ false → (state ≡ OnWay → ⊥) → state ≡ New
new_or_else New other off = refl
new_or_else OnWay other off = absurd (off refl)
new_or_else Done other off = let never : true ≡ false = other in absurd (cc)

module _ (g : List (List ℕ)) (states : List State) (order : List ℕ) (root : ℕ) (inside : root < length g) (w : IsWalk g states order []) where
  -- a root that was left adds nothing
  pub visits_nothing : is_done (get_or states root New) ≡ true → Visited g order root states order []
  visits_nothing gone = record { walk = w; empty = refl; order = sym (visit_seen (length g) g order root (w.done root inside ∙ gone)) }

  -- where the way is empty, each other node is new
  pub is_fresh : is_done (get_or states root New) ≡ false → get_or states root New ≡ New
  is_fresh other = new_or_else _ other (λ on.
      let there = w.way root inside on in
      let none : there.0 < 0 = there.1 in
      absurd (omega arith))

  -- the way of a root that is new
  pub begins : (states2 : List State) (order2 : List ℕ) (stack2 : List Frame) → get_or states root New ≡ New → states2 ≡ set states root OnWay → order2 ≡ order → stack2 ≡ record { node = root; next = 0 } ∷ []
      → IsWalk g states2 order2 stack2 × (resumed (length g) g stack2 order2 ≡ visit (length g) g order root)
  begins states2 order2 stack2 fresh p o s =
      let d : ℕ = length g - 1 in
      let n : length g ≡ suc d = omega arith in
      let unseen : has order root ≡ false = w.done root inside ∙ ap is_done fresh in
      rw (p, o, s) (
        enters g states order [] root w inside fresh (λ p e. absurd (omega arith)),
        (ap (λ m. resumed m g (record { node = root; next = 0 } ∷ []) order) n ∙ resumed_root d g order root unseen ∙ ap (λ m. visit m g order root) (sym n)),
      )

-- where no frame is left, each node that isn't in the order is new
pub others_are_new : (g : List (List ℕ)) (states : List State) (order : List ℕ) (stack : List Frame) → IsWalk g states order stack → stack ≡ [] → IsBlankBut order New states
others_are_new g states order stack walk none k lt absent =
    let w : IsWalk g states order [] = subst (IsWalk g states order) none walk in
    let size : length states ≡ length g = w.size in
    let inside : k < length g = omega arith in
    is_fresh g states order k inside w (sym (w.done k inside) ∙ absent)

-- where the way is empty, the root was visited
pub finishes : (g : List (List ℕ)) (seen : List ℕ) (root : ℕ) (states : List State) (order : List ℕ) (stack stack2 : List Frame) → IsWalk g states order stack → resumed (length g) g stack order ≡ visit (length g) g seen root → stack ≡ [] → stack2 ≡ [] → Visited g seen root states order stack2
finishes g seen root states order stack stack2 w same none none2 =
    rw none2 (record { walk = subst (IsWalk g states order) none w; empty = refl; order = sym (ap (λ s. resumed (length g) g s order) none ∙ resumed_none (length g) g order) ∙ same })

-- a list without elements
pub nil_of_length : {X : Type 0} (xs : List X) → length xs ≡ 0 → xs ≡ []
nil_of_length [] e = refl
nil_of_length (x ∷ xs) e = absurd (omega arith)
