-- How many nodes are new, and the work that is left.
use Rattle.std.proofs.Common.{◌≡◌, ℕ, ◌+◌, ◌<◌, ◌≤◌, false, List, [], ◌∷◌, ◌++◌, length, get_or, set, ap, subst, cond, arith}
use Rattle.std.proofs.lemmas.List.Sums.{sum_by-set, sum_by-append, get_or-le-sum_by}
use Rattle.std.specs.List.{count_by, sum_by}
use Rattle.depth_first.specs.declared.state.State.{State}
use Rattle.depth_first.specs.declared.state.State.TheVariants.{New, OnWay, Done}
use Rattle.depth_first.specs.declared.walk.Frame.{Frame}
use Rattle.depth_first.specs.Graph.{edges_of}
use Rattle.depth_first.specs.Walk.{is_new, frame_work, work}

-- a node that isn't new is left
pub count_left : (states : List State) (s : ℕ) → s < length states → is_new (get_or states s New) ≡ false → count_by is_new (set states s Done) ≡ count_by is_new states
count_left states s within old =
    let counted : count_by is_new (set states s Done) + cond (is_new (get_or states s New)) 1 0 ≡ count_by is_new states + 0 = sum_by-set (λ x. cond (is_new x) 1 0) states s Done New within in
    let counted2 : count_by is_new (set states s Done) + 0 ≡ count_by is_new states + 0 = subst (λ b. count_by is_new (set states s Done) + cond b 1 0 ≡ count_by is_new states + 0) old counted in
    omega arith

-- a new node is entered
pub count_entered : (states : List State) (t : ℕ) → t < length states → get_or states t New ≡ New → count_by is_new (set states t OnWay) + 1 ≡ count_by is_new states
count_entered states t within fresh =
    let counted : count_by is_new (set states t OnWay) + cond (is_new (get_or states t New)) 1 0 ≡ count_by is_new states + 0 = sum_by-set (λ x. cond (is_new x) 1 0) states t OnWay New within in
    let counted2 : count_by is_new (set states t OnWay) + 1 ≡ count_by is_new states + 0 = subst (λ b. count_by is_new (set states t OnWay) + cond b 1 0 ≡ count_by is_new states + 0) (ap is_new fresh) counted in
    omega arith

-- a frame that is taken off takes its work with it
pub work_leaves : (g : List (List ℕ)) (states : List State) (fs : List Frame) (f : Frame) → f.node < length states → is_new (get_or states f.node New) ≡ false → work g (set states f.node Done) fs < work g states (fs ++ f ∷ [])
unfolding work
work_leaves g states fs f within old =
    let counted = count_left states f.node within old in
    let summed = sum_by-append (frame_work g) fs (f ∷ []) in
    rw counted (omega arith)

-- a frame with one more edge followed has less work
pub work_follows : (g : List (List ℕ)) (states : List State) (fs : List Frame) (f : Frame) → f.next < length (edges_of g f.node) → work g states (fs ++ record { node = f.node; next = f.next + 1 } ∷ []) < work g states (fs ++ f ∷ [])
unfolding work
work_follows g states fs f more =
    let summed = sum_by-append (frame_work g) fs (f ∷ []) in
    let summed2 = sum_by-append (frame_work g) fs (record { node = f.node; next = f.next + 1 } ∷ []) in
    omega arith

-- a node that is entered is new no longer
pub work_enters : (g : List (List ℕ)) (states : List State) (stack : List Frame) (t : ℕ) → t < length g → t < length states → get_or states t New ≡ New → work g (set states t OnWay) (stack ++ record { node = t; next = 0 } ∷ []) < work g states stack
unfolding work
work_enters g states stack t inside within fresh =
    let counted = count_entered states t within fresh in
    let summed = sum_by-append (frame_work g) stack (record { node = t; next = 0 } ∷ []) in
    let edges : length (edges_of g t) ≤ sum_by (λ es. length es) g = get_or-le-sum_by (λ (es : List ℕ). length es) g t [] inside in
    let k : ℕ = 2 + sum_by (λ es. length es) g in
    rw (← counted) (omega arith)
