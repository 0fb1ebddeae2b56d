-- A walk at any moment: the nodes on the way from the root, and those that were visited.
use Rattle.std.specs.Prelude.{◌≡◌, ℕ, zero, suc, ◌+◌, ◌-◌, ◌*◌, ◌<◌, ◌≢◌, Bool, true, false, List, [], ◌∷◌, ◌++◌, length, drop, fold, sum_by, count_by, slice_index}
use Rattle.std.specs.List.{slice_index_or}
use Rattle.depth_first.specs.declared.state.State.{State}
use Rattle.depth_first.specs.declared.state.State.TheVariants.{New, OnWay, Done}
use Rattle.depth_first.specs.declared.walk.Frame.{Frame}
use Rattle.depth_first.specs.Graph.{edges_of, has, visit, visits, IsTopological}

-- the node of the frame at a place of the way
abbrev pub node_at : List Frame → ℕ → ℕ
node_at stack p = (slice_index_or stack p (record { node = 0; next = 0 })).node

-- how many of its edges were followed
abbrev pub next_at : List Frame → ℕ → ℕ
next_at stack p = (slice_index_or stack p (record { node = 0; next = 0 })).next

-- where a node stands
abbrev pub state_at : List State → ℕ → State
state_at states s = slice_index_or states s New

-- a node that wasn't entered
abbrev pub is_new : State → Bool
is_new New = true
is_new OnWay = false
is_new Done = false

-- a node that was left
abbrev pub is_done : State → Bool
is_done New = false
is_done OnWay = false
is_done Done = true

-- a node is that of a frame of the way
abbrev pub IsOnWay : List Frame → ℕ → Type 0
IsOnWay stack s = (p : ℕ) × (p < length stack) × (node_at stack p ≡ s)

-- what a walk keeps: each node is new, on the way, or in the order, and on the way it stands once
pub record IsWalk (g : List (List ℕ)) (states : List State) (order : List ℕ) (stack : List Frame) : Type 0 where
  pub size : length states ≡ length g
  pub small : length g < 4294967294
  pub tally : count_by is_new states + length stack + length order ≡ length g
  pub nodes : (p : ℕ) → p < length stack → node_at stack p < length g
  pub entered : (p : ℕ) → p < length stack → state_at states (node_at stack p) ≡ OnWay
  pub apart : (p q : ℕ) → p < q → q < length stack → node_at stack p ≢ node_at stack q
  pub done : (s : ℕ) → s < length g → has order s ≡ is_done (state_at states s)
  pub way : (s : ℕ) → s < length g → state_at states s ≡ OnWay → IsOnWay stack s
  pub past : (p i : ℕ) → p < length stack → i < next_at stack p
      → has order (slice_index (edges_of g (node_at stack p)) i) ≡ true
  pub chain : (p : ℕ) → p + 1 < length stack → next_at stack p < length (edges_of g (node_at stack p))
  pub links : (p : ℕ) → p + 1 < length stack
      → slice_index (edges_of g (node_at stack p)) (next_at stack p) ≡ node_at stack (p + 1)
  pub above : IsTopological g order
  pub inside : (k : ℕ) → k < length order → slice_index order k < length g

-- the order once the frames of the way are finished, the last of them first
unfoldable pub resumed : ℕ → List (List ℕ) → List Frame → List ℕ → List ℕ
resumed zero g stack seen = seen
resumed (suc d) g [] seen = seen
resumed (suc d) g (f ∷ fs) seen = fold (λ us t. visit d g us t) (resumed d g fs seen)
    (drop f.next (edges_of g f.node)) ++ f.node ∷ []

-- the work that a frame may still make
abbrev pub frame_work : List (List ℕ) → Frame → ℕ
frame_work g f = 1 + (length (edges_of g f.node) - f.next)

-- the work that a walk may still make
unfoldable pub work : List (List ℕ) → List State → List Frame → ℕ
work g states stack = count_by is_new states * (2 + sum_by (λ es. length es) g) + sum_by (frame_work g) stack

-- one step of a walk: it is still one, the order that it leads to stays, and less work is left
pub record StepsTo (g : List (List ℕ)) (states : List State) (order : List ℕ) (stack : List Frame)
    (states2 : List State) (order2 : List ℕ) (stack2 : List Frame) : Type 0 where
  pub walk : IsWalk g states2 order2 stack2
  pub same : resumed (length g) g stack2 order2 ≡ resumed (length g) g stack order
  pub less : work g states2 stack2 < work g states stack

-- a root was visited: the way is empty again, and the order is the one that the visit leaves
pub record Visited (g : List (List ℕ)) (seen : List ℕ) (root : ℕ) (states2 : List State) (order2 : List ℕ)
    (stack2 : List Frame) : Type 0 where
  pub walk : IsWalk g states2 order2 stack2
  pub empty : stack2 ≡ []
  pub order : order2 ≡ visit (length g) g seen root

-- roots were visited from the beginning
pub record WalkOver (g : List (List ℕ)) (roots : List ℕ) (states2 : List State) (order2 : List ℕ)
    (stack2 : List Frame) : Type 0 where
  pub walk : IsWalk g states2 order2 stack2
  pub empty : stack2 ≡ []
  pub order : order2 ≡ visits g roots
