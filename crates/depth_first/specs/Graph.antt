-- Graphs: for each node, the nodes that it leads to.
use Rattle.std.specs.Prelude.{◌≡◌, ℕ, zero, suc, ◌<◌, ◌≤◌, ◌==◌, Bool, true, List, [], ◌∷◌, ◌++◌, length, take, fold, slice_index, if◌then◌else◌}
use Rattle.std.specs.List.{slice_index_or, list_any}

-- a list has a number
abbrev pub has : List ℕ → ℕ → Bool
has xs x = list_any (λ y. y == x) xs

-- the nodes that a node leads to
abbrev pub edges_of : List (List ℕ) → ℕ → List ℕ
edges_of g s = slice_index_or g s []

-- every edge leads to a node
abbrev pub IsGraph : List (List ℕ) → Type 0
IsGraph g = (s i : ℕ) → s < length g → i < length (edges_of g s) → slice_index (edges_of g s) i < length g

-- a node leads to another, directly or through others
pub data Reaches (g : List (List ℕ)) : ℕ → ℕ → Type 0 where
  directly : (s t : ℕ) → has (edges_of g s) t ≡ true → Reaches g s t
  through : (s u t : ℕ) → has (edges_of g s) u ≡ true → Reaches g u t → Reaches g s t

-- no node leads to itself
abbrev pub IsAcyclic : List (List ℕ) → Type 0
IsAcyclic g = (s : ℕ) → Reaches g s s → ⊥

-- a node leads to itself, and no smaller one does
pub record IsFirstOnCycle (g : List (List ℕ)) (s : ℕ) : Type 0 where
  pub inside : s < length g
  pub around : Reaches g s s
  pub smallest : (t : ℕ) → t < s → Reaches g t t → ⊥

-- A visit adds a node behind the nodes that it leads to, which are visited in their order; a node that was
-- visited before adds nothing. The number bounds the depth.
unfoldable pub visit : ℕ → List (List ℕ) → List ℕ → ℕ → List ℕ
visit zero g seen s = seen
visit (suc d) g seen s = if has seen s then seen else fold (λ us t. visit d g us t) seen (edges_of g s) ++ s ∷ []

-- the nodes that are visited from some nodes in order; no way through different nodes is longer than the graph has
-- nodes
abbrev pub visits : List (List ℕ) → List ℕ → List ℕ
visits g roots = fold (λ us t. visit (length g) g us t) [] roots

-- each node stands behind those that it leads to
abbrev pub IsTopological : List (List ℕ) → List ℕ → Type 0
IsTopological g order = (k i : ℕ) → k < length order → i < length (edges_of g (slice_index order k))
    → has (take k order) (slice_index (edges_of g (slice_index order k)) i) ≡ true

-- no edge leads to a node with a larger number
abbrev pub NeverRises : List (List ℕ) → List ℕ → Type 0
NeverRises g numbers = (s i : ℕ) → s < length g → i < length (edges_of g s)
    → slice_index numbers (slice_index (edges_of g s) i) ≤ slice_index numbers s

-- each edge of a node leads to a smaller number
abbrev pub FallsAt : List (List ℕ) → List ℕ → ℕ → Type 0
FallsAt g numbers s = (i : ℕ) → i < length (edges_of g s)
    → slice_index numbers (slice_index (edges_of g s) i) < slice_index numbers s
