-- A search at any moment: which nodes were reached, and whose edges are still to be followed.
use Rattle.std.specs.Prelude.{◌≡◌, ℕ, ◌+◌, ◌<◌, ◌||◌, Bool, true, false, not, List, length, count_by, slice_index}
use Rattle.std.specs.List.{slice_index_or}
use Rattle.depth_first.specs.Graph.{has, edges_of, Reaches}

-- a node that wasn't reached
abbrev pub is_unreached : Bool → Bool
is_unreached reached = not reached

-- whether a node was reached
abbrev pub reached_at : List Bool → ℕ → Bool
reached_at reached t = slice_index_or reached t false

-- nodes are reached now too, and those that are new join the others whose edges are still to be followed
pub record Spreads (targets : List ℕ) (reached : List Bool) (later : List ℕ) (reached2 : List Bool)
    (later2 : List ℕ) : Type 0 where
  pub size : length reached2 ≡ length reached
  pub marks : (t : ℕ) → t < length reached → reached_at reached2 t ≡ (reached_at reached t || has targets t)
  pub joins : (t : ℕ) → t < length reached → reached_at reached t ≡ false → reached_at reached2 t ≡ true
      → has later2 t ≡ true
  pub keeps : (t : ℕ) → has later t ≡ true → has later2 t ≡ true
  pub only : (t : ℕ) → has later2 t ≡ true → has later t ≡ false → (t < length reached) × (reached_at reached2 t ≡ true)
  pub tally : count_by is_unreached reached2 + length later2 ≡ count_by is_unreached reached + length later

-- a search from a node: what was reached can be, and what can be is reached or lies behind what is still to be followed
pub record IsSearch (g : List (List ℕ)) (node : ℕ) (reached : List Bool) (later : List ℕ) : Type 0 where
  pub size : length reached ≡ length g
  pub found : (t : ℕ) → t < length g → reached_at reached t ≡ true → Reaches g node t
  pub waits : (t : ℕ) → has later t ≡ true → (t < length g) × (reached_at reached t ≡ true)
  pub first : (i : ℕ) → i < length (edges_of g node) → reached_at reached (slice_index (edges_of g node) i) ≡ true
  pub closed : (t i : ℕ) → t < length g → reached_at reached t ≡ true → has later t ≡ false → i < length (edges_of g t)
      → reached_at reached (slice_index (edges_of g t) i) ≡ true

-- the nodes that were reached are those that a node leads to
pub record AreReached (g : List (List ℕ)) (node : ℕ) (reached : List Bool) : Type 0 where
  pub size : length reached ≡ length g
  pub found : (t : ℕ) → t < length g → reached_at reached t ≡ true → Reaches g node t
  pub all : (t : ℕ) → Reaches g node t → reached_at reached t ≡ true
