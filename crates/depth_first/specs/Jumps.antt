-- Jumps over edges that need not be followed.
use Rattle.std.specs.Prelude.{◌≡◌, ℕ, ◌+◌, ◌<◌, ◌≤◌, true, List, length, take, slice_index}
use Rattle.std.specs.List.{slice_index_or}
use Rattle.depth_first.specs.Graph.{edges_of, has}

-- the place of the edge of a node that is followed behind the one at a place: the next, where no jump is noted
abbrev pub jump_at : List (List ℕ) → ℕ → ℕ → ℕ
jump_at jumps s i = slice_index_or (edges_of jumps s) i (i + 1)

-- jumps lead on among the edges of their node, and over edges alone that lead where one before them leads
pub record JumpRepeats (g jumps : List (List ℕ)) : Type 0 where
  pub on : (s i : ℕ) → s < length g → i < length (edges_of g s) → i < jump_at jumps s i
  pub within : (s i : ℕ) → s < length g → i < length (edges_of g s) → jump_at jumps s i ≤ length (edges_of g s)
  pub repeats : (s i k : ℕ) → s < length g → i < length (edges_of g s) → i < k → k < jump_at jumps s i
      → has (take k (edges_of g s)) (slice_index (edges_of g s) k) ≡ true
