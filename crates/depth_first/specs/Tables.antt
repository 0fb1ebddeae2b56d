-- Tables in which a few entries are written, and made blank again.
use Rattle.std.specs.Prelude.{◌≡◌, ℕ, ◌<◌, false, List, length}
use Rattle.std.specs.List.{slice_index_or}
use Rattle.depth_first.specs.Graph.{has}

-- the entries of a table are blank, but for those at some places
abbrev pub IsBlankBut : {X : Type 0} → List ℕ → X → List X → Type 0
IsBlankBut places blank table =
    (k : ℕ) → k < length table → has places k ≡ false → slice_index_or table k blank ≡ blank
