-- What holds at each moment while a file is written.
use Rattle.std.specs.Prelude.{◌≡◌, ℕ, ◌+◌, ◌-◌, ◌/◌, ◌≤◌, max, List, ◌++◌, length, take}
use Rattle.shelf_model.specs.declared.file_no.FileNo.{FileNo}
use Rattle.shelf_model.specs.File.{IsKept}
use Rattle.shelf_model.specs.Folder.{file_in}
use Rattle.shelf_model.specs.World.{Moment}
use Rattle.shelf_model.specs.Calls.{most_piece}
use Rattle.shelf_model.specs.Moments.{OnlyChanged}
use Rattle.file_writes.specs.Present.{present}

-- how many pieces that many bytes make
abbrev pub pieces : ℕ → ℕ
pieces n = (n + (most_piece - 1)) / most_piece

-- every other file is as it was then
abbrev pub OthersStay : FileNo → Moment → Moment → Type 0
OthersStay f old m = OnlyChanged (λ q. q ≡ f) old m

-- while n bytes are put at the end of a file: what it kept it keeps, and what is read of it stays
pub record Growing (f : FileNo) (n : ℕ) (old m : Moment) : Type 0 where
  pub others : OthersStay f old m
  pub reads : (more : List ℕ) × (present m.folder f ≡ present old.folder f ++ more)
  pub kept : (front : List ℕ)
      → IsKept front (file_in old.folder f) → IsKept front (file_in m.folder f)
  pub reach : (file_in m.folder f).reach
      ≤ max (file_in old.folder f).reach (length (present old.folder f) + n)

-- while what stands from a place on is replaced by n bytes: what the file kept before the place it keeps, and what is
-- read of it there stays
pub record Replacing (f : FileNo) (at n : ℕ) (old m : Moment) : Type 0 where
  pub others : OthersStay f old m
  pub reads : take at (present m.folder f) ≡ take at (present old.folder f)
  pub kept : (front : List ℕ) → length front ≤ at
      → IsKept front (file_in old.folder f) → IsKept front (file_in m.folder f)
  pub reach : (file_in m.folder f).reach ≤ max (file_in old.folder f).reach (at + n)
