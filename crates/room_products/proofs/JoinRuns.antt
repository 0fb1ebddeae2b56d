-- The calls that join two diagrams: looks, and the making of one file.
use Rattle.std.proofs.Common.{ℕ, ◌+◌, ◌≤◌, Bool, arith}
use Rattle.shelf_model.specs.declared.file_no.FileNo.{FileNo}
use Rattle.shelf_model.specs.Calls.{Told}
use Rattle.shelf_model.specs.World.{World}
use Rattle.shelf_model.proofs.Runs.{told, told_then}
use Rattle.block_stream.specs.Reads.{Looked}
use Rattle.node_file.specs.Changes.{Changed}
use Rattle.node_file.proofs.FileChanges.{looked_changes, changed_after}

module _ {S : Type 0} (tells : S → Bool) (world : S → World) (f : FileNo) where
  -- looks are no more changes
  pub told_looked : (m n : ℕ) (old new : S) → m ≤ n → Told tells old new (Looked m (world old) (world new))
      → Told tells old new (Changed n f (world old) (world new))
  told_looked m n old new within did =
      told tells old new _ _ did (λ _ looked. looked_changes m n f (world old) (world new) within looked)

  -- a change after a look
  pub told_after : (m n k : ℕ) (old mid new : S) → m + n ≤ k → Told tells old mid (Looked m (world old) (world mid))
      → Told tells mid new (Changed n f (world mid) (world new))
      → Told tells old new (Changed k f (world old) (world new))
  told_after m n k old mid new within first second = told_then tells old mid new _ _ _ first second
      (λ _ looked changed. changed_after m n k f (world old) (world mid) (world new) within
      (looked_changes m m f (world old) (world mid) (omega arith) looked) changed)
