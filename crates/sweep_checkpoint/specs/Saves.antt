-- What holds at each moment while a checkpoint is saved, and what that leaves.
use Rattle.std.specs.Prelude.{◌≡◌, ◌≢◌, ◌⊎◌, ℕ, ◌*◌, ◌<◌, ◌≤◌, List, [], ◌∷◌, ◌++◌, length, take, Some}
use Rattle.shelf_model.specs.declared.file_no.FileNo.{FileNo}
use Rattle.shelf_model.specs.declared.fault.StreamFault.{StreamFault}
use Rattle.shelf_model.specs.declared.fault.StreamFault.TheVariants.{Shelf, Damaged}
use Rattle.shelf_model.specs.File.{firm_file, IsKept}
use Rattle.shelf_model.specs.Folder.{Folder, Image, file_in, bytes_in, IsImage}
use Rattle.shelf_model.specs.World.{Moment}
use Rattle.sweep_core.specs.declared.checkpoint.Checkpoint.{Checkpoint}
use Rattle.file_numbers.specs.Files.{checkpoint_file, checkpoint_gate}
use Rattle.sweep_checkpoint.specs.Points.{point_size, point_bytes}
use Rattle.sweep_checkpoint.specs.Gated.{present, gated_count, gated_place, last_gated}

-- how long the checkpoints that are gated are together
abbrev pub gated_size : ℕ → Folder → ℕ
gated_size step folder = point_size * gated_count step (present folder)

-- the gate is its own only image
abbrev pub IsGateSure : ℕ → Folder → Type 0
IsGateSure step folder = file_in folder (checkpoint_gate step) ≡ firm_file (file_in folder (checkpoint_gate step)).bytes

-- the checkpoint is the last one that is gated
abbrev pub IsLast : Checkpoint → (FileNo → List ℕ) → Type 0
IsLast c r = last_gated c.step r ≡ Some (point_bytes c)

-- the last one that is gated is that of an image that a stop might have left then
pub record IsLastBefore (step : ℕ) (old : Folder) (r : FileNo → List ℕ) : Type 0 where
  pub before : Image
  pub is_image : IsImage old before
  pub same : last_gated step r ≡ last_gated step (bytes_in before)

-- while a checkpoint is saved: other files stay, and so do the checkpoints that are gated, as they are sure and as they
-- are read; the gate only grows; and where the gate was sure, the last one that is gated is in each image one of
-- before, or this one
pub record DuringSave (c : Checkpoint) (old m : Moment) : Type 0 where
  pub others : (q : FileNo) → q ≢ checkpoint_file c.step → q ≢ checkpoint_gate c.step
      → file_in m.folder q ≡ file_in old.folder q
  pub kept : (front : List ℕ) → length front ≤ gated_size c.step old.folder
      → IsKept front (file_in old.folder (checkpoint_file c.step)) → IsKept front (file_in m.folder (checkpoint_file c.step))
  pub reads : take (gated_size c.step old.folder) (file_in m.folder (checkpoint_file c.step)).bytes
      ≡ take (gated_size c.step old.folder) (file_in old.folder (checkpoint_file c.step)).bytes
  pub gate_kept : (front : List ℕ)
      → IsKept front (file_in old.folder (checkpoint_gate c.step)) → IsKept front (file_in m.folder (checkpoint_gate c.step))
  pub gate_reads : (more : List ℕ)
      × ((file_in m.folder (checkpoint_gate c.step)).bytes ≡ (file_in old.folder (checkpoint_gate c.step)).bytes ++ more)
  pub images : IsGateSure c.step old.folder → (image : Image) → IsImage m.folder image
      → IsLastBefore c.step old.folder (bytes_in image) ⊎ IsLast c (bytes_in image)

-- after a save: the checkpoint stands behind those that were gated, it is gated, and it is the last one in each image
pub record IsSaved (c : Checkpoint) (old new : Folder) : Type 0 where
  pub covers : gated_size c.step old ≤ length (file_in old (checkpoint_file c.step)).bytes
  pub points_are : file_in new (checkpoint_file c.step)
      ≡ firm_file (take (gated_size c.step old) (file_in old (checkpoint_file c.step)).bytes ++ point_bytes c)
  pub gate_is : file_in new (checkpoint_gate c.step) ≡ firm_file ((file_in old (checkpoint_gate c.step)).bytes ++ 0 ∷ [])
  pub reads : IsLast c (present new)
  pub images : (image : Image) → IsImage new image → IsLast c (bytes_in image)

-- damage is at the place of the last one that is gated, where the file ends before the gate says; then nothing changed
abbrev pub IsSaveFault : ℕ → Folder → Folder → StreamFault → Type 0
IsSaveFault step old new Shelf = Unit
IsSaveFault step old new (Damaged f at) = (f ≡ checkpoint_file step) × (at ≡ gated_place step (present old))
    × (length (file_in old (checkpoint_file step)).bytes < gated_size step old) × (new ≡ old)
