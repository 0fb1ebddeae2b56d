-- What holds while the last checkpoint is loaded, and what a load tells.
use Rattle.std.specs.Prelude.{◌≡◌, ◌≢◌, ℕ, ◌+◌, ◌<◌, Bool, true, false, List, length, take, drop, Option, Some, None}
use Rattle.shelf_model.specs.declared.file_no.FileNo.{FileNo}
use Rattle.shelf_model.specs.declared.fault.StreamFault.{StreamFault}
use Rattle.shelf_model.specs.declared.fault.StreamFault.TheVariants.{Shelf, Damaged}
use Rattle.shelf_model.specs.Folder.{Folder, file_in}
use Rattle.shelf_model.specs.World.{Moment}
use Rattle.shelf_model.specs.Moments.{OnlyOldImages}
use Rattle.sweep_core.specs.declared.checkpoint.Checkpoint.{Checkpoint}
use Rattle.file_numbers.specs.Files.{checkpoint_file, checkpoint_gate}
use Rattle.sweep_checkpoint.specs.Points.{point_size}
use Rattle.sweep_checkpoint.specs.Rules.{IsPointOf}
use Rattle.sweep_checkpoint.specs.Gated.{present, gated_place, last_gated}
use Rattle.sweep_checkpoint.specs.Saves.{IsGateSure}

-- while the gate is made sure: other files stay, reads give what they gave, and no image is new
pub record DuringLoad (step : ℕ) (old m : Moment) : Type 0 where
  pub others : (q : FileNo) → q ≢ checkpoint_gate step → file_in m.folder q ≡ file_in old.folder q
  pub reads : (q : FileNo) → (file_in m.folder q).bytes ≡ (file_in old.folder q).bytes
  pub images : OnlyOldImages old m

-- none where nothing is gated, and else the checkpoint that the last gated bytes are
abbrev pub Tells : ℕ → Option (List ℕ) → Option Checkpoint → Type 0
Tells step None None = Unit
Tells step None (Some c) = ⊥
Tells step (Some bytes) None = ⊥
Tells step (Some bytes) (Some c) = IsPointOf step bytes c

-- after a load: the gate is sure, and what was found is what it counts last
pub record IsLoaded (step : ℕ) (folder : Folder) (found : Option Checkpoint) : Type 0 where
  pub sure : IsGateSure step folder
  pub last : Tells step (last_gated step (present folder)) found

-- damage is at the place of the last gated checkpoint, where its bytes are none that keeps the rules
abbrev pub IsLoadFault : ℕ → (FileNo → List ℕ) → StreamFault → Type 0
IsLoadFault step r Shelf = Unit
IsLoadFault step r (Damaged f at) = (f ≡ checkpoint_file step) × (at ≡ gated_place step r)
    × ((bytes : List ℕ) × (last_gated step r ≡ Some bytes) × ((c : Checkpoint) → ¬ (IsPointOf step bytes c)))

-- the bytes of a checkpoint at a place, or fewer where the file ends
abbrev pub bytes_at : ℕ → List ℕ → List ℕ
bytes_at at bytes = take point_size (drop at bytes)

-- the checkpoint stands at the place
abbrev pub IsPointAt : ℕ → ℕ → List ℕ → Checkpoint → Type 0
IsPointAt step at bytes c = IsPointOf step (bytes_at at bytes) c

-- none does
abbrev pub IsPointFault : ℕ → ℕ → List ℕ → StreamFault → Type 0
IsPointFault step at bytes Shelf = Unit
IsPointFault step at bytes (Damaged f place) = (f ≡ checkpoint_file step) × (place ≡ at)
    × ((c : Checkpoint) → ¬ (IsPointOf step (bytes_at at bytes) c))

-- so many bytes from a place on were read, where the file has them
abbrev pub ReadWhole : List ℕ → ℕ → List ℕ → Bool → Type 0
ReadWhole source at read true = read ≡ take (length read) (drop at source)
ReadWhole source at read false = length source < at + length read
