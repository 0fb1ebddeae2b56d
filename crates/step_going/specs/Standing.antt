-- When a step can go on from its last gated checkpoint: in an image, and in each image of a folder. An image and a
-- folder are taken by the bytes of each file. What the step does is left open: Q says of a reading that the step goes
-- on there, and `rests` on which first bytes of which files a checkpoint of it rests.
use Rattle.std.specs.Prelude.{◌≡◌, ◌⊎◌, ℕ, ◌≤◌, List, [], take, Option, Some, None}
use Rattle.shelf_model.specs.declared.file_no.FileNo.{FileNo}
use Rattle.shelf_model.specs.File.{no_file}
use Rattle.shelf_model.specs.Folder.{Folder, Image, file_in, bytes_in, IsImage}
use Rattle.file_numbers.specs.Files.{checkpoint_file, checkpoint_gate}
use Rattle.run_tiers.specs.Syncs.{IsFirm}
use Rattle.sweep_core.specs.declared.checkpoint.Checkpoint.{Checkpoint}
use Rattle.sweep_core.specs.Saving.{IsRestingPlace}
use Rattle.sweep_checkpoint.specs.Points.{point_bytes, Fits}
use Rattle.sweep_checkpoint.specs.Rules.{KeepsRules}
use Rattle.sweep_checkpoint.specs.Gated.{present, last_gated}
use Rattle.sweep_checkpoint.specs.Saves.{gated_size, IsGateSure}

-- the checkpoint is the last gated one of the step, whole, of that step, and keeps the rules
pub record IsLastOf (step : ℕ) (r : FileNo → List ℕ) (c : Checkpoint) : Type 0 where
  pub last : last_gated step r ≡ Some (point_bytes c)
  pub rules : KeepsRules step c
  pub words : Fits c

-- an image is safe for a step: none of its checkpoints is gated, or it goes on from the last one
abbrev pub IsSafe : ((FileNo → List ℕ) → Type 0) → ℕ → (FileNo → List ℕ) → Type 0
IsSafe Q step r = (r (checkpoint_gate step) ≡ []) ⊎ Q r

-- each image of the folder is
abbrev pub AreSafe : ((FileNo → List ℕ) → Type 0) → ℕ → Folder → Type 0
AreSafe Q step folder = (image : Image) → IsImage folder image → IsSafe Q step (bytes_in image)

-- whether the step goes on depends on its last gated checkpoint and on what that rests on alone
abbrev pub IsLocal : ((FileNo → List ℕ) → Type 0) → (Checkpoint → FileNo → ℕ → Type 0) → ℕ → Type 0
IsLocal Q rests step = (c : Checkpoint) (old new : FileNo → List ℕ) → IsLastOf step old c
    → last_gated step new ≡ last_gated step old
    → ((f : FileNo) (n : ℕ) → rests c f n → take n (new f) ≡ take n (old f)) → Q old → Q new

-- and it goes on from that checkpoint: one that keeps the rules, and rests on no file that a sweep of the step takes
abbrev pub IsFromLast : ((FileNo → List ℕ) → Type 0) → (Checkpoint → FileNo → ℕ → Type 0) → ℕ → Type 0
IsFromLast Q rests step = (r : FileNo → List ℕ) → Q r → (c : Checkpoint) × IsLastOf step r c
    × ((f : FileNo) (n : ℕ) → rests c f n → IsRestingPlace c f)

-- whatever a stop leaves, no checkpoint of the step is gated
abbrev pub HasNone : ℕ → Folder → Type 0
HasNone step folder = file_in folder (checkpoint_gate step) ≡ no_file

-- whatever a stop leaves, the last gated checkpoint is this one, and the step goes on from it: the gate is sure, and so
-- are the checkpoints that it counts, and all that this one rests on, which no sweep of the step takes from the next
-- part number on
pub record StandsIn (Q : (FileNo → List ℕ) → Type 0) (rests : Checkpoint → FileNo → ℕ → Type 0)
    (step next : ℕ) (folder : Folder) (c : Checkpoint) : Type 0 where
  pub last : IsLastOf step (present folder) c
  pub goes_on : Q (present folder)
  pub gate : IsGateSure step folder
  pub points : gated_size step folder ≤ (file_in folder (checkpoint_file step)).firm
  pub sure : (f : FileNo) (n : ℕ) → rests c f n → IsFirm (file_in folder f) ⊎ (n ≤ (file_in folder f).firm)
  pub apart : (f : FileNo) (n : ℕ) → rests c f n → IsRestingPlace c f
  pub taken : c.next_part ≤ next

-- none is gated, or it stands so with the last one
abbrev pub IsStanding : ((FileNo → List ℕ) → Type 0) → (Checkpoint → FileNo → ℕ → Type 0) → ℕ → ℕ → Folder
    → Option Checkpoint → Type 0
IsStanding Q rests step next folder None = HasNone step folder
IsStanding Q rests step next folder (Some c) = StandsIn Q rests step next folder c
