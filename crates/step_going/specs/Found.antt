-- How far a step has come, as its last gated checkpoint says.
use Rattle.std.specs.Prelude.{◌≡◌, ◌≢◌, ℕ, ◌+◌, ◌*◌, ◌≤◌, List, Option, Some, None}
use Rattle.shelf_model.specs.declared.file_no.FileNo.{FileNo}
use Rattle.shelf_model.specs.declared.fault.StreamFault.{StreamFault}
use Rattle.shelf_model.specs.declared.fault.StreamFault.TheVariants.{Shelf, Damaged}
use Rattle.shelf_model.specs.Folder.{Folder, file_in}
use Rattle.shelf_model.specs.Moments.{OnlyOldImages}
use Rattle.shelf_model.specs.World.{Moment, World, file}
use Rattle.file_numbers.specs.Files.{first_run_part, checkpoint_file}
use Rattle.run_tiers.specs.declared.run.Run.{Run}
use Rattle.run_tiers.specs.Syncs.{IsFirm}
use Rattle.sweep_core.specs.declared.checkpoint.Checkpoint.{Checkpoint}
use Rattle.sweep_core.specs.Saving.{IsRestingPlace}
use Rattle.sweep_checkpoint.specs.Gated.{present, gated_place, last_gated}
pub use Rattle.sweep_checkpoint.specs.Going.{IsPaid}
use Rattle.sweep_checkpoint.specs.Loads.{Tells}
use Rattle.sweep_checkpoint.specs.Rules.{KeepsRules, IsPointOf}
use Rattle.sweep_checkpoint.specs.Saves.{IsGateSure}
use Rattle.sweep_checkpoint.specs.declared.going.Going.{Going}

-- nothing was done of the step; or the turns and the sweep are those of a checkpoint that keeps the rules, and few part
-- numbers were taken for its turns
abbrev pub IsComeTo : Option Checkpoint → Going → Type 0
IsComeTo None going = (going.turns ≡ 0) × (going.sweep ≡ 0)
IsComeTo (Some c) going = (going.turns ≡ c.turns) × (going.sweep ≡ c.sweep) × KeepsRules going.step c
    × IsPaid c

-- how far the step of that number has come, in a run with that budget
pub record IsGoingOf (step budget : ℕ) (going : Going) : Type 0 where
  pub step_is : going.step ≡ step
  pub budget_is : going.budget ≡ budget
  pub shown_is : going.shown ≡ going.turns
  pub come_to : IsComeTo going.last going

-- a file of the step
abbrev pub IsOf : ℕ → FileNo → Type 0
IsOf step f = f.step ≡ step

-- the file of that part of the step is sure
abbrev pub IsSurePart : ℕ → World → ℕ → Type 0
IsSurePart step w part = IsFirm (file w (record { step = step; part = part }))

-- the run that stands in a slot is; a slot without one has part 0
abbrev pub IsSureRun : ℕ → World → Run → Type 0
IsSureRun step w run = first_run_part ≤ run.part → IsSurePart step w run.part

-- the checkpoints are sure, and so are all files of the step on which this one may rest
pub record AreSecured (step : ℕ) (folder : Folder) (c : Checkpoint) : Type 0 where
  pub points : IsFirm (file_in folder (checkpoint_file step))
  pub rests : (f : FileNo) → f.step ≡ step → IsRestingPlace c f → IsFirm (file_in folder f)

-- so it is where there is a checkpoint
abbrev pub IsSecuredFor : ℕ → Folder → Option Checkpoint → Type 0
IsSecuredFor step folder None = Unit
IsSecuredFor step folder (Some c) = AreSecured step folder c

-- the gate is sure, and what was found is what it counts last; and that is sure
pub record IsFound (step : ℕ) (folder : Folder) (found : Option Checkpoint) : Type 0 where
  pub gate : IsGateSure step folder
  pub last : Tells step (last_gated step (present folder)) found
  pub secured : IsSecuredFor step folder found

-- meanwhile files of other steps stay, reads give what they gave, and no image is new
pub record DuringFind (step : ℕ) (old m : Moment) : Type 0 where
  pub others : (f : FileNo) → f.step ≢ step → file_in m.folder f ≡ file_in old.folder f
  pub reads : (f : FileNo) → (file_in m.folder f).bytes ≡ (file_in old.folder f).bytes
  pub images : OnlyOldImages old m

-- damage is at the place of the last gated checkpoint: its bytes are none that keeps the rules, or too many parts were
-- taken for its turns
abbrev pub IsFindFault : ℕ → (FileNo → List ℕ) → StreamFault → Type 0
IsFindFault step r Shelf = Unit
IsFindFault step r (Damaged f at) = (f ≡ checkpoint_file step) × (at ≡ gated_place step r)
    × ((bytes : List ℕ) × (last_gated step r ≡ Some bytes)
    × ((c : Checkpoint) → IsPointOf step bytes c → ¬ (IsPaid c)))
