-- What a stop may leave while a sweep goes on and is saved at times.
use Rattle.std.specs.Prelude.{◌≡◌, ◌≢◌, ◌⊎◌, ℕ, ◌+◌, ◌-◌, ◌*◌, ◌^◌, ◌<◌, ◌≤◌, min, max, List, length, take, Option, Some}
use Rattle.shelf_model.specs.declared.file_no.FileNo.{FileNo}
use Rattle.shelf_model.specs.declared.sort_fault.SortFault.{SortFault}
use Rattle.shelf_model.specs.declared.sort_fault.SortFault.TheVariants.{Shelf, Damaged, RunsSpent}
use Rattle.shelf_model.specs.Folder.{Folder, Image, file_in, bytes_in, IsImage}
use Rattle.shelf_model.specs.World.{World}
use Rattle.file_numbers.specs.Files.{checkpoint_part, checkpoint_file, checkpoint_gate, first_run_part}
use Rattle.run_tiers.specs.Parts.{Paid}
use Rattle.run_tiers.specs.Syncs.{IsFirm}
use Rattle.sweep_core.specs.declared.checkpoint.Checkpoint.{Checkpoint}
use Rattle.sweep_core.specs.Accounts.{Accounts, CanBeTaken}
use Rattle.sweep_core.specs.Saving.{Saving, IsRestingPlace}
use Rattle.sweep_checkpoint.specs.Points.{point_bytes, Fits}
use Rattle.sweep_checkpoint.specs.Rules.{KeepsRules}
use Rattle.sweep_checkpoint.specs.Gated.{present, gated_place, last_gated}
use Rattle.sweep_checkpoint.specs.Saves.{gated_size, IsGateSure}
use Rattle.sweep_checkpoint.specs.Retires.{first_taken}
use Rattle.sweep_checkpoint.specs.declared.going.Going.{Going}

-- the files of a step that change while a sweep of it goes on: those that it makes, and all behind the node file
abbrev pub IsOfGoing : (FileNo → Type 0) → ℕ → FileNo → Type 0
IsOfGoing makes step f = makes f ⊎ ((f.step ≡ step) × (checkpoint_part ≤ f.part))

-- the file is below the runs, and none that the sweep makes, that it may take, or of the step's checkpoints
pub record IsLeftAlone (makes : FileNo → Type 0) (step next : ℕ) (f : FileNo) : Type 0 where
  pub unmade : ¬ (makes f)
  pub untaken : ¬ CanBeTaken step next f
  pub below : f.part < first_run_part
  pub not_points : f ≢ checkpoint_file step
  pub not_gate : f ≢ checkpoint_gate step

-- what a stop leaves agrees with an image of the folder as it was, in all that a checkpoint of then rests on: in the
-- last one that is gated, in each file that no sweep of the step writes from then on, and in what was sure of those
-- that this one makes
pub record IsAsBefore (makes : FileNo → Type 0) (step next : ℕ) (old : Folder) (r : FileNo → List ℕ) : Type 0 where
  pub before : Image
  pub is_image : IsImage old before
  pub last : last_gated step r ≡ last_gated step (bytes_in before)
  pub others : (f : FileNo) → ¬ (makes f) → ¬ CanBeTaken step next f → f ≢ checkpoint_file step
      → f ≢ checkpoint_gate step → r f ≡ bytes_in before f
  pub fronts : (f : FileNo) → makes f → (n : ℕ) → n ≤ (file_in old f).firm → take n (r f) ≡ take n (bytes_in before f)

-- few part numbers were taken for the turns that were made
abbrev pub IsPaid : Checkpoint → Type 0
IsPaid c = 256 * c.next_part ≤ 131072 + 16 * c.turns

module _ {Task Job : Type 0} (saving : Saving Task Job) where
  -- the last checkpoint that is gated is one of the kind, of the first or the second sweep of its step, and few parts
  -- were taken for its turns; with what the files hold it does the job, and with the turns that were made before it no
  -- more than so many are needed
  pub record GoesOn (step sweep : ℕ) (task : Task) (job : Job) (turns : ℕ) (r : FileNo → List ℕ) : Type 0 where
    pub point : Checkpoint
    pub last : last_gated step r ≡ Some (point_bytes point)
    pub rules : KeepsRules step point
    pub paid : IsPaid point
    pub sweep_is : point.sweep ≡ sweep
    pub words : Fits point
    pub names : saving.names point task
    pub fits : saving.fits point (saving.text task)
    pub left : ℕ
    pub stands : saving.stands point (saving.text task) r job left
    pub few : point.turns + left ≤ turns

  -- so it is in each image of the folder: the gate is sure, and so are the operands, which no sweep of the step writes
  -- from there on, and all that the checkpoint rests on
  pub record Stands (makes operands : FileNo → Type 0) (step next sweep : ℕ) (task : Task) (job : Job)
      (turns : ℕ) (folder : Folder) : Type 0 where
    pub goes_on : GoesOn step sweep task job turns (present folder)
    pub gate : IsGateSure step folder
    pub points : gated_size step folder ≤ (file_in folder (checkpoint_file step)).firm
    pub sure : (f : FileNo) (n : ℕ) → saving.rests goes_on.point f n
        → (operands f × IsFirm (file_in folder f)) ⊎ ((makes f ⊎ (¬ (makes f))) × (n ≤ (file_in folder f).firm))
    pub operands_are : (f : FileNo) → operands f → IsFirm (file_in folder f) × IsRestingPlace goes_on.point f
    pub taken : goes_on.point.next_part ≤ next

-- the gate is sure, and the operands are
pub record AreSure (operands : FileNo → Type 0) (step : ℕ) (folder : Folder) : Type 0 where
  pub gate : IsGateSure step folder
  pub operands_are : (f : FileNo) → operands f → IsFirm (file_in folder f)

-- damage is at the place of the last checkpoint that is gated, where the file ends before the gate says; and parts are
-- spent where more of their numbers were taken than a checkpoint may say
abbrev pub IsShort : ℕ → ℕ → Folder → SortFault → Type 0
IsShort step next folder Shelf = Unit
IsShort step next folder (Damaged f at) = (f ≡ checkpoint_file step) × (at ≡ gated_place step (present folder))
    × (length (file_in folder (checkpoint_file step)).bytes < gated_size step folder)
IsShort step next folder RunsSpent = 2 ^ 32 < next

-- the step, the sweep and the budget are the same
pub record SameGoing (old new : Going) : Type 0 where
  pub step_is : new.step ≡ old.step
  pub sweep_is : new.sweep ≡ old.sweep
  pub budget_is : new.budget ≡ old.budget

-- the last checkpoint that is gated is as it was, and so is what is said of it
pub record SameShown (old new : Going) (before after : Folder) : Type 0 where
  pub shown_is : new.shown ≡ old.shown
  pub last_is : new.last ≡ old.last
  pub gated_is : last_gated old.step (present after) ≡ last_gated old.step (present before)

-- what is said of the last checkpoint is so of the one that is gated last
pub record IsShown (step : ℕ) (going : Going) (folder : Folder) : Type 0 where
  pub point : Checkpoint
  pub last_is : going.last ≡ Some point
  pub turns_are : point.turns ≡ going.shown
  pub gated_is : last_gated step (present folder) ≡ Some (point_bytes point)

-- how many turns lie between two checkpoints
abbrev pub interval_of : ℕ → ℕ
interval_of budget = max (min budget 65536) 1

-- so few part numbers were taken that the next checkpoint is paid for. It shows 16,384 turns or more beyond those that
-- the last one shows: each of them pays 16 and takes 12, and of the 65,536 that are left a save takes 4,608, so that
-- 60,928 may be owed before
pub record IsPaidTo {P : Type 0} (accounts : Accounts P) (going : Going) (p : P) : Type 0 where
  pub interval : 16384 ≤ interval_of going.budget
  pub shown : going.shown ≤ going.turns
  pub paid : 256 * accounts.next p + accounts.stock p
      ≤ 131072 + 16 * going.shown + 12 * (going.turns - going.shown) + 60928

-- what so many turns and so many saves take of a step's parts: of the 256 that each part is paid with, a turn 12 and a
-- save 4,608
pub record TakesParts {P : Type 0} (accounts : Accounts P) (turns saves : ℕ) (old new : P) : Type 0 where
  pub spent : 256 * (accounts.next new - accounts.next old) + accounts.stock new
      ≤ accounts.stock old + (12 * turns + 4608 * saves)

-- the part from which on saves may have to cut what was taken: the first one that was taken since the last checkpoint,
-- or the next one to be taken, whichever is less
abbrev pub first_owed : Option Checkpoint → ℕ → ℕ
first_owed last next = min (first_taken last) (max first_run_part next)

-- what so many turns and so many saves take of the calls of the folder: a turn 224, and a save 66,126, of which 65,536
-- make the sweep sure, 14 save it, and 576 cut the runs that the checkpoint before names; and one more for each part
-- that was taken from the first one on
pub record TakesCalls {P : Type 0} (accounts : Accounts P) (turns saves first : ℕ) (before after : World)
    (old new : P) : Type 0 where
  pub paid : Paid (224 * turns + 66126 * saves + (accounts.next new - first)) (accounts.credit old)
      (accounts.credit new) before after

-- nothing was saved, and no call was made
pub record WasNotSaved {P : Type 0} (accounts : Accounts P) (old new : Going) (old_world new_world : World)
    (before after : P) : Type 0 where
  pub shown_is : new.shown ≡ old.shown
  pub last_is : new.last ≡ old.last
  pub next_is : accounts.next after ≡ accounts.next before
  pub stock_is : accounts.stock after ≡ accounts.stock before
  pub calls : Paid 0 (accounts.credit before) (accounts.credit after) old_world new_world

-- the sweep was saved, an interval of turns or more behind what was shown before
pub record WasSaved {P : Type 0} (accounts : Accounts P) (old new : Going) (before after : P) : Type 0 where
  pub due : old.shown + interval_of old.budget ≤ old.turns
  pub shown_is : new.shown ≡ old.turns
  pub point : Checkpoint
  pub last_is : new.last ≡ Some point
  pub part_is : point.next_part ≡ accounts.next after
  pub takes : TakesParts accounts 0 1 before after
