-- How far a step has come before it is run, and what a stop leaves while that is found and what was lost is given up.
use Rattle.std.specs.Prelude.{◌≡◌, ◌≢◌, ◌⊎◌, ℕ, ◌+◌, ◌<◌, ◌≤◌, Bool, IsTrue, List, [], length, Option, Some, None}
use Rattle.std.specs.Prelude.{Result, IfOk, IfErr}
use Rattle.bool_tables.specs.Plans.{IsWellFormed}
use Rattle.shelf_model.specs.declared.file_no.FileNo.{FileNo}
use Rattle.shelf_model.specs.declared.sort_fault.SortFault.{SortFault}
use Rattle.shelf_model.specs.declared.sort_fault.SortFault.TheVariants as sort
use Rattle.shelf_model.specs.Calls.{Told}
use Rattle.shelf_model.specs.Faults.{Faults}
use Rattle.shelf_model.specs.Folder.{Folder, Image, file_in, bytes_in, IsImage}
use Rattle.shelf_model.specs.Moments.{Ran, Throughout}
use Rattle.shelf_model.specs.World.{Moment, World, now, file}
use Rattle.file_numbers.specs.Files.{inner_part}
use Rattle.run_tiers.specs.Faults.{OnlySortShelf}
use Rattle.step_work.specs.Plans as plans
use Rattle.sweep_core.specs.declared.checkpoint.Checkpoint.{Checkpoint}
use Rattle.sweep_core.specs.Accounts.{CanBeTaken, NoneFilled}
use Rattle.sweep_checkpoint.specs.Gated.{present, last_gated}
use Rattle.sweep_checkpoint.specs.Loads.{Tells}
use Rattle.sweep_checkpoint.specs.declared.going.Going.{Going}
use Rattle.step_going.specs.Lost.{IsLost}
use Rattle.step_going.specs.Standing.{IsStanding}
use Rattle.resumable.specs.Kinds.{RestsOn}
use Rattle.resumable.specs.Resumable.{GoesOnAt}
use Rattle.step_sweeps.specs.Going.{MayGoOn, next_of}
use Rattle.sound_image.specs.Files.{checkpoint_gate}
use Rattle.sound_image.specs.Jobs.{Job}
use Rattle.sound_image.specs.Holds.{Holds}

-- the number is that of a step in the job's well-formed plan
pub record IsOfJob (job : Job) (number : ℕ) : Type 0 where
  pub well_formed : IsWellFormed job.n job.text job.steps
  pub within : number < length job.steps

-- when the job's step goes on in a reading, and what its checkpoints rest on
abbrev pub JobGoesOn : Job → ℕ → (FileNo → List ℕ) → Type 0
JobGoesOn job number = GoesOnAt job.n job.text job.steps number

abbrev pub JobRests : Job → ℕ → Checkpoint → FileNo → ℕ → Type 0
JobRests job number = RestsOn (plans.step_at job.steps number)

-- whatever a stop leaves, the job's step has no gated checkpoint, or goes on from this one
abbrev pub JobStands : Job → ℕ → Option Checkpoint → Folder → Type 0
JobStands job number last folder = IsStanding (JobGoesOn job number) (JobRests job number) number
    (next_of last) folder last

-- the file is a part of the step that its sweeps take in turn: its arcs or a run
abbrev pub IsSweepPart : ℕ → FileNo → Type 0
IsSweepPart step = CanBeTaken step inner_part

-- the image agrees with one of the folder in all but these parts
pub record AgreesBefore (step : ℕ) (old : Folder) (image : Image) : Type 0 where
  pub before : Image
  pub is_image : IsImage old before
  pub same : (f : FileNo) → ¬ (IsSweepPart step f) → bytes_in image f ≡ bytes_in before f

-- while it is found how far the step has come, and what was lost is given up: files of other steps stay; reads of all
-- but these parts give what they gave, and each image agrees with one of before
pub record DuringGoing (step : ℕ) (old m : Moment) : Type 0 where
  pub others : (f : FileNo) → f.step ≢ step → file_in m.folder f ≡ file_in old.folder f
  pub reads : (f : FileNo) → ¬ (IsSweepPart step f) → (file_in m.folder f).bytes ≡ (file_in old.folder f).bytes
  pub images : (image : Image) → IsImage m.folder image → AgreesBefore step old.folder image

-- how far the step has come was found, in a room of so many records, or couldn't be
pub record FindsGoing {S : Type 0} (tells : S → Bool) (world : S → World) (counts : S → Faults) (number : ℕ)
    (before after : S) (result : Result Going SortFault) : Type 0 where
  pub content : Told tells before after
      (Ran (DuringGoing number (now (world before))) (world before) (world after))
  pub going : IfOk result (λ going. (going.step ≡ number) × MayGoOn going)
  -- it was found by the last gated checkpoint
  pub last : IfOk result (λ going. IsTrue (tells after)
      → Tells number (last_gated number (present (now (world before)).folder)) going.last)
  -- and the parts that a stopped life may have taken behind that one are empty, where its sweep keeps runs: another
  -- takes no part
  pub lost : IfOk result (λ going. IsTrue (tells after) → (c : Checkpoint) → going.last ≡ Some c → c.tables ≢ 0
      → (f : FileNo) → IsLost number c.next_part f → (file (world after) f).bytes ≡ [])
  -- no file of the step is filled that its sweeps take
  pub untaken : IfOk result (λ going. IsTrue (tells after)
      → NoneFilled number inner_part (world before) (world after))
  -- in a folder that holds the steps before, which it does at each moment, the step stands with that checkpoint, and
  -- only a call of the folder can fail
  pub holds : IsTrue (tells after) → (job : Job) → IsOfJob job number
      → Holds job number (now (world before)).folder → Throughout (world before) (world after)
      (λ (m : Moment). Holds job number m.folder)
  pub stands : IfOk result (λ going. IsTrue (tells after) → (job : Job) → IsOfJob job number
      → Holds job number (now (world before)).folder → JobStands job number going.last (now (world after)).folder)
  pub sound : IfErr result (λ fault. IsTrue (tells after) → (job : Job) → IsOfJob job number
      → Holds job number (now (world before)).folder → fault ≡ sort.Shelf)
  -- otherwise a step without a gated checkpoint finds no damage
  pub damaged : IfErr result (λ fault. IsTrue (tells after)
      → (fault ≡ sort.Shelf) ⊎ ((file (world before) (checkpoint_gate number)).bytes ≢ []))
  pub kind : IfErr result (λ fault. fault ≢ sort.RunsSpent)
  pub calls : IsTrue (tells after) → (world after).clock ≤ (world before).clock + 3890
  -- more than 590 are made only where a checkpoint is gated, to give up what was lost behind it
  pub gated_calls : IsTrue (tells after) → ((world after).clock ≤ (world before).clock + 590)
      ⊎ ((c : Checkpoint) × Tells number (last_gated number (present (now (world before)).folder)) (Some c))
  pub few_calls : IfOk result (λ going. IsTrue (tells after) → going.last ≡ None
      → (world after).clock ≤ (world before).clock + 2)
  pub faults : OnlySortShelf (counts before) (counts after) result
