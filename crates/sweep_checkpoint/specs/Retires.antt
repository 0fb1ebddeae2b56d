-- Which runs a newer checkpoint gives up.
use Rattle.std.specs.Prelude.{◌≡◌, ◌⊎◌, ℕ, ◌<◌, ◌≤◌, max, [], Option, Some, None}
use Rattle.shelf_model.specs.declared.file_no.FileNo.{FileNo}
use Rattle.shelf_model.specs.World.{World, file}
use Rattle.file_numbers.specs.Files.{first_run_part}
use Rattle.sweep_core.specs.declared.checkpoint.Checkpoint.{Checkpoint}
pub use Rattle.sweep_core.specs.Tables.{NamedAmong, NamedIn, Names}

-- the part is one of these
pub record IsBetween (first next part : ℕ) : Type 0 where
  pub from : first ≤ part
  pub below : part < next

-- the first part that was taken since the older checkpoint
abbrev pub first_taken : Option Checkpoint → ℕ
first_taken None = first_run_part
first_taken (Some c) = max first_run_part c.next_part

-- the older one names the part, or it was taken since
abbrev pub WasTaken : Option Checkpoint → Checkpoint → ℕ → Type 0
WasTaken None new part = IsBetween first_run_part new.next_part part
WasTaken (Some old) new part = Names old part ⊎ IsBetween (max first_run_part old.next_part) new.next_part part

-- a file of the checkpoint's step, of one of these parts, behind the arcs, that it doesn't name
pub record IsDropped (c : Checkpoint) (these : ℕ → Type 0) (f : FileNo) : Type 0 where
  pub step_is : f.step ≡ c.step
  pub from : first_run_part ≤ f.part
  pub one_of : these f.part
  pub unnamed : ¬ (Names c f.part)

-- a run that the newer checkpoint gives up
abbrev pub IsGivenUp : Option Checkpoint → Checkpoint → FileNo → Type 0
IsGivenUp old new = IsDropped new (WasTaken old new)

-- these files are empty, and those that were stay so
pub record Emptied (these : FileNo → Type 0) (old new : World) : Type 0 where
  pub empty : (f : FileNo) → these f → (file new f).bytes ≡ []
  pub still : (f : FileNo) → (file old f).bytes ≡ [] → (file new f).bytes ≡ []
