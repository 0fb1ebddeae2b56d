-- What a sweep that is saved leaves and costs, and one that is rebuilt.
use Rattle.std.specs.Prelude.{◌≡◌, ◌⊎◌, ℕ, ◌+◌, ◌-◌, ◌*◌, ◌^◌, ◌≤◌, Bool, IsTrue, List, length, take, Result}
use Rattle.shelf_model.specs.declared.file_no.FileNo.{FileNo}
use Rattle.shelf_model.specs.declared.sort_fault.SortFault.{SortFault}
use Rattle.shelf_model.specs.Calls.{Told}
use Rattle.shelf_model.specs.Faults.{Faults}
use Rattle.shelf_model.specs.File.{IsKept}
use Rattle.shelf_model.specs.Folder.{file_in}
use Rattle.shelf_model.specs.Moments.{Ran}
use Rattle.shelf_model.specs.World.{Moment, World, now}
use Rattle.file_numbers.specs.Files.{inner_part}
use Rattle.run_tiers.specs.Faults.{OnlySortShelf}
use Rattle.run_tiers.specs.Parts.{Paid}
use Rattle.run_tiers.specs.Syncs.{IsSameOrFirm}
use Rattle.sweep_core.specs.declared.checkpoint.Checkpoint.{Checkpoint}
use Rattle.sweep_core.specs.Accounts.{Accounts, CanBeTaken, StayEmpty}
use Rattle.sweep_core.specs.Saving.{IsMadePart}
use Rattle.sweep_core.specs.Tables.{Names}

-- the file is of that step, behind its checkpoints
pub record IsBehindPoints (step : ℕ) (f : FileNo) : Type 0 where
  pub step_is : f.step ≡ step
  pub from : inner_part ≤ f.part

-- at a moment each file but those that are made, and those whose parts can be taken, is as it was, or one of the step
-- with the same bytes, all of them sure; and of those that are made, what was kept is kept
pub record OnlySaved (makes : FileNo → Type 0) (step next : ℕ) (old m : Moment) : Type 0 where
  pub others : (f : FileNo) → ¬ (makes f) → ¬ CanBeTaken step next f → IsSameOrFirm (IsBehindPoints step) f old m
  pub kept : (f : FileNo) → makes f → (front : List ℕ) → IsKept front (file_in old.folder f) →
      IsKept front (file_in m.folder f)

-- what it leaves to be saved, and what that costs at most, in calls of the folder and in parts
pub record Carries {S P T : Type 0} (tells : S → Bool) (world : S → World) (counts : S → Faults)
    (accounts : Accounts P) (most_calls most_parts : ℕ) (before after : S) (old new : P)
    (result : Result T SortFault) : Type 0 where
  -- it makes the same files, of the same step, and parts were taken in turn, none from 2^32 on
  pub made : (f : FileNo) → accounts.makes new f → accounts.makes old f
  pub making : (f : FileNo) → accounts.makes old f → accounts.makes new f
  pub step_is : accounts.step new ≡ accounts.step old
  pub later : accounts.next old ≤ accounts.next new
  pub within : accounts.next old ≤ 2 ^ 32 → accounts.next new ≤ 2 ^ 32
  pub content : Told tells before after (Ran (OnlySaved (accounts.makes old) (accounts.step old) (accounts.next old)
      (now (world before))) (world before) (world after))
  -- nothing is put into a file whose part wasn't taken
  pub untaken : IsTrue (tells after)
      → StayEmpty (accounts.makes old) (accounts.step old) (accounts.next new) (world before) (world after)
  pub calls : IsTrue (tells after) → Paid most_calls (accounts.credit old) (accounts.credit new) (world before)
      (world after)
  pub spent : 256 * (accounts.next new - accounts.next old) + accounts.stock new ≤ accounts.stock old + most_parts
  pub faults : OnlySortShelf (counts before) (counts after) result

-- a sweep that was just saved works on the file: it is an operand, one that it makes, or a run that the checkpoint
-- names
abbrev pub IsUsed : (FileNo → Type 0) → (FileNo → Type 0) → Checkpoint → FileNo → Type 0
IsUsed makes operands c f = operands f ⊎ makes f ⊎ ((f.step ≡ c.step) × Names c f.part)

-- in a later world it is as it was
pub record IsStill {Job : Type 0} (in_step trusts : World → Type 0) (remains : World → Job → Type 0)
    (left : World → Job → ℕ) (old new : World) : Type 0 where
  pub steps : in_step old → in_step new
  pub trusted : trusts old → trusts new
  pub keeps : (job : Job) → remains old job → remains new job
  pub fewer : (job : Job) → remains old job → left new job ≤ left old job

-- at a moment while a sweep is rebuilt, each file that no sweep of its step makes, each that its checkpoint doesn't
-- rest on, and each of which it rests on all, is as it was; and of each other one the front that it rests on gives what
-- it gave, and is kept where it was
pub record OnlyCutBehind (c : Checkpoint) (rests : FileNo → ℕ → Type 0) (old m : Moment) : Type 0 where
  pub unmade : (f : FileNo) → ¬ IsMadePart c.step c.next_part f → file_in m.folder f ≡ file_in old.folder f
  pub others : (f : FileNo) → ¬ (rests f 0) → file_in m.folder f ≡ file_in old.folder f
  pub whole : (f : FileNo) → ((n : ℕ) → rests f n) → file_in m.folder f ≡ file_in old.folder f
  pub reads : (f : FileNo) (n : ℕ) → rests f n →
      take n (file_in m.folder f).bytes ≡ take n (file_in old.folder f).bytes
  pub kept : (f : FileNo) (n : ℕ) → rests f n → (front : List ℕ) → length front ≡ n →
      IsKept front (file_in old.folder f) → IsKept front (file_in m.folder f)
