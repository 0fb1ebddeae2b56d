-- What a sweep may change and what it owes, and what a call of it leaves and costs.
use Rattle.std.specs.Prelude.{◌≡◌, ℕ, ◌+◌, ◌-◌, ◌*◌, ◌^◌, ◌≤◌, Bool, IsTrue, List, [], Result}
use Rattle.shelf_model.specs.declared.file_no.FileNo.{FileNo}
use Rattle.shelf_model.specs.declared.sort_fault.SortFault.{SortFault}
use Rattle.shelf_model.specs.Calls.{Told}
use Rattle.shelf_model.specs.Faults.{Faults}
use Rattle.shelf_model.specs.File.{IsKept}
use Rattle.shelf_model.specs.Folder.{file_in}
use Rattle.shelf_model.specs.Moments.{Ran}
use Rattle.shelf_model.specs.World.{Moment, World, now, file}
use Rattle.run_tiers.specs.Faults.{OnlySortShelf}
use Rattle.run_tiers.specs.Parts.{Paid}

-- which files the sweeps of a kind may change, and what they owe
pub record Accounts (P : Type 0) : Type 1 where
  -- the files that it makes
  pub makes : P → FileNo → Type 0
  -- the step whose parts it takes, and the part number from which on it has taken none
  pub step : P → ℕ
  pub next : P → ℕ
  -- how many calls of the folder are paid for that weren't made yet
  pub credit : P → ℕ
  -- what is paid for parts that weren't taken yet, 256 for each
  pub stock : P → ℕ

-- the file is of that step, and of the part number from which on none was taken, or a greater one
pub record CanBeTaken (step next : ℕ) (f : FileNo) : Type 0 where
  pub step_is : f.step ≡ step
  pub from : next ≤ f.part

-- at a moment each file but those that are made, and those whose parts can be taken, is as it was; and of those that
-- are made,
-- what was kept is kept
pub record OnlyOwn (makes : FileNo → Type 0) (step next : ℕ) (old m : Moment) : Type 0 where
  pub others : (f : FileNo) → ¬ (makes f) → ¬ CanBeTaken step next f → file_in m.folder f ≡ file_in old.folder f
  pub kept : (f : FileNo) → makes f → (front : List ℕ) → IsKept front (file_in old.folder f) →
      IsKept front (file_in m.folder f)

-- of a step's files from a part number on each that was empty is empty
abbrev pub NoneFilled : ℕ → ℕ → World → World → Type 0
NoneFilled step next old new = (f : FileNo) → CanBeTaken step next f → (file old f).bytes ≡ [] → (file new f).bytes ≡ []

-- so it is but for those that are made
abbrev pub StayEmpty : (FileNo → Type 0) → ℕ → ℕ → World → World → Type 0
StayEmpty makes step next old new = (f : FileNo) → ¬ (makes f) → CanBeTaken step next f → (file old f).bytes ≡ []
    → (file new f).bytes ≡ []

-- what a call leaves, and what it costs at most, in calls of the folder and in parts
pub record Leaves {S P T : Type 0} (tells : S → Bool) (world : S → World) (counts : S → Faults)
    (accounts : Accounts P) (most_calls most_parts : ℕ) (before after : S) (old new : P)
    (result : Result T SortFault) : Type 0 where
  -- it makes the same files, of the same step, and parts were taken in turn, none from 2^32 on
  pub made : (f : FileNo) → accounts.makes new f → accounts.makes old f
  pub making : (f : FileNo) → accounts.makes old f → accounts.makes new f
  pub step_is : accounts.step new ≡ accounts.step old
  pub later : accounts.next old ≤ accounts.next new
  pub within : accounts.next old ≤ 2 ^ 32 → accounts.next new ≤ 2 ^ 32
  pub content : Told tells before after (Ran (OnlyOwn (accounts.makes old) (accounts.step old) (accounts.next old)
      (now (world before))) (world before) (world after))
  -- nothing is put into a file whose part wasn't taken
  pub untaken : IsTrue (tells after)
      → StayEmpty (accounts.makes old) (accounts.step old) (accounts.next new) (world before) (world after)
  pub calls : IsTrue (tells after) → Paid most_calls (accounts.credit old) (accounts.credit new) (world before)
      (world after)
  -- the parts that were taken are paid for with what stays paid: by what was paid before, and by a number of them
  pub spent : 256 * (accounts.next new - accounts.next old) + accounts.stock new ≤ accounts.stock old + most_parts
  pub faults : OnlySortShelf (counts before) (counts after) result
