-- What a call leaves of the folder in memory and its past.
use Rattle.std.specs.Prelude.{◌≡◌, ◌≢◌, ℕ, ◌+◌, ◌-◌, ◌^◌, ◌≤◌, min, Bool, cond}
use Rattle.shelf_model.specs.declared.file_no.FileNo.{FileNo}
use Rattle.shelf_memory.specs.declared.disk.Disk.{Disk}
use Rattle.shelf_memory.specs.Events.{moment_of}
use Rattle.shelf_memory.specs.Files.{stored_in}

-- the files are as they were, and what was said
pub record Stays (old new : Disk) : Type 0 where
  pub files_are : (q : FileNo) → stored_in new.files q ≡ stored_in old.files q
  pub said_is : new.said.items ≡ old.said.items

-- each file but this one is as it was, and what was said
pub record StaysBut (f : FileNo) (old new : Disk) : Type 0 where
  pub files_are : (q : FileNo) → q ≢ f → stored_in new.files q ≡ stored_in old.files q
  pub said_is : new.said.items ≡ old.said.items

-- one call more was made, and the past stays what it was
pub record Ticked (old new : Disk) : Type 0 where
  pub clock_is : new.clock ≡ old.clock + 1
  pub past : (k : ℕ) → k ≤ old.clock → moment_of new.events.items k ≡ moment_of old.events.items k

-- what stands is what stood
abbrev pub SameMoment : Disk → Disk → Type 0
SameMoment old new = moment_of new.events.items new.clock ≡ moment_of old.events.items old.clock

-- the folder that stands is the one that stood
abbrev pub SameFolder : Disk → Disk → Type 0
SameFolder old new = (moment_of new.events.items new.clock).folder ≡ (moment_of old.events.items old.clock).folder

-- the clock after a call: one higher, up to its last value; that is its value where memory was refused
abbrev pub clock_after : Bool → ℕ → ℕ
clock_after refused clock = cond refused (2 ^ 64 - 1) (min (clock + 1) (2 ^ 64 - 1))
