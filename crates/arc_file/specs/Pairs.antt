-- What writing to two files leaves of the folder.
use Rattle.std.specs.Prelude.{◌≡◌, ◌≢◌, ℕ, ◌+◌, ◌≤◌, List, length, take}
use Rattle.shelf_model.specs.declared.file_no.FileNo.{FileNo}
use Rattle.shelf_model.specs.File.{IsKept}
use Rattle.shelf_model.specs.Folder.{file_in}
use Rattle.shelf_model.specs.World.{Moment, World, now}
use Rattle.shelf_model.specs.Moments.{Ran}

-- at each moment every other file is as it was, and what was sure of these two is sure
pub record DuringWrites (f g : FileNo) (old m : Moment) : Type 0 where
  pub others : (q : FileNo) → q ≢ f → q ≢ g → file_in m.folder q ≡ file_in old.folder q
  pub first_kept : (front : List ℕ) → IsKept front (file_in old.folder f) → IsKept front (file_in m.folder f)
  pub second_kept : (front : List ℕ) → IsKept front (file_in old.folder g) → IsKept front (file_in m.folder g)

-- at each moment every other file is as it was, and up to a length of each these two read as they did, and what was
-- sure of them is sure
pub record DuringCuts (f : FileNo) (to : ℕ) (g : FileNo) (until : ℕ) (old m : Moment) : Type 0 where
  pub others : (q : FileNo) → q ≢ f → q ≢ g → file_in m.folder q ≡ file_in old.folder q
  pub first_reads : (n : ℕ) → n ≤ to → take n (file_in m.folder f).bytes ≡ take n (file_in old.folder f).bytes
  pub second_reads : (n : ℕ) → n ≤ until → take n (file_in m.folder g).bytes ≡ take n (file_in old.folder g).bytes
  pub first_kept : (front : List ℕ) → length front ≤ to → IsKept front (file_in old.folder f)
      → IsKept front (file_in m.folder f)
  pub second_kept : (front : List ℕ) → length front ≤ until → IsKept front (file_in old.folder g)
      → IsKept front (file_in m.folder g)

-- two files were written to, by at most n calls
pub record WroteBoth (n : ℕ) (f g : FileNo) (old new : World) : Type 0 where
  pub run : Ran (DuringWrites f g (now old)) old new
  pub few : new.clock ≤ old.clock + n

-- two files were cut, each to a length, by at most n calls
pub record CutBoth (n : ℕ) (f : FileNo) (to : ℕ) (g : FileNo) (until : ℕ) (old new : World) : Type 0 where
  pub run : Ran (DuringCuts f to g until (now old)) old new
  pub few : new.clock ≤ old.clock + n
