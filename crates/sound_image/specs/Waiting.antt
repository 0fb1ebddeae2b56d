-- A folder in which steps wait behind the committed ones, to be committed together.
use Rattle.std.specs.Prelude.{◌≡◌, ℕ, ◌*◌, ◌<◌, ◌≤◌, IsTrue, List, length}
use Rattle.shelf_model.specs.declared.file_no.FileNo.{FileNo}
use Rattle.shelf_model.specs.Folder.{Folder, file_in}
use Rattle.catalogue.specs.declared.layout.Entry.{Entry}
use Rattle.catalogue.specs.Files.{catalogue}
use Rattle.catalogue.specs.Counts.{present, is_stored, count_in, entry_at}
use Rattle.catalogue.specs.Entries.{entry_bytes}
use Rattle.sound_image.specs.Jobs.{Job}
use Rattle.sound_image.specs.Entries.{IsEntryOfStep}
use Rattle.sound_image.specs.Sound.{IsSound}
use Rattle.sound_image.specs.Holds.{Holds, IsMade}

-- the folder holds the committed steps, and the steps from them on up to another one wait: each was made, and its entry
-- is read in its place. What they drop is cut only after their commit
pub record Waits (job : Job) (committed until : ℕ) (folder : Folder) : Type 0 where
  pub holds : Holds job committed folder
  pub from : committed ≤ until
  pub few : until ≤ length job.steps
  pub covers : 128 * until ≤ length (file_in folder catalogue).bytes
  pub entries : (k : ℕ) → committed ≤ k → k < until
      → (e : Entry) × IsEntryOfStep job k e × (entry_at k (present folder) ≡ entry_bytes e)
  pub made : (k : ℕ) → committed ≤ k → k < until → IsMade job k folder

-- an image is sound for the stored job, with so many committed steps at least and at most
pub record IsSoundWithin (job : Job) (least most : ℕ) (r : FileNo → List ℕ) : Type 0 where
  pub sound : IsSound job r
  pub stored : IsTrue (is_stored r)
  pub no_fewer : least ≤ count_in r
  pub no_more : count_in r ≤ most
