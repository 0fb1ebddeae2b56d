-- What a commit asks, what holds at each of its moments, and what it leaves: of one step, and of several steps whose
-- entries were put behind one another.
use Rattle.std.specs.Prelude.{◌≡◌, ◌≢◌, ◌⊎◌, ℕ, ◌+◌, ◌*◌, ◌<◌, ◌≤◌, List, ◌++◌, length, take}
use Rattle.shelf_model.specs.declared.file_no.FileNo.{FileNo}
use Rattle.shelf_model.specs.File.{firm_file, IsKept}
use Rattle.shelf_model.specs.Folder.{Folder, Image, file_in, bytes_in, IsImage}
use Rattle.shelf_model.specs.World.{Moment}
use Rattle.catalogue.specs.declared.layout.Entry.{Entry}
use Rattle.catalogue.specs.Entries.{entry_bytes}
use Rattle.catalogue.specs.Files.{entry_size, job_gate, catalogue, step_gate}
use Rattle.catalogue.specs.Counts.{HasCount, entry_at}

-- in every image a job is stored and n steps are committed, and the catalogue is as long as their entries
pub record IsReady (n : ℕ) (folder : Folder) : Type 0 where
  pub stored : 0 < (file_in folder job_gate).firm
  pub gate : file_in folder step_gate ≡ firm_file (file_in folder step_gate).bytes
  pub count : length (file_in folder step_gate).bytes ≡ n
  pub covers : entry_size * n ≤ length (file_in folder catalogue).bytes

-- one step more than the entry's number is committed, and the entry stands in its place
pub record IsCounted (e : Entry) (r : FileNo → List ℕ) : Type 0 where
  pub counts : HasCount (e.number + 1) r
  pub placed : entry_at e.number r ≡ entry_bytes e

-- at each moment each image has the old count, or one more with the entry; other files and earlier entries stay, as
-- they are sure and as they are read
pub record DuringCommit (e : Entry) (old m : Moment) : Type 0 where
  pub others : (q : FileNo) → q ≢ catalogue → q ≢ step_gate
      → file_in m.folder q ≡ file_in old.folder q
  pub images : (image : Image) → IsImage m.folder image
      → HasCount e.number (bytes_in image) ⊎ IsCounted e (bytes_in image)
  pub kept : (front : List ℕ) → length front ≤ entry_size * e.number
      → IsKept front (file_in old.folder catalogue) → IsKept front (file_in m.folder catalogue)
  pub reads : take (128 * e.number) (file_in m.folder catalogue).bytes ≡ take (128 * e.number)
      (file_in old.folder catalogue).bytes

-- after a commit each image has one more, with the entry in its place behind the earlier ones
pub record IsCommitted (e : Entry) (old new : Folder) : Type 0 where
  pub ready : IsReady (e.number + 1) new
  pub images : (image : Image) → IsImage new image → IsCounted e (bytes_in image)
  pub catalogue_is : file_in new catalogue
      ≡ firm_file (take (entry_size * e.number) (file_in old catalogue).bytes ++ entry_bytes e)
  pub kept : (front : List ℕ) → length front ≡ entry_size * e.number
      → IsKept front (file_in old catalogue) → IsKept (front ++ entry_bytes e) (file_in new catalogue)

-- at each moment of a put each image has the committed steps alone; other files stay, and so do the entries before
-- the place of the one that is put, as they are sure and as they are read
pub record DuringPut (committed : ℕ) (e : Entry) (old m : Moment) : Type 0 where
  pub others : (q : FileNo) → q ≢ catalogue → file_in m.folder q ≡ file_in old.folder q
  pub images : (image : Image) → IsImage m.folder image → HasCount committed (bytes_in image)
  pub kept : (front : List ℕ) → length front ≤ entry_size * e.number
      → IsKept front (file_in old.folder catalogue) → IsKept front (file_in m.folder catalogue)
  pub reads : take (entry_size * e.number) (file_in m.folder catalogue).bytes
      ≡ take (entry_size * e.number) (file_in old.folder catalogue).bytes

-- after a put the entry is read in its place, as the last one, and as many steps are committed as before
pub record IsPut (committed : ℕ) (e : Entry) (old new : Folder) : Type 0 where
  pub ready : IsReady committed new
  pub catalogue_is : (file_in new catalogue).bytes
      ≡ take (entry_size * e.number) (file_in old catalogue).bytes ++ entry_bytes e
  pub size : length (file_in new catalogue).bytes ≡ entry_size * (e.number + 1)

-- the committed steps are counted, or some more of those that wait behind them: then all entries that are counted
-- stand in their places, as they were read
pub record IsCountedWithin (committed waiting : ℕ) (entries : List ℕ) (r : FileNo → List ℕ) : Type 0 where
  pub count : ℕ
  pub least : committed ≤ count
  pub most : count ≤ committed + waiting
  pub counts : HasCount count r
  pub placed : committed < count → take (entry_size * count) (r catalogue) ≡ take (entry_size * count) entries

-- at each moment of a commit of steps that wait each image has the old count, or a greater one with all entries that
-- it covers; other files stay, and the catalogue stays as it is read and keeps what it kept
pub record DuringCommits (committed waiting : ℕ) (old m : Moment) : Type 0 where
  pub others : (q : FileNo) → q ≢ catalogue → q ≢ step_gate
      → file_in m.folder q ≡ file_in old.folder q
  pub images : (image : Image) → IsImage m.folder image
      → IsCountedWithin committed waiting (file_in old.folder catalogue).bytes (bytes_in image)
  pub kept : (front : List ℕ)
      → IsKept front (file_in old.folder catalogue) → IsKept front (file_in m.folder catalogue)
  pub reads : (file_in m.folder catalogue).bytes ≡ (file_in old.folder catalogue).bytes

-- after it all of them are committed in each image, with the entries that were read
pub record AreCommitted (committed waiting : ℕ) (old new : Folder) : Type 0 where
  pub ready : IsReady (committed + waiting) new
  pub catalogue_is : file_in new catalogue ≡ firm_file (file_in old catalogue).bytes
  pub images : (image : Image) → IsImage new image
      → HasCount (committed + waiting) (bytes_in image) × (bytes_in image catalogue ≡ (file_in old catalogue).bytes)
