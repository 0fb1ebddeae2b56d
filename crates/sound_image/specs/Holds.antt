-- A folder whose every image is sound with a count, said file by file.
use Rattle.std.specs.Prelude.{◌≡◌, ℕ, ◌*◌, ◌<◌, ◌≤◌, IsTrue, List, length, take, drop}
use Rattle.bool_tables.specs.Plans.{is_live, makes_diagram}
use Rattle.shelf_model.specs.File.{firm_file, IsKept}
use Rattle.shelf_model.specs.Folder.{Folder, Image, file_in, bytes_in, IsImage}
use Rattle.catalogue.specs.declared.layout.Entry.{Entry}
use Rattle.catalogue.specs.Files.{job_file, catalogue}
use Rattle.catalogue.specs.Commits.{IsReady}
use Rattle.catalogue.specs.Counts.{count_in}
use Rattle.catalogue.specs.Entries.{entry_bytes}
use Rattle.catalogue.specs.Standings.{without_budget}
use Rattle.sound_image.specs.Files.{node_file}
use Rattle.canon_file.specs.Laws.{HasForm}
use Rattle.step_going.specs.Standing.{HasNone}
use Rattle.sound_image.specs.Jobs.{Job, step_at, table_at, file_of}
use Rattle.sound_image.specs.Entries.{IsEntryOfStep}
use Rattle.sound_image.specs.Sound.{IsSound, IsResumableAt}

-- the entries of the first steps, one behind the other, that every image's catalogue begins with
pub record KeepsEntries (job : Job) (count : ℕ) (folder : Folder) : Type 0 where
  pub front : List ℕ
  pub size : length front ≡ 128 * count
  pub kept : IsKept front (file_in folder catalogue)
  pub each : (k : ℕ) → k < count → (e : Entry) × IsEntryOfStep job k e ×
      (take 128 (drop (128 * k) front) ≡ entry_bytes e)

-- whatever a stop leaves, with so many committed steps a run of the job can go on
abbrev pub AreResumable : Job → ℕ → Folder → Type 0
AreResumable job count folder = (image : Image) → IsImage folder image → IsResumableAt job count (bytes_in image)

-- and no step from that one on has a gated checkpoint
abbrev pub NoneGated : Job → ℕ → Folder → Type 0
NoneGated job count folder = (s : ℕ) → count ≤ s → s < length job.steps → HasNone s folder

-- the job is stored, by a run with any budget, so many of its steps are committed, and nothing of them is pending; and
-- a run can go on
pub record Holds (job : Job) (count : ℕ) (folder : Folder) : Type 0 where
  pub job_sure : file_in folder job_file ≡ firm_file (file_in folder job_file).bytes
  pub job_is : without_budget (file_in folder job_file).bytes ≡ job.bytes
  pub ready : IsReady count folder
  pub few : count ≤ length job.steps
  pub entries : KeepsEntries job count folder
  pub files : (s : ℕ) → IsTrue (is_live (take count job.steps) s)
      → file_in folder (node_file s) ≡ firm_file (file_of job s)
  pub forms : (s : ℕ) → IsTrue (is_live (take count job.steps) s) → HasForm job.n (table_at job s)
  pub resumable : AreResumable job count folder

-- the step's own file, where it makes a diagram, of a table whose canonical form is defined
abbrev pub IsMade : Job → ℕ → Folder → Type 0
IsMade job k folder = IsTrue (makes_diagram (step_at job k).step)
    → (file_in folder (node_file k) ≡ firm_file (file_of job k)) × HasForm job.n (table_at job k)

-- each image of a folder is sound for the job
abbrev pub AreSound : Job → Folder → Type 0
AreSound job folder = (image : Image) → IsImage folder image → IsSound job (bytes_in image)

-- each image of the folder has that count
abbrev pub HaveCount : ℕ → Folder → Type 0
HaveCount count folder = (image : Image) → IsImage folder image → count_in (bytes_in image) ≡ count

-- each image of the folder has at least that count
abbrev pub HaveAtLeast : ℕ → Folder → Type 0
HaveAtLeast least folder = (image : Image) → IsImage folder image → least ≤ count_in (bytes_in image)
