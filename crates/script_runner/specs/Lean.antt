-- Folders in which nothing is left over of the steps that are committed.
use Rattle.std.specs.Prelude.{◌≡◌, ◌≢◌, ℕ, ◌<◌, ◌≤◌, IsTrue, List, [], get_or}
use Rattle.bool_tables.specs.Plans.{makes_diagram}
use Rattle.bool_tables.specs.declared.steps.Planned.{Planned}
use Rattle.bool_tables.specs.declared.steps.Step.TheVariants.{Drop}
use Rattle.shelf_model.specs.declared.file_no.FileNo.{FileNo}
use Rattle.shelf_model.specs.Folder.{Folder, file_in}
use Rattle.catalogue.specs.Files.{job_step}
use Rattle.step_work.specs.Plans.{no_step}
use Rattle.sound_image.specs.Files.{node_file}
use Rattle.sound_image.specs.Jobs.{Job}

-- none of the steps from that one on drops that diagram
abbrev pub NoneDrops : List Planned → ℕ → ℕ → ℕ → Type 0
NoneDrops steps from until k = (j : ℕ) → from ≤ j → j < until → (get_or steps j no_step).step ≢ Drop k

-- the file is that of a diagram which one of so many steps makes and none of them drops
pub record IsLiveFile (steps : List Planned) (count : ℕ) (f : FileNo) : Type 0 where
  pub step : ℕ
  pub within : step < count
  pub makes : IsTrue (makes_diagram (get_or steps step no_step).step)
  pub kept : NoneDrops steps 0 count step
  pub file_is : f ≡ node_file step

-- behind so many steps each file but those of the job, and those of the diagrams that are live, is empty, as reads
-- give it
abbrev pub IsLean : Job → ℕ → Folder → Type 0
IsLean job count folder = (f : FileNo) → f.step ≢ job_step → ¬ (IsLiveFile job.steps count f)
    → (file_in folder f).bytes ≡ []
