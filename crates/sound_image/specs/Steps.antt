-- Which files a step changes while it is made, and while what it leaves behind is cut.
use Rattle.std.specs.Prelude.{◌≡◌, ◌⊎◌, ℕ, ◌≤◌, ◌<◌, max, IsTrue, []}
use Rattle.bool_tables.specs.declared.steps.Step.{Step}
use Rattle.bool_tables.specs.Plans.{drops}
use Rattle.shelf_model.specs.declared.file_no.FileNo.{FileNo}
use Rattle.shelf_model.specs.File.{no_file}
use Rattle.shelf_model.specs.Folder.{Folder, file_in, OnlyChanges}
use Rattle.step_work.specs.Tuples.{sweeps}
use Rattle.file_numbers.specs.Files.{first_run_part}
use Rattle.sound_image.specs.Files.{checkpoint_part, node_file}

-- a file of the step: its node file, its checkpoints and their gate, its arcs and its runs
abbrev pub IsOwnFile : ℕ → FileNo → Type 0
IsOwnFile step f = f.step ≡ step

-- every other file is as it was
abbrev pub OnlyOwnFiles : ℕ → Folder → Folder → Type 0
OnlyOwnFiles step = OnlyChanges (IsOwnFile step)

-- what is emptied of a step ends before its next part, and not before the parts of runs begin
abbrev pub parts_end : ℕ → ℕ
parts_end next = max next first_run_part

-- of a step with that next part: its checkpoints, their gate, its two files of arcs and its runs
pub record IsBehind (step next : ℕ) (f : FileNo) : Type 0 where
  pub step_is : f.step ≡ step
  pub from : checkpoint_part ≤ f.part
  pub until : f.part < parts_end next

-- the file of the diagram that the step drops, or one of these where it sweeps
abbrev pub IsCutBy : Step → ℕ → ℕ → FileNo → Type 0
IsCutBy step number next f =
    ((gone : ℕ) × IsTrue (drops gone step) × (f ≡ node_file gone)) ⊎ (IsTrue (sweeps step) × IsBehind number next f)

-- no other file changed; what was empty is empty, and what held no byte holds none
pub record IsTidied (step : Step) (number next : ℕ) (old new : Folder) : Type 0 where
  pub only : OnlyChanges (IsCutBy step number next) old new
  pub empty : (f : FileNo) → file_in old f ≡ no_file → file_in new f ≡ no_file
  pub stays : (f : FileNo) → (file_in old f).bytes ≡ [] → (file_in new f).bytes ≡ []
