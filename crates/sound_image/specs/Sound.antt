-- What an image shows of a job, and which images are sound for it. An image is taken by its reading, the bytes of each
-- file.
use Rattle.std.specs.Prelude.{◌≡◌, ◌≢◌, ◌⊎◌, ℕ, ◌<◌, ◌≤◌, false, IsTrue, List, [], length, take}
use Rattle.bool_tables.specs.Plans.{is_live}
use Rattle.shelf_model.specs.declared.file_no.FileNo.{FileNo}
use Rattle.catalogue.specs.declared.layout.Entry.{Entry}
use Rattle.catalogue.specs.Files.{job_step, job_file, step_gate}
use Rattle.catalogue.specs.Counts.{is_stored, count_in, entry_at}
use Rattle.catalogue.specs.Entries.{entry_bytes}
use Rattle.catalogue.specs.Standings.{without_budget}
use Rattle.sweep_core.specs.declared.checkpoint.Checkpoint.{Checkpoint}
use Rattle.step_going.specs.Standing.{IsLastOf}
use Rattle.step_work.specs.Plans.{step_at}
use Rattle.resumable.specs.Kinds.{RestsOn}
use Rattle.resumable.specs.Resumable as steps
use Rattle.sound_image.specs.Files.{node_file}
use Rattle.canon_file.specs.Laws.{HasForm}
use Rattle.sound_image.specs.Jobs.{Job, table_at, file_of}
use Rattle.sound_image.specs.Entries.{IsEntryOfStep}

-- the job is stored, by a run with any budget, each committed step has its entry, and each diagram that is live then
-- has its canonical file, which is defined for its table
pub record ShowsSteps (job : Job) (r : FileNo → List ℕ) : Type 0 where
  pub stored : IsTrue (is_stored r)
  pub job_is : without_budget (r job_file) ≡ job.bytes
  pub few : count_in r ≤ length job.steps
  pub entries : (k : ℕ) → k < count_in r → (e : Entry) × IsEntryOfStep job k e × (entry_at k r ≡ entry_bytes e)
  pub files : (s : ℕ) → IsTrue (is_live (take (count_in r) job.steps) s) → r (node_file s) ≡ file_of job s
  pub forms : (s : ℕ) → IsTrue (is_live (take (count_in r) job.steps) s) → HasForm job.n (table_at job s)

-- no job is stored and no step is counted, or the job's committed steps are shown
abbrev pub IsShown : Job → (FileNo → List ℕ) → Type 0
IsShown job r = ((is_stored r ≡ false) × (r step_gate ≡ [])) ⊎ ShowsSteps job r

-- where so many steps of the job are committed a run can go on: no step behind them but the next one has a gated
-- checkpoint, and that one has none, or goes on from its last one
abbrev pub IsResumableAt : Job → ℕ → (FileNo → List ℕ) → Type 0
IsResumableAt job count r = steps.IsResumable job.n job.text job.steps count r

-- so it is here; where no job is stored no step has a checkpoint
pub record IsResumable (job : Job) (r : FileNo → List ℕ) : Type 0 where
  pub unstored : is_stored r ≡ false → steps.HasNone job.steps 0 r
  pub goes_on : IsResumableAt job (count_in r) r

pub record IsSound (job : Job) (r : FileNo → List ℕ) : Type 0 where
  pub shown : IsShown job r
  pub resumable : IsResumable job r

-- what the last checkpoint of a step of the job rests on is no file of the job itself
abbrev pub RestsOnSteps : Job → Type 0
RestsOnSteps job = (k : ℕ) (r : FileNo → List ℕ) (c : Checkpoint) (f : FileNo) (many : ℕ) → k < length job.steps
    → steps.GoesOnAt job.n job.text job.steps k r → IsLastOf k r c → RestsOn (step_at job.steps k) c f many
    → f.step ≢ job_step
