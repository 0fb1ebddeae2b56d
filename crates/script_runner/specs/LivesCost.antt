-- How many calls of the station any list of calls of the program in one folder makes together.
use Rattle.std.specs.Prelude.{ℕ, ◌+◌, ◌-◌, ◌≤◌, List, [], ◌∷◌, sum_by}
use Rattle.shelf_model.specs.Folder.{Folder}
use Rattle.shelf_model.specs.World.{now}
use Rattle.sound_image.specs.Jobs.{Job}
use Rattle.sound_image.specs.Entries.{work_of}
use Rattle.script_runner.specs.Lives.{Life, SameFiles, IsLeftOf}
use Rattle.script_runner.specs.Stops.{IsPaidRun, StopsIn}

-- the call found that folder and was ended at a moment of it; what a stop costs in it is what a run of the job with so
-- many lines does, with so many calls besides; and so many pay for going on from what it found
pub record CostsLife (job : Job) (lines besides rest : ℕ) (folder : Folder) (life : Life) : Type 0 where
  pub found : SameFiles (now life.old).folder folder
  pub since : life.old.clock ≤ life.at
  pub until : life.at ≤ life.new.clock
  pub stops : StopsIn job lines besides life.old life.new
  pub leaves : IsLeftOf (life.new.moment life.at).folder life.left
  pub may : IsPaidRun job lines 0 rest folder

-- each call found what the one before left, and costs so, with what pays for going on from that
abbrev pub CostLives : Job → ℕ → ℕ → Folder → List Life → List ℕ → Type 0
CostLives job lines besides folder [] [] = Unit
CostLives job lines besides folder [] (rest ∷ rests) = ⊥
CostLives job lines besides folder (life ∷ lives) [] = ⊥
CostLives job lines besides folder (life ∷ lives) (rest ∷ rests) =
    CostsLife job lines besides rest folder life × CostLives job lines besides life.left lives rests

-- what the last of them left of the folder
abbrev pub left_by : Folder → List Life → Folder
left_by folder [] = folder
left_by folder (life ∷ lives) = left_by life.left lives

-- the calls of the station that they made together
abbrev pub calls_by : List Life → ℕ
calls_by [] = 0
calls_by (life ∷ lives) = (life.at - life.old.clock) + calls_by lives

-- the work of all steps of the job, in turns
abbrev pub job_work : Job → ℕ
job_work job = sum_by (λ p. work_of job p.step) job.steps

-- what pays for going on with each of them, and the calls besides
abbrev pub all_rests : ℕ → List ℕ → ℕ
all_rests besides [] = 0
all_rests besides (rest ∷ rests) = besides + rest + all_rests besides rests
