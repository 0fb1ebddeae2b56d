-- What a run of a job in a folder leaves, from entering it on.
use Rattle.std.specs.Prelude.{◌≡◌, ℕ, ◌⊎◌, ◌-◌, ◌^◌, ◌<◌, ◌≤◌, List, [], ◌++◌, length}
use Rattle.shelf_model.specs.declared.file_no.FileNo.{FileNo}
use Rattle.shelf_model.specs.World.{Moment, World, now, said}
use Rattle.shelf_model.specs.Moments.{Throughout, OnlyOldImages}
use Rattle.shelf_model.specs.Faults.{Faults, Rose}
use Rattle.catalogue.specs.Counts.{present, count_in}
use Rattle.sound_image.specs.Jobs.{Job, step_at}
use Rattle.sound_image.specs.Entries.{work_of}
use Rattle.sound_image.specs.Holds.{AreSound, HaveCount}
use Rattle.script_reader.specs.declared.plan.LineEnd.{LineEnd}
use Rattle.script_runner.specs.declared.ending.Ending.{Ending}
use Rattle.script_runner.specs.declared.ending.Ending.TheVariants.{FolderFault, SayFault}
use Rattle.script_runner.specs.Text.{run_text, other_job_line, damaged_line, runs_spent_line}
use Rattle.script_runner.specs.Shapes.{IsShape, IsShapeFront, AreWhole, IsWholeShape, IsTail}
use Rattle.diagram_list.specs.Saying.{SaysFront}
use Rattle.script_runner.specs.Running.{IsRunning, HasSaid, IsOther, HasOtherJob, IsDamage, IsMetDamage, IsSpentStep}
use Rattle.script_runner.specs.Running.{AreEmptied}
use Rattle.script_runner.specs.Lean.{IsLean}

-- the statuses of a run that was done, refused its folder, met a fault of the folder or of saying, or had no part
-- number left
abbrev pub EndsRun : ℕ → Type 0
EndsRun status = (status ≡ 0) ⊎ (status ≡ 5) ⊎ (status ≡ 7) ⊎ (status ≡ 8) ⊎ (status ≡ 10) ⊎ (status ≡ 11)

-- the statuses of a run that refused its folder
abbrev pub Refused : ℕ → Type 0
Refused status = (status ≡ 5) ⊎ (status ≡ 10)

-- a run in a folder that stores another job: no image is new, and the line that says so was said,
-- or a front part of it
pub record RefusesOther (job : List ℕ) (status : ℕ) (start : Moment) (old new : World) : Type 0 where
  pub at : ℕ
  pub place : HasOtherJob job at (present start.folder)
  pub moments : Throughout old new (λ m. SaysFront start.said (other_job_line at) m.said
      × OnlyOldImages start m)
  pub status_is : (status ≡ 5) ⊎ (status ≡ 7) ⊎ (status ≡ 8)
  pub whole : status ≡ 5 → said new ≡ start.said ++ other_job_line at

-- a place is damaged: that was met before anything was done or said, or where an entry was read, or where a step swept
-- over a folder in which it was damaged as that step began anew, or that of the step's last checkpoint
abbrev pub IsFound : Job → List ℕ → FileNo → ℕ → Moment → World → World → Type 0
IsFound job before file at start old new =
    (IsDamage (length job.steps) file at (present start.folder) × (before ≡ [])
    × Throughout old new (OnlyOldImages start))
    ⊎ IsMetDamage job.n job.steps file at start.folder old new

-- a damaged place was named behind whole lines
pub record NamesDamage (job : Job) (lines : List LineEnd) (start : Moment) (old new : World) : Type 0 where
  pub file : FileNo
  pub at : ℕ
  pub before : List ℕ
  pub said_is : said new ≡ start.said ++ (before ++ damaged_line file at)
  pub whole : AreWhole job.steps lines (present start.folder) (present (now new).folder) before
  pub place : IsFound job before file at start old new

-- a step without a part number was named behind whole lines
pub record NamesSpentStep (job : Job) (lines : List LineEnd) (start : Moment) (old new : World) : Type 0 where
  pub step : ℕ
  pub before : List ℕ
  pub said_is : said new ≡ start.said ++ (before ++ runs_spent_line step)
  pub whole : IsShape job.steps lines (present start.folder) (present (now new).folder) before
  pub spent : IsSpentStep job start.folder step

-- the line of a status that is so, behind what was said before it: another job is stored, and nothing was said, or a
-- place is damaged, or a step has no part number left
abbrev pub IsTrueLine : Job → Moment → World → World → List ℕ → List ℕ → Type 0
IsTrueLine job start old new before line =
    ((at : ℕ) × (line ≡ other_job_line at) × (before ≡ []) × HasOtherJob job.bytes at (present start.folder))
    ⊎ (((file : FileNo) × (at : ℕ) × (line ≡ damaged_line file at) × IsFound job before file at start old new)
    ⊎ ((step : ℕ) × (line ≡ runs_spent_line step) × IsSpentStep job start.folder step))

-- a front part of such a line, behind whole lines
pub record BeginsTrueLine (job : Job) (lines : List LineEnd) (start : Moment) (old new : World) (before tail : List ℕ)
    : Type 0 where
  pub whole : AreWhole job.steps lines (present start.folder) (present (now new).folder) before
  pub rest : List ℕ
  pub line_is : IsTrueLine job start old new before (tail ++ rest)

-- what was said is a front part of the run's lines, or whole ones and a front part of the line of a status that is so
pub record StopsSaying (job : Job) (lines : List LineEnd) (start : Moment) (old new : World) : Type 0 where
  pub before : List ℕ
  pub tail : List ℕ
  pub said_is : said new ≡ start.said ++ (before ++ tail)
  pub shape : IsShapeFront job.steps lines (present start.folder) (present (now new).folder) before
  pub tail_is : (tail ≡ []) ⊎ BeginsTrueLine job lines start old new before tail

-- a front part of the line of a step of great work that has no part number left
pub record IsSpentTail (job : Job) (tail : List ℕ) : Type 0 where
  pub step : ℕ
  pub within : step < length job.steps
  pub work : 2 ^ 35 ≤ work_of job (step_at job step).step
  pub rest : List ℕ
  pub line_is : runs_spent_line step ≡ tail ++ rest

-- a moment of a run: what was said since is a front part of its lines and a front part of a
-- status's line behind whole ones, and where each image was sound at first no status has a line so
-- far but that of a step of great work
pub record IsMoment (job : Job) (lines : List LineEnd) (start m : Moment) : Type 0 where
  pub front : List ℕ
  pub tail : List ℕ
  pub said_is : m.said ≡ start.said ++ (front ++ tail)
  pub running : IsRunning job lines start.folder front m.folder
  pub tail_is : IsTail job.steps lines (present start.folder) (present m.folder) front tail
  pub no_tail : AreSound job start.folder → (tail ≡ []) ⊎ IsSpentTail job tail

-- what a run of a job leaves by the moment at which it was started
pub record RunsFrom (job : Job) (lines : List LineEnd) (status : ℕ) (start : Moment) (old new : World) : Type 0 where
  pub moments : Throughout old new (IsMoment job lines start)
  -- where each image was sound for the job at first the folder isn't refused, and with 0 the whole
  -- text was said
  pub goes_on : AreSound job start.folder → ¬ (Refused status)
  pub whole : AreSound job start.folder → status ≡ 0
      → said new ≡ start.said ++ run_text job lines (present start.folder)
  -- with 0 all lines were said, every image has all steps, and what was dropped since is empty
  pub says : status ≡ 0
      → HasSaid (λ text folder. IsWholeShape job.steps lines (present start.folder) (present folder) text) start
      (now new)
  pub all : status ≡ 0 → HaveCount (length job.steps) (now new).folder
  pub emptied : status ≡ 0
      → AreEmptied job.steps (count_in (present start.folder)) (length job.steps) (now new).folder
  -- where each image was sound at first so is what the last 1,024 steps dropped that were committed then
  pub emptied_last : AreSound job start.folder → status ≡ 0
      → AreEmptied job.steps (count_in (present start.folder) - 1024) (length job.steps) (now new).folder
  -- and where that folder was lean it is lean: nothing is left over of any step
  pub lean : AreSound job start.folder → status ≡ 0
      → IsLean job (count_in (present start.folder)) start.folder → IsLean job (length job.steps) (now new).folder
  -- a folder that stores another job is refused, and with 5 it is such a one
  pub other : IsOther job.bytes (present start.folder) → RefusesOther job.bytes status start old new
  pub only_other : status ≡ 5 → IsOther job.bytes (present start.folder)
  -- with 10 a damaged place is named
  pub damaged : status ≡ 10 → NamesDamage job lines start old new
  -- and with 11 a step that has no part number left
  pub spent : status ≡ 11 → NamesSpentStep job lines start old new
  -- with 7 the line of no status was begun, and with 8 none but of one that is so
  pub quiet : status ≡ 7
      → HasSaid (λ text folder. IsShapeFront job.steps lines (present start.folder) (present folder) text) start
      (now new)
  pub unsaid : status ≡ 8 → StopsSaying job lines start old new

-- a job was run in the folder of that path
pub record RunsIn (folder : List ℕ) (job : Job) (lines : List LineEnd) (status : ℕ) (old new : World) : Type 0 where
  pub status_is : EndsRun status
  pub leaves : RunsFrom job lines status (now old) old new
  pub texts_are : new.texts ≡ old.texts
  pub home_is : new.home ≡ old.home
  pub strays_are : folder ≡ old.home → new.strays ≡ old.strays

-- each fault has its count
pub record EndingHasCause (old new : Faults) (ending : Ending) : Type 0 where
  pub folder_fault : ending ≡ FolderFault → Rose old.folder new.folder
  pub say_fault : ending ≡ SayFault → Rose old.say new.say
