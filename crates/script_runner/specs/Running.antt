-- What holds at every moment of a run, and what a run leaves.
use Rattle.std.specs.Prelude.{◌≡◌, ◌≢◌, ◌⊎◌, ℕ, ◌-◌, ◌*◌, ◌/◌, ◌^◌, ◌<◌, ◌≤◌, IsTrue, List, [], ◌++◌, length, take}
use Rattle.std.specs.Prelude.{get_or, nat_eq}
use Rattle.std.specs.List.{common_prefix_len}
use Rattle.shelf_model.specs.declared.file_no.FileNo.{FileNo}
use Rattle.shelf_model.specs.Folder.{Folder, Image, file_in, bytes_in, IsImage, OnlyChanges}
use Rattle.shelf_model.specs.World.{Moment, World, now, said, file}
use Rattle.shelf_model.specs.Moments.{Throughout, OnlyOldImages}
use Rattle.bool_tables.specs.declared.steps.Step.TheVariants as step
use Rattle.bool_tables.specs.declared.steps.Planned.{Planned}
use Rattle.catalogue.specs.declared.layout.Entry.{Entry}
use Rattle.catalogue.specs.Entries.{IsEntryOf}
use Rattle.catalogue.specs.Files.{job_step, job_file, catalogue, step_gate}
use Rattle.catalogue.specs.Standings.{without_budget}
use Rattle.catalogue.specs.Counts.{present, is_stored, count_in}
use Rattle.diagram_list.specs.Saying.{IsSaying, StaysThere}
use Rattle.sound_image.specs.Files.{node_file, checkpoint_gate}
use Rattle.shelf_model.specs.declared.fault.StreamFault.TheVariants as stream
use Rattle.sweep_checkpoint.specs.Loads.{IsLoadFault}
use Rattle.shelf_model.specs.declared.sort_fault.SortFault.TheVariants as sort
use Rattle.step_engine.specs.StepFaults.{IsStepFault}
use Rattle.step_work.specs.Tuples.{joins, sweeps}
use Rattle.step_work.specs.Plans.{no_step}
use Rattle.sound_image.specs.Jobs.{Job, step_at}
use Rattle.sound_image.specs.Entries.{kind_of, work_of}
use Rattle.sound_image.specs.Sound.{IsSound}
use Rattle.sound_image.specs.Holds.{AreSound, HaveCount, HaveAtLeast}
use Rattle.script_reader.specs.declared.plan.LineEnd.{LineEnd}
use Rattle.script_runner.specs.declared.finish.Finish.{Finish}
use Rattle.script_runner.specs.declared.finish.Finish.TheVariants.{Done, OtherJob, FolderFault, SayFault, Damaged}
use Rattle.script_runner.specs.declared.finish.Finish.TheVariants.{RunsSpent}
use Rattle.script_runner.specs.Text.{ended_before, run_text}
use Rattle.script_runner.specs.Lean.{IsLean}
use Rattle.script_runner.specs.Shapes.{IsShape, IsShapeFront, AreWhole, IsWholeShape}
use Rattle.script_runner.specs.Said.{whole_lines, acknowledged, said_count}

-- a run of calls that said a front part of the text and did nothing else
pub record SaysOnly (text : List ℕ) (old new : World) : Type 0 where
  pub moments : Throughout old new (IsSaying text (now old))
  pub texts_are : new.texts ≡ old.texts
  pub home_is : new.home ≡ old.home
  pub inside_is : new.inside ≡ old.inside
  pub strays_are : new.strays ≡ old.strays

-- an image that a stop may leave where these bytes were said since a run of the job began in the
-- old folder: it is sound, has each step whose line was said and as many as each image of the old
-- folder, and stores the job where the banner was said
pub record IsSafe (job : Job) (lines : List LineEnd) (old : Folder) (bytes : List ℕ)
    (r : FileNo → List ℕ) : Type 0 where
  pub sound : IsSound job r
  pub has_said : said_count (count_in (present old)) lines bytes ≤ count_in r
  pub has_old : (count : ℕ) → HaveAtLeast count old → count ≤ count_in r
  pub stored : 0 < whole_lines bytes → IsTrue (is_stored r)

-- a job is stored, so many steps are counted at least, and the catalogue begins with these bytes
pub record Begins (count : ℕ) (front : List ℕ) (r : FileNo → List ℕ) : Type 0 where
  pub stored : IsTrue (is_stored r)
  pub counts : count ≤ length (r step_gate)
  pub begins : take (length front) (r catalogue) ≡ front

-- each image of the folder does
abbrev pub AllBegin : ℕ → List ℕ → Folder → Type 0
AllBegin count front folder = (image : Image) → IsImage folder image
    → Begins count front (bytes_in image)

-- what all images of the old folder had of committed steps, all images have
abbrev pub KeepsSteps : Folder → Folder → Type 0
KeepsSteps old new = (count : ℕ) (front : List ℕ) → length front ≡ 128 * count
    → AllBegin count front old → AllBegin count front new

-- no line waits: the image is one of the old folder, or the lines of all its committed steps but
-- the last were said, or were before
abbrev pub WaitsNot : List LineEnd → Folder → List ℕ → Image → Type 0
WaitsNot lines old front image =
    IsImage old image
    ⊎ (ended_before (count_in (bytes_in image) - 1) lines
    ≤ acknowledged (count_in (present old)) lines front)

-- a file of one of so many steps, or of the job
abbrev pub IsJobs : ℕ → FileNo → Type 0
IsJobs steps f = (f.step < steps) ⊎ (f.step ≡ job_step)

-- every file of no step and not of the job is as it was
abbrev pub OthersAre : ℕ → Folder → Folder → Type 0
OthersAre steps = OnlyChanges (IsJobs steps)

-- where each image was sound for the job at first: a front part of its text was said, and each
-- image is safe
pub record IsSafeRun (job : Job) (lines : List LineEnd) (old : Folder) (front : List ℕ) (new : Folder) : Type 0 where
  pub rest : List ℕ
  pub text_is : run_text job lines (present old) ≡ front ++ rest
  pub safe : (image : Image) → IsImage new image → IsSafe job lines old front (bytes_in image)

-- a run that began in the old folder and has said this: a front part of whole lines, other files
-- are as they were, no image lost a committed step, no line waits, and where each image was sound
-- at first it is safe
pub record IsRunning (job : Job) (lines : List LineEnd) (old : Folder) (front : List ℕ) (new : Folder) : Type 0 where
  pub shape : IsShapeFront job.steps lines (present old) (present new) front
  pub others : OthersAre (length job.steps) old new
  pub keeps : KeepsSteps old new
  pub waits : (image : Image) → IsImage new image → WaitsNot lines old front image
  pub safe_run : AreSound job old → IsSafeRun job lines old front new

-- a moment at which P holds of what was said since, and of the folder
pub record HasSaid (P : List ℕ → Folder → Type 0) (old m : Moment) : Type 0 where
  pub front : List ℕ
  pub said_is : m.said ≡ old.said ++ front
  pub holds : P front m.folder

-- another job is stored: its file is another one, the budget aside
pub record IsOther (job : List ℕ) (r : FileNo → List ℕ) : Type 0 where
  pub stored : IsTrue (is_stored r)
  pub other : without_budget (r job_file) ≢ job

-- and that is the first byte that differs, the budget aside, or the shorter length
pub record HasOtherJob (job : List ℕ) (at : ℕ) (r : FileNo → List ℕ) : Type 0 where
  pub is_other : IsOther job r
  pub place : at ≡ common_prefix_len nat_eq (without_budget (r job_file)) job

-- a job is stored, and the step gate counts more than the steps, or the catalogue lacks an entry that it counts: its
-- first entry that isn't whole
pub record IsDamage (steps : ℕ) (f : FileNo) (at : ℕ) (r : FileNo → List ℕ) : Type 0 where
  pub stored : IsTrue (is_stored r)
  pub place : ((f ≡ step_gate) × (at ≡ steps) × (steps < length (r step_gate)))
      ⊎ ((f ≡ catalogue) × (at ≡ 128 * (length (r catalogue) / 128))
      × (length (r catalogue) < 128 * length (r step_gate)))

-- no entry of a committed step, of the kind of that step, stands whole at its place
pub record IsEntryDamage (steps : List Planned) (f : FileNo) (at : ℕ) (r : FileNo → List ℕ) : Type 0 where
  pub step : ℕ
  pub counted : step < count_in r
  pub file_is : f ≡ catalogue
  pub at_is : at ≡ 128 * step
  pub none_there : (e : Entry) → IsEntryOf step r e
      → e.kind ≢ kind_of (get_or steps step no_step).step

-- the station as it stood after so many of its calls
abbrev pub stood_after : ℕ → World → World
stood_after calls world = record world { clock = calls }

-- a step that sweeps found that place damaged: it began anew at a moment of the run at which exactly the steps before
-- it were committed and none of its checkpoints was gated, and that is its fault as the folder stood then
pub record IsSweepDamage (n : ℕ) (steps : List Planned) (f : FileNo) (at : ℕ) (first : Folder)
    (old new : World) : Type 0 where
  pub step : ℕ
  pub within : step < length steps
  pub swept : IsTrue (sweeps (get_or steps step no_step).step)
  pub began : ℕ
  pub since : old.clock ≤ began
  pub until : began ≤ new.clock
  pub committed : count_in (present (new.moment began).folder) ≡ step
  pub none_gated : (file (stood_after began new) (checkpoint_gate step)).bytes ≡ []
  pub fault : IsStepFault n (get_or steps step no_step).step (stood_after began new) (sort.Damaged f at)
  -- in the first folder it wasn't committed, and the file is as it was there if it is that of a step that was
  pub uncommitted : count_in (present first) ≤ step
  pub at_first : (k : ℕ) → k < count_in (present first) → f ≡ node_file k
      → file (stood_after began new) f ≡ file_in first f

-- the last gated checkpoint of a step that sweeps was damaged, at a moment of the run at which exactly the steps before
-- it were committed: its file ended before the gate says, or the bytes at its place were none that keeps the rules
pub record IsPointDamage (steps : List Planned) (f : FileNo) (at : ℕ) (first : Folder) (old new : World)
    : Type 0 where
  pub step : ℕ
  pub within : step < length steps
  pub swept : IsTrue (sweeps (get_or steps step no_step).step)
  pub looked : ℕ
  pub since : old.clock ≤ looked
  pub until : looked ≤ new.clock
  pub committed : count_in (present (new.moment looked).folder) ≡ step
  pub fault : IsLoadFault step (present (new.moment looked).folder) (stream.Damaged f at)
  -- in the first folder it wasn't committed
  pub uncommitted : count_in (present first) ≤ step

-- the place was damaged: an entry in the first folder, or what a step that sweeps met, or its last gated checkpoint
abbrev pub IsMetDamage : ℕ → List Planned → FileNo → ℕ → Folder → World → World → Type 0
IsMetDamage n steps f at first old new =
    IsEntryDamage steps f at (present first) ⊎ IsSweepDamage n steps f at first old new
    ⊎ IsPointDamage steps f at first old new

-- a step that joins pieces has no part number left, and its work is great where each image was sound at first
pub record IsSpentStep (job : Job) (first : Folder) (step : ℕ) : Type 0 where
  pub within : step < length job.steps
  pub joined : IsTrue (joins (step_at job step).step)
  pub work : AreSound job first → 2 ^ 35 ≤ work_of job (step_at job step).step

-- the run ended because the folder holds another job, or is damaged
abbrev pub RefusesFolder : Finish → Type 0
RefusesFolder Done = ⊥
RefusesFolder (OtherJob at) = Unit
RefusesFolder FolderFault = ⊥
RefusesFolder SayFault = ⊥
RefusesFolder (Damaged f at) = Unit
RefusesFolder (RunsSpent step) = ⊥

-- a part of a run stopped it
abbrev pub IsStop : Finish → Type 0
IsStop Done = ⊥
IsStop (OtherJob at) = ⊥
IsStop FolderFault = Unit
IsStop SayFault = Unit
IsStop (Damaged f at) = Unit
IsStop (RunsSpent step) = Unit

-- a moment at which nothing was said since, and no image is new
pub record IsStill (old m : Moment) : Type 0 where
  pub said_is : m.said ≡ old.said
  pub images : OnlyOldImages old m

-- nothing was done throughout
abbrev pub StoodStill : World → World → Type 0
StoodStill old new = Throughout old new (IsStill (now old))

-- a damaged place was met: before anything was done, or where an entry was read or a step swept, behind whole lines
pub record MeetsDamage (job : Job) (lines : List LineEnd) (f : FileNo) (at : ℕ) (old new : World) : Type 0 where
  pub front : List ℕ
  pub said_is : said new ≡ said old ++ front
  pub whole : AreWhole job.steps lines (present (now old).folder) (present (now new).folder) front
  pub place : (IsDamage (length job.steps) f at (present (now old).folder) × StoodStill old new)
      ⊎ IsMetDamage job.n job.steps f at (now old).folder old new

-- a step had no part number left, behind whole lines
pub record MeetsSpent (job : Job) (lines : List LineEnd) (step : ℕ) (old new : World) : Type 0 where
  pub front : List ℕ
  pub said_is : said new ≡ said old ++ front
  pub whole : IsShape job.steps lines (present (now old).folder) (present (now new).folder) front
  pub spent : IsSpentStep job (now old).folder step

-- the file of each diagram that a step from that one on drops is empty
abbrev pub AreEmptied : List Planned → ℕ → ℕ → Folder → Type 0
AreEmptied steps from until folder =
    (k : ℕ) → from ≤ k → k < until → (gone : ℕ) → (get_or steps k no_step).step ≡ step.Drop gone
    → (file_in folder (node_file gone)).bytes ≡ []

-- a run of the steps of a job
pub record RunsSteps (job : Job) (lines : List LineEnd) (finish : Finish) (old new : World) : Type 0 where
  pub moments : Throughout old new (HasSaid (IsRunning job lines (now old).folder) (now old))
  pub stays : StaysThere old new
  -- where each image was sound at first the folder is refused for nothing, and where all was done
  -- the whole text was said
  pub goes_on : AreSound job (now old).folder → ¬ (RefusesFolder finish)
  pub whole : AreSound job (now old).folder → finish ≡ Done
      → said new ≡ said old ++ run_text job lines (present (now old).folder)
  -- where all was done all lines were said, every image has all steps, and what was dropped since
  -- is empty
  pub says : finish ≡ Done
      → HasSaid (λ text folder. IsWholeShape job.steps lines (present (now old).folder) (present folder) text) (now old)
      (now new)
  pub all : finish ≡ Done → HaveCount (length job.steps) (now new).folder
  pub emptied : finish ≡ Done
      → AreEmptied job.steps (count_in (present (now old).folder)) (length job.steps) (now new).folder
  -- where each image was sound at first so is what the last 1,024 steps dropped that were committed then
  pub emptied_last : AreSound job (now old).folder → finish ≡ Done
      → AreEmptied job.steps (count_in (present (now old).folder) - 1024) (length job.steps) (now new).folder
  -- and where that folder was lean it is lean
  pub lean : AreSound job (now old).folder → finish ≡ Done
      → IsLean job (count_in (present (now old).folder)) (now old).folder
      → IsLean job (length job.steps) (now new).folder
  -- another job is refused exactly where one is stored, unless a call of the folder failed, and
  -- then nothing was done
  pub other_job : (at : ℕ) → finish ≡ OtherJob at
      → HasOtherJob job.bytes at (present (now old).folder)
  pub refuses_other : IsOther job.bytes (present (now old).folder) → StoodStill old new
      × (((at : ℕ) × (finish ≡ OtherJob at)) ⊎ (finish ≡ FolderFault))
  -- damage is named where the old folder has it, or the folder as it stood at a moment at which a step was at work
  pub damaged : (f : FileNo) (at : ℕ) → finish ≡ Damaged f at
      → MeetsDamage job lines f at old new
  -- and the step that has no part number left
  pub spent : (step : ℕ) → finish ≡ RunsSpent step → MeetsSpent job lines step old new
