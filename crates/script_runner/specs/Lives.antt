-- Calls of the program in one folder, one after the other, each ended by its status, by a kill or
-- by a power cut.
use Rattle.std.specs.Prelude.{◌≡◌, ◌⊎◌, ℕ, ◌<◌, ◌≤◌, IsTrue, List, [], ◌∷◌, ◌++◌}
use Rattle.shelf_model.specs.declared.file_no.FileNo.{FileNo}
use Rattle.shelf_model.specs.Folder.{Folder, Image, file_in, bytes_in, IsImage, AreFiles}
use Rattle.shelf_model.specs.World.{World, now, said}
use Rattle.catalogue.specs.Counts.{present, is_stored, count_in}
use Rattle.sound_image.specs.Holds.{AreSound, HaveAtLeast}
use Rattle.command_words.specs.Readings.{reading_of}
use Rattle.script_reader.specs.declared.plan.Plan.{Plan}
use Rattle.script_runner.specs.Source.{Source}
use Rattle.script_runner.specs.Said.{whole_lines, said_count}
use Rattle.script_runner.specs.Entered.{IsSpentTail}
use Rattle.sound_image.specs.Jobs.{Job}
use Rattle.script_runner.specs.JobOf.{job_of}
use Rattle.script_runner.specs.Outcome.{Accepts, EndsRan, Ends}

-- a call of the program, the moment at which it was ended, what it had said by then, and the folder that was left
pub record Life : Type 0 where
  pub words : List (List ℕ)
  pub status : ℕ
  pub old : World
  pub new : World
  pub at : ℕ
  pub told : List ℕ
  pub left : Folder

-- the files of both folders are alike
abbrev pub SameFiles : Folder → Folder → Type 0
SameFiles a b = (f : FileNo) → file_in a f ≡ file_in b f

-- what was left of the folder: whatever a stop may leave of it, a stop could leave of that folder
abbrev pub IsLeftOf : Folder → Folder → Type 0
IsLeftOf folder left = (image : Image) → IsImage left image → IsImage folder image

-- the call found that folder, in which every file is one that can be, and was ended at a moment of it: its last where
-- it came to its end, and the one after the append or the cut within which it was ended
pub record IsLife (folder : Folder) (life : Life) : Type 0 where
  pub found : SameFiles (now life.old).folder folder
  pub files : AreFiles (now life.old).folder
  pub ends : Ends (reading_of life.words) life.status life.old life.new
  pub since : life.old.clock ≤ life.at
  pub until : life.at ≤ life.new.clock
  pub said_is : (life.new.moment life.at).said ≡ said life.old ++ life.told
  pub leaves : IsLeftOf (life.new.moment life.at).folder life.left

-- the words ask for this source to be run, with whichever budget, and it asks for this plan
pub record RunsPlan (source : Source) (plan : Plan) (life : Life) : Type 0 where
  pub accepts : Accepts life.old (reading_of life.words) plan
  pub source_is : accepts.source ≡ source

-- the call ran no job in the folder: it ended before it entered it, or listed its diagrams
abbrev pub StaysOut : Life → Type 0
StaysOut life = ¬ (EndsRan (reading_of life.words) life.status life.old life.new)

-- every image of the folder stores a job
abbrev pub AreStored : Folder → Type 0
AreStored folder = (image : Image) → IsImage folder image → IsTrue (is_stored (bytes_in image))

-- each call found what the one before left; its words are those of one job, or it stayed out, or
-- every image stored a job already
abbrev pub AreLives : Source → Plan → Folder → List Life → Type 0
AreLives source plan folder [] = Unit
AreLives source plan folder (life ∷ lives) =
    IsLife folder life × (RunsPlan source plan life ⊎ StaysOut life ⊎ AreStored folder)
    × AreLives source plan life.left lives

-- lines of a run of the job, and behind them nothing or a front part of the line of a step that has no part number
-- left, which counts for nothing
pub record AreTold (job : Job) (told lines : List ℕ) : Type 0 where
  pub tail : List ℕ
  pub told_is : told ≡ lines ++ tail
  pub tail_is : (tail ≡ []) ⊎ IsSpentTail job tail

-- each image has each step whose line was said, and stores the job where the banner was
pub record HasSaidLines (job : Job) (plan : Plan) (folder : Folder) (life : Life) : Type 0 where
  pub lines : List ℕ
  pub told : AreTold job life.told lines
  pub has_steps : (image : Image) → IsImage life.left image
      → said_count (count_in (present folder)) plan.lines lines ≤ count_in (bytes_in image)
  pub has_job : 0 < whole_lines lines → AreStored life.left

-- what a call leaves of a folder: each image is sound for the job, no step that all images had is
-- lost, and a job that all of them store stays; where it ran the job each image has each step whose
-- line it said, and stores the job where it said its banner
pub record LifeKeeps (source : Source) (plan : Plan) (folder : Folder) (life : Life) : Type 0 where
  pub sound : AreSound (job_of source plan) life.left
  pub has_old : (count : ℕ) → HaveAtLeast count folder → HaveAtLeast count life.left
  pub still_stored : AreStored folder → AreStored life.left
  pub has_said : RunsPlan source plan life → HasSaidLines (job_of source plan) plan folder life

-- each call of the list does
abbrev pub LivesKeep : Source → Plan → Folder → List Life → Type 0
LivesKeep source plan folder [] = Unit
LivesKeep source plan folder (life ∷ lives) = LifeKeeps source plan folder life
    × LivesKeep source plan life.left lives
