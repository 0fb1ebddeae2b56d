-- What a list of a folder's diagrams leaves, from entering the folder on.
use Rattle.std.specs.Prelude.{◌≡◌, ◌⊎◌, ℕ, ◌≤◌, ◌&&◌, List, [], ◌∷◌, ◌++◌, length, take, decimal, nat_lt, if◌then◌else◌}
use Rattle.std.specs.List.{flat_map}
use Rattle.bool_tables.specs.Plans.{is_live}
use Rattle.shelf_model.specs.declared.file_no.FileNo.{FileNo}
use Rattle.shelf_model.specs.World.{Moment, World, now, said}
use Rattle.shelf_model.specs.Moments.{Throughout, OnlyOldImages}
use Rattle.catalogue.specs.Counts.{present, count_in}
use Rattle.catalogue.specs.Standings.{most_steps}
use Rattle.diagram_list.specs.Listing.{first_steps, listing}
use Rattle.diagram_list.specs.Lists.{StandWhole, IsDamagedPlace}
use Rattle.sound_image.specs.Jobs.{Job, step_at}
use Rattle.sound_image.specs.Entries.{name_of, count_of}
use Rattle.sound_image.specs.Holds.{AreSound}
use Rattle.script_runner.specs.Text.{damaged_line}
use Rattle.diagram_list.specs.Saying.{SaysFront}

-- the statuses of a list that was said, met a fault of the folder or of saying, or damage
abbrev pub EndsList : ℕ → Type 0
EndsList status = (status ≡ 0) ⊎ (status ≡ 7) ⊎ (status ≡ 8) ⊎ (status ≡ 10)

-- the line of a job's step, where it is a named diagram that is live after the first n steps: its name and its number
-- of nodes
abbrev pub diagram_line : Job → ℕ → ℕ → List ℕ
diagram_line job n k =
    if is_live (take n job.steps) k && nat_lt 0 (length (name_of job (step_at job k)))
    then name_of job (step_at job k) ++ (32 ∷ (decimal (count_of job k (step_at job k).step) ++ 10 ∷ []))
    else []

-- the lines of the first n steps of a job, in order
abbrev pub diagram_lines : Job → ℕ → List ℕ
diagram_lines job n = flat_map (diagram_line job n) (first_steps n)

-- a moment of a list: a front part of its lines was said, or, before any of them, of the line of a damaged place; and
-- no image is new
pub record IsListing (start m : Moment) : Type 0 where
  pub images : OnlyOldImages start m
  pub says : SaysFront start.said (listing (present start.folder)) m.said
      ⊎ ((file : FileNo) × (at : ℕ) × IsDamagedPlace file at (present start.folder)
      × SaysFront start.said (damaged_line file at) m.said)

-- a damaged place was named, and nothing else was said
pub record NamesPlace (start : Moment) (new : World) : Type 0 where
  pub file : FileNo
  pub at : ℕ
  pub place : IsDamagedPlace file at (present start.folder)
  pub said_is : said new ≡ start.said ++ damaged_line file at

-- what a list leaves by the moment at which it was started
pub record ListsFrom (status : ℕ) (start : Moment) (old new : World) : Type 0 where
  pub moments : Throughout old new (IsListing start)
  -- with 0 all lines were said, of entries that all stand
  pub whole : status ≡ 0 → said new ≡ start.said ++ listing (present start.folder)
  pub stand : status ≡ 0 → StandWhole (count_in (present start.folder)) (present start.folder)
  -- with 10 a damaged place is named
  pub damaged : status ≡ 10 → NamesPlace start new
  -- where each image was sound for a job at first, the lines are those of its live diagrams, and no place is damaged if
  -- it has as few steps as jobs have
  pub goes_on : (job : Job) → length job.steps ≤ most_steps → AreSound job start.folder → ¬ (status ≡ 10)
  pub lines_are : (job : Job) → AreSound job start.folder
      → listing (present start.folder) ≡ diagram_lines job (count_in (present start.folder))

-- the diagrams of the folder at that path were listed
pub record ListsIn (folder : List ℕ) (status : ℕ) (old new : World) : Type 0 where
  pub status_is : EndsList status
  pub leaves : ListsFrom status (now old) old new
  pub texts_are : new.texts ≡ old.texts
  pub home_is : new.home ≡ old.home
  pub strays_are : folder ≡ old.home → new.strays ≡ old.strays
