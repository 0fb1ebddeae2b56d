-- What files say of a job that is to be attached, and what attaching it leaves.
use Rattle.std.specs.Prelude.{◌≡◌, ◌≢◌, ◌⊎◌, ℕ, ◌*◌, ◌/◌, ◌≤◌, true, false, List, ◌++◌, length, take, drop, map, not}
use Rattle.std.specs.Prelude.{nat_eq, nat_lt, bytes_eq, if◌then◌else◌, Result, Ok, Err}
use Rattle.std.specs.List.{common_prefix_len}
use Rattle.shelf_model.specs.declared.file_no.FileNo.{FileNo}
use Rattle.shelf_model.specs.File.{firm_file}
use Rattle.shelf_model.specs.Folder.{Folder, Image, file_in, bytes_in, IsImage}
use Rattle.shelf_model.specs.World.{Moment}
use Rattle.shelf_model.specs.Moments.{OnlyOldImages}
use Rattle.shelf_model.specs.declared.fault.StreamFault.{StreamFault}
use Rattle.shelf_model.specs.declared.fault.StreamFault.TheVariants as stream
use Rattle.catalogue.specs.declared.fault.AttachFault.{AttachFault}
use Rattle.catalogue.specs.declared.fault.AttachFault.TheVariants.{Damaged, OtherJob}
use Rattle.catalogue.specs.declared.standing.Standing.{Standing}
use Rattle.catalogue.specs.Files.{entry_size, job_file, job_gate, catalogue, step_gate}
use Rattle.catalogue.specs.Counts.{present, is_stored, count_in, HasCount}
use Rattle.catalogue.specs.Commits.{IsReady}

-- a job's bytes without the budget of the run that wrote them: 0 at the places 8 to 11, as far as there are such
unfoldable pub without_budget : List ℕ → List ℕ
without_budget xs = take 8 xs ++ map (λ _. 0) (take 4 (drop 8 xs)) ++ drop 12 xs

-- the file is that of the job, written by a run with any budget
abbrev pub IsJobFile : (job file : List ℕ) → Type 0
IsJobFile job file = without_budget file ≡ without_budget job

-- the gate counts more than the job's steps, or the catalogue ends before an entry that it counts: a place is damaged
abbrev pub counted_or : {E : Type 0} → (FileNo → ℕ → E) → ℕ → ℕ → ℕ → Result Standing E
counted_or damaged steps done size =
    if nat_lt steps done then Err (damaged step_gate steps)
    else (if nat_lt size (entry_size * done) then Err (damaged catalogue (entry_size * (size / entry_size)))
    else Ok (record { fresh = false; done = done }))

-- so an attach answers of a job with so many steps
abbrev pub counted_standing : ℕ → ℕ → ℕ → Result Standing AttachFault
counted_standing = counted_or Damaged

-- fresh where no job is stored; another one is refused at the first byte outside the budget that differs, or the
-- shorter length
abbrev pub standing_of : List ℕ → ℕ → (FileNo → List ℕ) → Result Standing AttachFault
standing_of job steps r =
    if is_stored r then
    (if bytes_eq (without_budget (r job_file)) (without_budget job)
    then counted_standing steps (length (r step_gate)) (length (r catalogue))
    else Err (OtherJob (common_prefix_len nat_eq (without_budget (r job_file)) (without_budget job))))
    else Ok (record { fresh = true; done = 0 })

-- the most steps that a job has
abbrev pub most_steps : ℕ
most_steps = 1048576

-- the same of whichever job is stored: fresh where there is none
abbrev pub standing_found : (FileNo → List ℕ) → Result Standing StreamFault
standing_found r =
    if is_stored r then counted_or stream.Damaged most_steps (length (r step_gate)) (length (r catalogue))
    else Ok (record { fresh = true; done = 0 })

-- a job is stored exactly where the standing isn't fresh, and so many steps are committed
pub record ShowsStanding (s : Standing) (r : FileNo → List ℕ) : Type 0 where
  pub stored : is_stored r ≡ not s.fresh
  pub count : count_in r ≡ s.done

-- after a look: that is how the job stands in every image and as it is read, where the catalogue has all entries
pub record IsLooked (s : Standing) (folder : Folder) : Type 0 where
  pub reads : ShowsStanding s (present folder)
  pub covers : entry_size * s.done ≤ length (file_in folder catalogue).bytes
  pub images : (image : Image) → IsImage folder image → ShowsStanding s (bytes_in image)

-- the job is stored whole, with whatever budget, and so many of its steps are committed
pub record IsStored (job : List ℕ) (n : ℕ) (r : FileNo → List ℕ) : Type 0 where
  pub job_is : IsJobFile job (r job_file)
  pub counts : HasCount n r

-- no job is stored, and the gate of steps is no longer than that
pub record IsUnstored (most : ℕ) (r : FileNo → List ℕ) : Type 0 where
  pub unstored : is_stored r ≡ false
  pub gate : length (r step_gate) ≤ most

-- the job begins: none is stored yet, or this one is, whole and with no step
abbrev pub IsBeginning : List ℕ → ℕ → (FileNo → List ℕ) → Type 0
IsBeginning job most r = IsUnstored most r ⊎ IsStored job 0 r

-- every file but those of the job and of the gates is as it was
abbrev pub OnlyJobFiles : Moment → Moment → Type 0
OnlyJobFiles old m =
    (q : FileNo) → q ≢ job_file → q ≢ job_gate → q ≢ step_gate → file_in m.folder q ≡ file_in old.folder q

-- while the files of the job are only made sure: reads give what they gave, and no image is new
pub record DuringSyncs (old m : Moment) : Type 0 where
  pub others : OnlyJobFiles old m
  pub reads : (q : FileNo) → (file_in m.folder q).bytes ≡ (file_in old.folder q).bytes
  pub images : OnlyOldImages old m

-- both gates are sure, as they are read
pub record AreGatesSure (folder : Folder) : Type 0 where
  pub job : file_in folder job_gate ≡ firm_file (file_in folder job_gate).bytes
  pub steps : file_in folder step_gate ≡ firm_file (file_in folder step_gate).bytes

-- while a new job is stored
pub record DuringStore (job : List ℕ) (most : ℕ) (old m : Moment) : Type 0 where
  pub others : OnlyJobFiles old m
  pub images : (image : Image) → IsImage m.folder image
      → IsBeginning job most (bytes_in image)

-- at each moment of an attach each image is one of the start, or, where no job was stored, one in which this one begins
pub record DuringAttach (job : List ℕ) (old m : Moment) : Type 0 where
  pub others : OnlyJobFiles old m
  pub images : (image : Image) → IsImage m.folder image → IsImage old.folder image
      ⊎ ((is_stored (present old.folder) ≡ false)
      × IsBeginning job (length (present old.folder step_gate)) (bytes_in image))

-- after an attach: in every image the job is stored whole, and so many of its steps are committed
pub record IsAttached (job : List ℕ) (n : ℕ) (folder : Folder) : Type 0 where
  pub ready : IsReady n folder
  pub job_sure : file_in folder job_file ≡ firm_file (file_in folder job_file).bytes
  pub job_is : IsJobFile job (file_in folder job_file).bytes
  pub images : (image : Image) → IsImage folder image → IsStored job n (bytes_in image)
