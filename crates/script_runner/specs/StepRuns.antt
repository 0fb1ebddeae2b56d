-- What steps of a run that are committed together leave, and what saying their lines leaves.
use Rattle.std.specs.Prelude.{◌≡◌, ℕ, ◌+◌, ◌*◌, ◌^◌, ◌<◌, ◌≤◌, IsTrue, List, [], ◌++◌, length, take, get_or}
use Rattle.std.specs.Prelude.{Result, OnOk, IfOk, IfErr}
use Rattle.std.specs.List.{flat_map}
use Rattle.bool_tables.specs.declared.steps.Planned.{Planned}
use Rattle.bool_tables.specs.Plans.{IsWellFormed}
use Rattle.shelf_model.specs.declared.file_no.FileNo.{FileNo}
use Rattle.shelf_model.specs.declared.fault.StreamFault.TheVariants as stream
use Rattle.shelf_model.specs.declared.sort_fault.SortFault.{SortFault}
use Rattle.shelf_model.specs.declared.sort_fault.SortFault.TheVariants as sort
use Rattle.shelf_model.specs.File.{IsKept}
use Rattle.shelf_model.specs.Folder.{Folder, Image, file_in, bytes_in, IsImage}
use Rattle.shelf_model.specs.World.{World, now, said}
use Rattle.shelf_model.specs.Moments.{Throughout, Stays, Ran}
use Rattle.catalogue.specs.declared.layout.Entry.{Entry}
use Rattle.catalogue.specs.Files.{job_step, catalogue}
use Rattle.catalogue.specs.Entries.{IsEntryOf}
use Rattle.catalogue.specs.Counts.{present, is_stored, count_in}
use Rattle.catalogue.specs.Commits.{IsReady}
use Rattle.sound_image.specs.Files.{node_file}
use Rattle.step_work.specs.Tuples.{joins}
use Rattle.step_work.specs.Plans.{no_step}
use Rattle.sound_image.specs.Jobs.{Job, step_at}
use Rattle.sound_image.specs.Entries.{IsEntryOfStep, kind_of, work_of}
use Rattle.sound_image.specs.Sound.{IsSound}
use Rattle.sound_image.specs.Holds.{Holds}
use Rattle.step_engine.specs.StepFaults.{IsKindFault}
use Rattle.script_reader.specs.declared.plan.LineEnd.{LineEnd}
use Rattle.script_runner.specs.declared.finish.Finish.{Finish}
use Rattle.script_runner.specs.declared.finish.Finish.TheVariants.{Done, OtherJob, FolderFault, SayFault, Damaged}
use Rattle.script_runner.specs.declared.finish.Finish.TheVariants.{RunsSpent}
use Rattle.script_runner.specs.Text.{said_line}
pub use Rattle.script_runner.specs.Lean.{NoneDrops}
use Rattle.script_runner.specs.Shapes.{AreShown}
use Rattle.diagram_list.specs.Saying.{SaysFront, StaysThere}
use Rattle.script_runner.specs.Running.{OthersAre, AreEmptied, IsEntryDamage, IsMetDamage, RefusesFolder, IsStop}

-- the image is sound, and has so many steps of the stored job at least
pub record HasSteps (job : Job) (count : ℕ) (r : FileNo → List ℕ) : Type 0 where
  pub sound : IsSound job r
  pub counts : count ≤ count_in r
  pub stored : IsTrue (is_stored r)

-- a job is stored, with that many steps at least, and so many at most
pub record CountsAbout (step until : ℕ) (r : FileNo → List ℕ) : Type 0 where
  pub stored : IsTrue (is_stored r)
  pub no_fewer : step ≤ count_in r
  pub no_more : count_in r ≤ until

-- steps from that one on in a folder that holds those before it: each image keeps these, and where the steps are done
-- the folder holds them too, up to the one whose entry is answered
pub record HoldsSteps (job : Job) (step : ℕ) (result : Result Entry Finish) (old new : World) : Type 0 where
  pub images : Throughout old new (λ m. (image : Image) → IsImage m.folder image
      → HasSteps job step (bytes_in image))
  pub ok : IfOk result (λ e. Holds job (e.number + 1) (now new).folder × IsEntryOfStep job e.number e)
  pub err : IfErr result (λ finish. ¬ (RefusesFolder finish))
  pub spent : IfErr result (λ finish. (k : ℕ) → finish ≡ RunsSpent k → 2 ^ 35 ≤ work_of job (step_at job step).step)

-- an entry that was met is damaged, as it stood before, or a file that the step met
abbrev pub NamesMet : ℕ → List Planned → World → World → Finish → Type 0
NamesMet n steps old new finish = (f : FileNo) (at : ℕ) → finish ≡ Damaged f at
    → IsMetDamage n steps f at (now old).folder old new

-- that step joins pieces and has no part number left
abbrev pub NamesSpent : List Planned → ℕ → Finish → Type 0
NamesSpent steps step finish = (k : ℕ) → finish ≡ RunsSpent k
    → (k ≡ step) × IsTrue (joins (get_or steps step no_step).step)

-- while steps from that one on are taken in a folder with so many steps, none from `until` on: files of no step stay,
-- in each image a job is stored with the steps before and at most these, and the entries before them stay, as they are
-- sure and as they are read
pub record IsTaking (steps step until : ℕ) (old new : Folder) : Type 0 where
  pub others : OthersAre steps old new
  pub counts : (image : Image) → IsImage new image → CountsAbout step until (bytes_in image)
  pub kept : (front : List ℕ) → length front ≤ 128 * step → IsKept front (file_in old catalogue)
      → IsKept front (file_in new catalogue)
  pub reads : take (128 * step) (file_in new catalogue).bytes
      ≡ take (128 * step) (file_in old catalogue).bytes

-- the entry of a step stands at its place, and is of the step's kind
pub record HasEntry (steps : List Planned) (step : ℕ) (e : Entry) (r : FileNo → List ℕ) : Type 0 where
  pub stands : IsEntryOf step r e
  pub kind_is : e.kind ≡ kind_of (get_or steps step no_step).step

-- a file that was empty is empty
abbrev pub StaysEmpty : FileNo → Folder → Folder → Type 0
StaysEmpty f old new = (file_in old f).bytes ≡ [] → (file_in new f).bytes ≡ []

-- the file of each earlier diagram that none of these steps drops is as it was
abbrev pub KeepsDiagrams : List Planned → ℕ → ℕ → Folder → Folder → Type 0
KeepsDiagrams steps from until old new = (k : ℕ) → k < from → NoneDrops steps from until k
    → file_in new (node_file k) ≡ file_in old (node_file k)

-- the files of that step and of those behind it are as they were
abbrev pub KeepsLater : ℕ → Folder → Folder → Type 0
KeepsLater from old new = (f : FileNo) → from ≤ f.step → f.step < job_step → file_in new f ≡ file_in old f

-- steps from that one on, none from `until` on, were made, committed together and tidied up, up to the one whose entry
-- is answered, or the run stopped there
pub record TakesSteps (job : Job) (step until : ℕ) (result : Result Entry Finish) (old new : World) : Type 0 where
  pub run : Ran (λ m. IsTaking (length job.steps) step until (now old).folder m.folder) old new
  pub reached : IfOk result (λ e. (step ≤ e.number) × (e.number < until))
  pub ready : IfOk result (λ e. IsReady (e.number + 1) (now new).folder)
  pub last : IfOk result (λ e. HasEntry job.steps e.number e (present (now new).folder))
  pub made : IfOk result (λ e. (k : ℕ) → step ≤ k → k < e.number
      → (x : Entry) × HasEntry job.steps k x (present (now new).folder))
  -- what the steps drop is empty, and so are earlier diagrams' files that were
  pub emptied : IfOk result (λ e. AreEmptied job.steps step (e.number + 1) (now new).folder)
  pub still_empty : OnOk result ((k : ℕ) → k < step
      → StaysEmpty (node_file k) (now old).folder (now new).folder)
  -- those that they don't drop are as they were
  pub keeps : IfOk result (λ e. KeepsDiagrams job.steps step (e.number + 1) (now old).folder (now new).folder)
  -- and so are the files of the steps behind them
  pub later : IfOk result (λ e. KeepsLater (e.number + 1) (now old).folder (now new).folder)
  pub stops : IfErr result IsStop
  pub damaged : IfErr result (NamesMet job.n job.steps old new)
  pub spent : IfErr result (NamesSpent job.steps step)
  pub holds : Holds job step (now old).folder → HoldsSteps job step result old new

-- the lines that are right for a job were said, or a front part of them
pub record SaysRight (job : Job) (lines : List LineEnd) (result : Result Unit Finish) (old new : World) : Type 0 where
  pub fronts : Throughout old new (λ m. SaysFront (said old) (flat_map (said_line job) lines) m.said)
  pub ok : OnOk result (said new ≡ said old ++ flat_map (said_line job) lines)
  pub err : IfErr result (λ finish. ¬ (RefusesFolder finish))

-- the first of the lines, by the entries that stand at their steps' places
pub record SpokenLines (steps : List Planned) (lines : List LineEnd) (r : FileNo → List ℕ)
    (bytes : List ℕ) : Type 0 where
  pub spoken : List LineEnd
  pub later : List LineEnd
  pub parts : lines ≡ spoken ++ later
  pub shown : AreShown steps r spoken bytes

-- a front part of them was said
pub record SpeaksLines (steps : List Planned) (lines : List LineEnd) (r : FileNo → List ℕ)
    (before bytes : List ℕ) : Type 0 where
  pub part : List ℕ
  pub said_is : bytes ≡ before ++ part
  pub rest : List ℕ
  pub lines_are : SpokenLines steps lines r (part ++ rest)

-- they were said whole
pub record SpokeWhole (steps : List Planned) (lines : List LineEnd) (r : FileNo → List ℕ)
    (before bytes : List ℕ) : Type 0 where
  pub part : List ℕ
  pub said_is : bytes ≡ before ++ part
  pub lines_are : SpokenLines steps lines r part

-- all of them were
pub record SpokeAll (steps : List Planned) (lines : List LineEnd) (r : FileNo → List ℕ)
    (before bytes : List ℕ) : Type 0 where
  pub part : List ℕ
  pub said_is : bytes ≡ before ++ part
  pub shown : AreShown steps r lines part

-- the entry that was met is damaged, behind whole lines
abbrev pub StopsBehind : List Planned → List LineEnd → World → World → Finish → Type 0
StopsBehind steps lines old new finish = (f : FileNo) (at : ℕ) → finish ≡ Damaged f at
    → IsEntryDamage steps f at (present (now old).folder)
    × SpokeWhole steps lines (present (now old).folder) (said old) (said new)

-- saying lines stopped the run
abbrev pub IsSayStop : Finish → Type 0
IsSayStop Done = ⊥
IsSayStop (OtherJob at) = ⊥
IsSayStop FolderFault = Unit
IsSayStop SayFault = Unit
IsSayStop (Damaged f at) = Unit
IsSayStop (RunsSpent step) = ⊥

-- lines were said, each with what the entry of its step shows, where the folder holds them the
-- right ones, or the run stopped there
pub record SaysLines (steps : List Planned) (count : ℕ) (lines : List LineEnd) (e : Entry) (result : Result Unit Finish)
    (old new : World) : Type 0 where
  pub files : Throughout old new (Stays (now old))
  pub stays : StaysThere old new
  pub speaks : Throughout old new (λ m. SpeaksLines steps lines (present (now old).folder) (said old) m.said)
  pub ok : OnOk result (SpokeAll steps lines (present (now old).folder) (said old) (said new))
  pub stops : IfErr result IsSayStop
  pub damaged : IfErr result (StopsBehind steps lines old new)
  pub holds : (job : Job) → IsWellFormed job.n job.text job.steps → job.steps ≡ steps
      → Holds job count (now old).folder → IsEntryOfStep job e.number e
      → SaysRight job lines result old new

-- reading the entry of step k ended a run: its folder failed, or no entry of that kind stands whole
-- at its place
abbrev pub IsReadFault : ℕ → ℕ → (FileNo → List ℕ) → Finish → Type 0
IsReadFault k kind r Done = ⊥
IsReadFault k kind r (OtherJob at) = ⊥
IsReadFault k kind r FolderFault = Unit
IsReadFault k kind r SayFault = ⊥
IsReadFault k kind r (Damaged f at) = IsKindFault k kind r (stream.Damaged f at)
IsReadFault k kind r (RunsSpent step) = ⊥

-- how a run ends that a fault of a step stops
abbrev pub stopped_by : ℕ → SortFault → Finish
stopped_by step sort.Shelf = FolderFault
stopped_by step (sort.Damaged f at) = Damaged f at
stopped_by step sort.RunsSpent = RunsSpent step
