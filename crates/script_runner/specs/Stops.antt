-- How many calls the turns pay for that an image shows done, what going on from it costs, and how many calls a run has
-- made at most when a stop leaves it. An image is taken by the bytes of each file.
use Rattle.std.specs.Prelude.{◌≡◌, ℕ, zero, suc, ◌+◌, ◌-◌, ◌*◌, ◌^◌, ◌<◌, ◌≤◌, List, length, take, drop, nat_lt}
use Rattle.std.specs.Prelude.{Bool, cond, sum_by, Some, Result, OnOk}
use Rattle.byteorder.specs.Endian.{big_number}
use Rattle.bool_tables.specs.Plans.{operands}
use Rattle.shelf_model.specs.declared.file_no.FileNo.{FileNo}
use Rattle.shelf_model.specs.Folder.{Folder, Image, bytes_in, IsImage}
use Rattle.shelf_model.specs.World.{World, now}
use Rattle.catalogue.specs.declared.layout.Entry.{Entry}
use Rattle.catalogue.specs.Counts.{present, count_in, entry_at}
use Rattle.node_reading.specs.Reading.{count_of}
use Rattle.sweep_core.specs.declared.checkpoint.Checkpoint.{Checkpoint}
use Rattle.sweep_core.specs.Tables.{records_named}
use Rattle.sweep_checkpoint.specs.Gated.{last_gated}
use Rattle.sweep_checkpoint.specs.Loads.{Tells}
use Rattle.sweep_checkpoint.specs.Stops.{shown_turns}
use Rattle.sound_image.specs.Files.{node_file}
use Rattle.sound_image.specs.Jobs.{Job, step_at}
use Rattle.sound_image.specs.Entries.{work_of}
use Rattle.sound_image.specs.Holds.{Holds, AreSound}
use Rattle.step_engine.specs.Running.{run_stop, PaysRest}
use Rattle.script_runner.specs.Calls.{IsGated}
use Rattle.script_runner.specs.declared.finish.Finish.{Finish}

-- the turns of a committed step: the number in the eight bytes of its entry behind the first sixteen
abbrev pub turns_at : ℕ → (FileNo → List ℕ) → ℕ
turns_at k r = big_number 8 (take 8 (drop 16 (entry_at k r)))

-- those of the first steps together
unfoldable pub committed_turns : ℕ → (FileNo → List ℕ) → ℕ
committed_turns zero r = 0
committed_turns (suc k) r = committed_turns k r + turns_at k r

-- the turns that the last gated checkpoint shows of the first step that isn't committed, where there is such a step
abbrev pub shown_in : Job → (FileNo → List ℕ) → ℕ
shown_in job r = cond (nat_lt (count_in r) (length job.steps)) (shown_turns (count_in r) r) 0

-- the calls that turns which are shown done pay for: 256 for each, of a committed step or shown by a checkpoint
abbrev pub paid_in : Job → (FileNo → List ℕ) → ℕ
paid_in job r = 256 * (committed_turns (count_in r) r + shown_in job r)

-- the nodes of the operands of the first step that isn't committed, each counted by itself; none where all are
abbrev pub nodes_next : Job → (FileNo → List ℕ) → ℕ
nodes_next job r = sum_by (λ k. count_of (r (node_file k))) (operands (step_at job (count_in r)).step)

-- so many calls are left of 2^25 for a run, where fetching the texts and entering the folder take the others
abbrev pub run_rest : ℕ
run_rest = 2 ^ 25 - 2 ^ 12

-- so many calls pay for going on from what a stop left: those, one for each of these nodes, and 65 for each record of
-- the runs that the last gated checkpoint of the first step that isn't committed names, where it has one
pub record IsRestOf (job : Job) (r : FileNo → List ℕ) (rest : ℕ) : Type 0 where
  pub begins : run_rest + nodes_next job r ≤ rest
  pub goes_on : (c : Checkpoint) → Tells (count_in r) (last_gated (count_in r) r) (Some c)
      → run_rest + 65 * records_named c + nodes_next job r ≤ rest

-- each image of the folder pays for so many calls or more
abbrev pub PayAtLeast : Job → ℕ → Folder → Type 0
PayAtLeast job paid folder = (image : Image) → IsImage folder image → paid ≤ paid_in job (bytes_in image)

-- what a stop leaves after k calls pays for no fewer than what was left before did, and these are no more than it pays
-- for beyond them, and so many
pub record PaysAt (job : Job) (paid most k : ℕ) (r : FileNo → List ℕ) : Type 0 where
  pub no_fewer : paid ≤ paid_in job r
  pub few : k ≤ most + (paid_in job r - paid)

-- so it is at each moment of the calls
abbrev pub PaysThrough : Job → ℕ → ℕ → World → World → Type 0
PaysThrough job paid most old new = (k : ℕ) → old.clock ≤ k → k ≤ new.clock → (image : Image)
    → IsImage (new.moment k).folder image → PaysAt job paid most k (bytes_in image)

-- what is known of a run of a job that has so many lines: the folder is sound for it, the work of each step and the
-- texts are bounded, each image of the folder pays for so many calls, and so many pay for going on from it
pub record IsPaidRun (job : Job) (lines paid rest : ℕ) (folder : Folder) : Type 0 where
  pub sound : AreSound job folder
  pub work : (k : ℕ) → k < length job.steps → work_of job (step_at job k).step < 2 ^ 61
  pub few_lines : lines ≤ 1048576
  pub short : length job.bytes ≤ 5242900
  pub shows : PayAtLeast job paid folder
  pub pays : (image : Image) → IsImage folder image → IsRestOf job (bytes_in image) rest

-- what a stop costs at any moment of such a run
abbrev pub RunPays : Job → ℕ → World → World → Type 0
RunPays job lines old new = (paid rest : ℕ) → IsPaidRun job lines paid rest (now old).folder
    → PaysThrough job paid (old.clock + rest) old new

-- the same of a call of the program that makes so many calls besides: its past stays
pub record StopsIn (job : Job) (lines besides : ℕ) (old new : World) : Type 0 where
  pub past : (k : ℕ) → k ≤ old.clock → new.moment k ≡ old.moment k
  pub pays : (paid rest : ℕ) → IsPaidRun job lines paid rest (now old).folder
      → PaysThrough job paid (old.clock + (besides + rest)) old new

-- what is known of a step that is taken: the folder holds those before it, and whether something is gated of it; its
-- work is bounded, each image pays for so many calls, and so many more pay for going on from its last checkpoint, where
-- it has one, and for cutting what it leaves behind then
pub record IsPaidStep (job : Job) (k : ℕ) (is_gated : Bool) (paid rest : ℕ) (folder : Folder) : Type 0 where
  pub holds : Holds job k folder
  pub gated : IsGated is_gated k folder
  pub work : work_of job (step_at job k).step < 2 ^ 61
  pub shows : PayAtLeast job paid folder
  pub pays : PaysRest (step_at job k).step k (present folder) (rest - 66145)

-- the calls that put the entries of 1,024 steps behind one another and commit them, two for each and three
abbrev pub most_together : ℕ
most_together = 2051

-- at each moment of it, and of the steps that are committed behind it, a stop costs what an interval and its saving do
-- besides, and what commits them; and once they were taken nothing more than what paid for going on, and what there
-- was to spare, of which so many calls are left
pub record StepPays (job : Job) (paid rest spare left : ℕ) (result : Result Entry Finish) (old new : World) : Type 0 where
  pub stops : PaysThrough job paid (old.clock + (run_stop + most_together + rest)) old new
  pub ends : OnOk result ((image : Image) → IsImage (now new).folder image
      → PaysAt job paid (old.clock + (rest + spare)) (new.clock + left) (bytes_in image))
