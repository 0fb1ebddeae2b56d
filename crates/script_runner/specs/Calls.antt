-- How many calls of the station a run makes at most.
use Rattle.std.specs.Prelude.{◌≡◌, ◌≢◌, ◌⊎◌, ℕ, ◌+◌, ◌-◌, ◌*◌, ◌/◌, ◌<◌, Bool, true, false, cond, min, [], length}
use Rattle.std.specs.Prelude.{take, sum_by, Result, Ok, Err}
use Rattle.bool_tables.specs.declared.steps.Step.{Step}
use Rattle.bool_tables.specs.declared.steps.Planned.{Planned}
use Rattle.shelf_model.specs.Folder.{Folder}
use Rattle.file_writes.specs.Writes.{pieces}
use Rattle.step_work.specs.Tuples.{sweeps}
use Rattle.sound_image.specs.Files.{checkpoint_gate}
use Rattle.sound_image.specs.Jobs.{Job, step_at}
use Rattle.sound_image.specs.Entries.{work_of}
use Rattle.sound_image.specs.Holds.{Holds, AreSound}
use Rattle.sound_image.specs.Steps.{parts_end}
use Rattle.catalogue.specs.declared.layout.Entry.{Entry}
use Rattle.catalogue.specs.Counts.{present, count_in}
use Rattle.step_engine.specs.LeftBehind.{most_cut}
use Rattle.step_engine.specs.Running.{PaysRest}

-- the calls of a step of the job: 11 at most where it takes one turn, which make, commit and tidy it up, and else 229
-- for each turn of its work, one for each sixteen of these turns, which cuts a part that they took, and 22
abbrev pub step_calls : Job → Planned → ℕ
step_calls job p = cond (sweeps p.step) (229 * work_of job p.step + work_of job p.step / 16 + 22) 11

-- those of the steps before that one
abbrev pub calls_before : Job → ℕ → ℕ
calls_before job step = sum_by (step_calls job) (take step job.steps)

-- where steps end that were taken together: behind the one whose entry is answered, and else before that one at most
abbrev pub taken_to : {E : Type 0} → Result Entry E → ℕ → ℕ
taken_to (Ok e) until = e.number + 1
taken_to (Err fault) until = until

-- the calls that steps which are committed together with the first one are sure to spare: five for each, as these drop
abbrev pub spared_by : {E : Type 0} → Result Entry E → ℕ → ℕ
spared_by (Ok e) step = 5 * (e.number - step)
spared_by (Err fault) step = 0

-- so many calls are left where steps were taken, and none where they stopped the run
abbrev pub left_by : {E : Type 0} → Result Entry E → ℕ → ℕ
left_by (Ok e) left = left
left_by (Err fault) left = 0

-- 9 and one for each piece of the job while it is attached, those of each step, two for each line, and the banner and
-- the last line
abbrev pub most_calls : Job → ℕ → ℕ
most_calls job lines = 11 + pieces (length job.bytes) + sum_by (step_calls job) job.steps + 2 * lines

-- whether something is gated of step k, as its gate is read
abbrev pub IsGated : Bool → ℕ → Folder → Type 0
IsGated false k folder = present folder (checkpoint_gate k) ≡ []
IsGated true k folder = present folder (checkpoint_gate k) ≢ []

-- the calls that cut what a step with that next part leaves behind: one for each part that it took; or, where something
-- was gated of it before it was taken, 591 and one for each part that was taken since its last checkpoint, of which so
-- many are cut at most; and one at most where it doesn't sweep
abbrev pub cut_calls : Bool → Step → ℕ → ℕ
cut_calls false step next = cond (sweeps step) (parts_end next - 1) 1
cut_calls true step next = cond (sweeps step) (591 + min (parts_end next - 5) most_cut) 1

-- so many calls pay for going on from the last checkpoint of step k, where it has one, for 1,019 part numbers that it
-- may have taken before, and for 587 that find and cut what it leaves behind then
abbrev pub PaysStep : Job → ℕ → Folder → ℕ → Type 0
PaysStep job k folder rest = PaysRest (step_at job k).step k (present folder) (rest - 1606)

-- so many pay for that of the first step that isn't committed, where there is one
abbrev pub PaysFirst : Job → Folder → ℕ → Type 0
PaysFirst job folder rest = count_in (present folder) < length job.steps
    → PaysStep job (count_in (present folder)) folder rest

-- each step of the job takes one turn
abbrev pub EachTakesOne : Job → Type 0
EachTakesOne job = (k : ℕ) → k < length job.steps → sweeps (step_at job k).step ≡ false

-- the turns of the steps from step k on are bounded: each takes one, or the folder holds the steps before it, it is
-- known whether something is gated of it, and so many calls pay for going on with it
abbrev pub IsCounted : Job → ℕ → Bool → Folder → ℕ → Type 0
IsCounted job k gated folder rest = EachTakesOne job
    ⊎ (Holds job k folder × IsGated gated k folder × PaysStep job k folder rest)

-- those of all steps are: each takes one, or the folder is sound for the job, and so many calls pay for going on in it
abbrev pub AreCounted : Job → Folder → ℕ → Type 0
AreCounted job folder rest = EachTakesOne job ⊎ (AreSound job folder × PaysFirst job folder rest)

-- a text is read in pieces, and once more where it ends
abbrev pub fetch_calls : ℕ → ℕ
fetch_calls most = pieces (most + 1) + 1
