-- What a run of a step does, leaves and costs.
use Rattle.std.specs.Prelude.{◌≡◌, ℕ, ◌+◌, ◌-◌, ◌*◌, ◌/◌, ◌^◌, ◌<◌, ◌≤◌, Bool, false, IsTrue, cond, List, [], Result}
use Rattle.std.specs.Prelude.{IfOk}
use Rattle.std.specs.Prelude.{IfErr, Some, sum_by}
use Rattle.bool_tables.specs.declared.steps.Step.{Step}
use Rattle.bool_tables.specs.declared.steps.Planned.{Planned}
use Rattle.bool_tables.specs.Plans.{operands, makes_diagram}
use Rattle.shelf_model.specs.declared.file_no.FileNo.{FileNo}
use Rattle.shelf_model.specs.declared.sort_fault.SortFault.{SortFault}
use Rattle.shelf_model.specs.Calls.{Told}
use Rattle.shelf_model.specs.Faults.{Faults}
use Rattle.shelf_model.specs.Moments.{Ran, Throughout}
use Rattle.shelf_model.specs.World.{Moment, World, now, file}
use Rattle.run_tiers.specs.Faults.{OnlySortShelf}
use Rattle.catalogue.specs.declared.layout.Entry.{Entry}
use Rattle.step_work.specs.Tuples.{sweeps}
use Rattle.node_reading.specs.Reading.{count_of}
use Rattle.sweep_core.specs.declared.checkpoint.Checkpoint.{Checkpoint}
use Rattle.sweep_core.specs.Accounts.{NoneFilled}
use Rattle.sweep_core.specs.Saving.{reads_of}
use Rattle.sweep_checkpoint.specs.Gated.{last_gated}
use Rattle.sweep_checkpoint.specs.Loads.{Tells}
use Rattle.sweep_checkpoint.specs.Stops.{StopsCost, ShowAtLeast}
use Rattle.step_sweeps.specs.Going.{rest_calls}
use Rattle.step_sweeps.specs.Stops.{step_stop}
use Rattle.sound_image.specs.Files.{node_file}
use Rattle.sound_image.specs.Jobs.{Job}
use Rattle.sound_image.specs.Entries.{IsEntryOfStep, work_of}
use Rattle.sound_image.specs.Holds.{Holds, IsMade, AreResumable}
use Rattle.step_engine.specs.OneFile.{OnlyMade}
use Rattle.step_engine.specs.Simple.{reads, IsStepOf}
use Rattle.step_engine.specs.StepEntries.{IsEntryFor}
use Rattle.step_engine.specs.StepFaults.{IsRunFault, IsSoundFault, IsOfKind}

-- the calls of a step of so many turns: five at most where it takes one turn, and else 229 for each turn, checkpoints
-- included, and thirteen
abbrev pub run_calls : Step → ℕ → ℕ
run_calls step turns = cond (sweeps step) (229 * turns + 13) 5

-- no fewer nodes than a step reads of its operands where files hold this, each operand by three readers
abbrev pub nodes_read : Step → (FileNo → List ℕ) → ℕ
nodes_read step r = 3 * sum_by (λ k. count_of (r (node_file k))) (operands step)

-- the calls of a stop in the middle of a step beyond those for turns that it leaves shown: two find that nothing is
-- gated
abbrev pub run_stop : ℕ
run_stop = step_stop + 2

-- so many calls pay for going on from the checkpoint that the step's last gated bytes are, where there is one: with it
-- 590 find it, and 3,300 give up what was lost behind it
abbrev pub PaysRest : Step → ℕ → (FileNo → List ℕ) → ℕ → Type 0
PaysRest step number r rest = (c : Checkpoint) → Tells number (last_gated number r) (Some c)
    → rest_calls (Some c) (nodes_read step r) + 3890 ≤ rest

-- so many part numbers may have been taken by what the step goes on from: 1,019, where there is such a checkpoint
abbrev pub SparesParts : ℕ → (FileNo → List ℕ) → ℕ → Type 0
SparesParts number r spare = (c : Checkpoint) → Tells number (last_gated number r) (Some c)
    → 1019 ≤ spare

-- the step is the job's, and the folder holds those before it, where it reads what they left
pub record IsReadyFor (job : Job) (n : ℕ) (text : List ℕ) (number : ℕ) (p : Planned) (world : World)
    : Type 0 where
  pub step : IsStepOf job n text number p
  pub holds : IsTrue (reads p.step) → Holds job number (now world).folder

-- each image of the folder shows so many turns of the step or more, and so many calls pay for going on with it
pub record IsGoneOn (step : Step) (number : ℕ) (world : World) (shown rest : ℕ) : Type 0 where
  pub shows : ShowAtLeast number shown (now world).folder
  pub pays : PaysRest step number (reads_of world) rest

-- the step was run, or refused, in a room of so many records
pub record RunsStep {S : Type 0} (tells : S → Bool) (world : S → World) (counts : S → Faults) (n : ℕ) (text : List ℕ)
    (number : ℕ) (p : Planned) (before after : S) (result : Result Entry SortFault) : Type 0 where
  pub content : Told tells before after (Ran (OnlyMade p.step number (now (world before))) (world before) (world after))
  pub fits : IfOk result (IsEntryFor p.step number)
  pub entry : IfOk result (λ e. IsTrue (tells after) → (job : Job)
      → IsReadyFor job n text number p (world before) → IsEntryOfStep job number e)
  pub made : IfOk result (λ e. IsTrue (tells after) → (job : Job)
      → IsReadyFor job n text number p (world before) → IsMade job number (now (world after)).folder)
  -- no file of the step is filled whose part wasn't taken
  pub untaken : IfOk result (λ e. IsTrue (tells after) → NoneFilled number e.parts (world before) (world after))
  -- nor is the node file of a step that makes no diagram
  pub unmade : IfOk result (λ e. IsTrue (tells after) → makes_diagram p.step ≡ false
      → (file (world before) (node_file number)).bytes ≡ [] → (file (world after) (node_file number)).bytes ≡ [])
  -- at each moment a run can go on from what a stop leaves
  pub resumes : IsTrue (tells after) → (job : Job) → IsStepOf job n text number p
      → Holds job number (now (world before)).folder
      → Throughout (world before) (world after) (λ (m : Moment). AreResumable job number m.folder)
  pub sound : IfErr result (λ fault. IsTrue (tells after) → (job : Job) → IsStepOf job n text number p
      → Holds job number (now (world before)).folder → IsSoundFault p.step (work_of job p.step) fault)
  pub damaged : IfErr result (λ fault. IsTrue (tells after) → IsRunFault n number p.step (world before) fault)
  pub kind : IfErr result (IsOfKind p.step)
  pub calls : IfOk result (λ e. IsTrue (tells after) → (rest : ℕ)
      → PaysRest p.step number (reads_of (world before)) rest → e.turns < 2 ^ 64 - 1
      → (world after).clock ≤ (world before).clock + (run_calls p.step e.turns + rest))
  -- a step that began anew took few part numbers, from 5 on; one that went on from a checkpoint may have taken more
  pub few_parts : IfOk result (λ e. IsTrue (tells after) → (spare : ℕ)
      → SparesParts number (reads_of (world before)) spare → e.parts ≤ 5 + e.turns / 16 + spare)
  pub one_turn : IsTrue (tells after) → sweeps p.step ≡ false → (world after).clock ≤ (world before).clock + 5
  pub few_calls : IsTrue (tells after) → (job : Job) → IsStepOf job n text number p
      → Holds job number (now (world before)).folder → (rest : ℕ)
      → PaysRest p.step number (reads_of (world before)) rest
      → (world after).clock ≤ (world before).clock + (run_calls p.step (work_of job p.step) + rest)
  -- what a stop costs at any moment: for each turn of the step that it leaves shown beyond those that each image showed
  -- before at most 229 calls, and so many more; and what the step cost at its end, likewise
  pub stops : IsTrue (tells after) → (job : Job) → IsStepOf job n text number p
      → Holds job number (now (world before)).folder → work_of job p.step < 2 ^ 61 → (shown rest : ℕ)
      → IsGoneOn p.step number (world before) shown rest
      → StopsCost number shown ((world before).clock + (run_stop + rest)) (world before) (world after)
      × IfOk result (λ e. (shown ≤ e.turns) × ((world after).clock
      ≤ (world before).clock + (run_calls p.step (e.turns - shown) + rest)))
  pub faults : OnlySortShelf (counts before) (counts after) result
