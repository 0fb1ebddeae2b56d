-- What making a step does, leaves and costs, where a step that finds damage is run once more from its beginning.
use Rattle.std.specs.Prelude.{◌≡◌, ◌⊎◌, ℕ, ◌+◌, ◌-◌, ◌/◌, ◌^◌, ◌<◌, ◌≤◌, Bool, false, IsTrue, List, [], Result, IfOk}
use Rattle.std.specs.Prelude.{IfErr}
use Rattle.bool_tables.specs.declared.steps.Step.{Step}
use Rattle.bool_tables.specs.declared.steps.Planned.{Planned}
use Rattle.bool_tables.specs.Plans.{makes_diagram}
use Rattle.shelf_model.specs.declared.file_no.FileNo.{FileNo}
use Rattle.shelf_model.specs.declared.fault.StreamFault.TheVariants as stream
use Rattle.shelf_model.specs.declared.sort_fault.SortFault.{SortFault}
use Rattle.shelf_model.specs.declared.sort_fault.SortFault.TheVariants as sort
use Rattle.shelf_model.specs.Calls.{Told}
use Rattle.shelf_model.specs.Faults.{Faults}
use Rattle.shelf_model.specs.Moments.{Ran, Throughout}
use Rattle.shelf_model.specs.World.{Moment, World, now, file}
use Rattle.run_tiers.specs.Faults.{OnlySortShelf}
use Rattle.catalogue.specs.declared.layout.Entry.{Entry}
use Rattle.catalogue.specs.Counts.{present}
use Rattle.step_work.specs.Tuples.{sweeps}
use Rattle.sweep_core.specs.Accounts.{NoneFilled}
use Rattle.sweep_core.specs.Saving.{reads_of}
use Rattle.sweep_checkpoint.specs.Loads.{IsLoadFault}
use Rattle.sweep_checkpoint.specs.Stops.{StopsCost}
use Rattle.sound_image.specs.Files.{node_file, checkpoint_gate}
use Rattle.sound_image.specs.Jobs.{Job}
use Rattle.sound_image.specs.Entries.{IsEntryOfStep, work_of}
use Rattle.sound_image.specs.Holds.{Holds, IsMade, AreResumable}
use Rattle.step_engine.specs.OneFile.{OnlyMade}
use Rattle.step_engine.specs.Simple.{IsStepOf}
use Rattle.step_engine.specs.StepEntries.{IsEntryFor}
use Rattle.step_engine.specs.StepFaults.{IsStepFault, IsSoundFault, IsOfKind}
use Rattle.step_engine.specs.Running.{run_calls, run_stop, PaysRest, SparesParts, IsReadyFor, IsGoneOn}
use Rattle.script_runner.specs.Running.{stood_after}

-- a step that has that fault sweeps, and found damage
abbrev pub found_damage : Step → SortFault → Bool
found_damage step sort.Shelf = false
found_damage step (sort.Damaged f at) = sweeps step
found_damage step sort.RunsSpent = false

-- the step began anew at a moment of these calls, at which none of its checkpoints was gated, and its fault as the
-- folder stood then is that place
pub record BeganAnew (n number : ℕ) (step : Step) (f : FileNo) (at : ℕ) (old new : World) : Type 0 where
  pub began : ℕ
  pub since : old.clock ≤ began
  pub until : began ≤ new.clock
  pub none_gated : (file (stood_after began new) (checkpoint_gate number)).bytes ≡ []
  pub fault : IsStepFault n step (stood_after began new) (sort.Damaged f at)

-- at a moment of these calls its last gated checkpoint was damaged, at that place
pub record LackedPoint (number : ℕ) (f : FileNo) (at : ℕ) (old new : World) : Type 0 where
  pub looked : ℕ
  pub since : old.clock ≤ looked
  pub until : looked ≤ new.clock
  pub fault : IsLoadFault number (present (new.moment looked).folder) (stream.Damaged f at)

-- why the step named a place: a step that doesn't sweep has that fault, and of one that sweeps it was so as it began
-- anew, or its last gated checkpoint was damaged there
abbrev pub IsFound : ℕ → ℕ → Step → World → World → SortFault → Type 0
IsFound n number step old new sort.Shelf = Unit
IsFound n number step old new (sort.Damaged f at) =
    ((sweeps step ≡ false) × IsStepFault n step old (sort.Damaged f at))
    ⊎ (IsTrue (sweeps step) × (BeganAnew n number step f at old new ⊎ LackedPoint number f at old new))
IsFound n number step old new sort.RunsSpent = Unit

-- the step was made, or refused: as one run of it says, but for the place of damage. A step that was run once more is
-- none whose steps before the folder held
pub record MakesStep {S : Type 0} (tells : S → Bool) (world : S → World) (counts : S → Faults) (n : ℕ) (text : List ℕ)
    (number : ℕ) (p : Planned) (before after : S) (result : Result Entry SortFault) : Type 0 where
  pub content : Told tells before after (Ran (OnlyMade p.step number (now (world before))) (world before) (world after))
  pub fits : IfOk result (IsEntryFor p.step number)
  pub entry : IfOk result (λ e. IsTrue (tells after) → (job : Job)
      → IsReadyFor job n text number p (world before) → IsEntryOfStep job number e)
  pub made : IfOk result (λ e. IsTrue (tells after) → (job : Job)
      → IsReadyFor job n text number p (world before) → IsMade job number (now (world after)).folder)
  -- where the folder holds the steps before, no file of the step is filled whose part wasn't taken, nor its node file
  -- where it makes no diagram
  pub untaken : IfOk result (λ e. IsTrue (tells after) → (job : Job) → IsStepOf job n text number p
      → Holds job number (now (world before)).folder → NoneFilled number e.parts (world before) (world after))
  pub unmade : IfOk result (λ e. IsTrue (tells after) → (job : Job) → IsStepOf job n text number p
      → Holds job number (now (world before)).folder → makes_diagram p.step ≡ false
      → (file (world before) (node_file number)).bytes ≡ [] → (file (world after) (node_file number)).bytes ≡ [])
  pub resumes : IsTrue (tells after) → (job : Job) → IsStepOf job n text number p
      → Holds job number (now (world before)).folder
      → Throughout (world before) (world after) (λ (m : Moment). AreResumable job number m.folder)
  pub sound : IfErr result (λ fault. IsTrue (tells after) → (job : Job) → IsStepOf job n text number p
      → Holds job number (now (world before)).folder → IsSoundFault p.step (work_of job p.step) fault)
  pub damaged : IfErr result (λ fault. IsTrue (tells after)
      → IsFound n number p.step (world before) (world after) fault)
  pub kind : IfErr result (IsOfKind p.step)
  pub few_parts : IfOk result (λ e. IsTrue (tells after) → (spare : ℕ)
      → SparesParts number (reads_of (world before)) spare → e.parts ≤ 5 + e.turns / 16 + spare)
  pub one_turn : IsTrue (tells after) → sweeps p.step ≡ false → (world after).clock ≤ (world before).clock + 5
  pub few_calls : IsTrue (tells after) → (job : Job) → IsStepOf job n text number p
      → Holds job number (now (world before)).folder → (rest : ℕ)
      → PaysRest p.step number (reads_of (world before)) rest
      → (world after).clock ≤ (world before).clock + (run_calls p.step (work_of job p.step) + rest)
  pub stops : IsTrue (tells after) → (job : Job) → IsStepOf job n text number p
      → Holds job number (now (world before)).folder → work_of job p.step < 2 ^ 61 → (shown rest : ℕ)
      → IsGoneOn p.step number (world before) shown rest
      → StopsCost number shown ((world before).clock + (run_stop + rest)) (world before) (world after)
      × IfOk result (λ e. (shown ≤ e.turns) × ((world after).clock
      ≤ (world before).clock + (run_calls p.step (e.turns - shown) + rest)))
  pub faults : OnlySortShelf (counts before) (counts after) result
