-- What a run of a step does that is sure to be done at once, while steps before it wait to be committed.
use Rattle.std.specs.Prelude.{◌≡◌, ℕ, ◌+◌, ◌*◌, ◌^◌, ◌≤◌, Bool, false, IsTrue, cond, List, Option, Result, IfOk, IfSome, IfNone}
use Rattle.bool_tables.specs.declared.steps.Step.{Step}
use Rattle.bool_tables.specs.declared.steps.Planned.{Planned}
use Rattle.bool_tables.specs.Plans.{makes_diagram}
use Rattle.shelf_model.specs.declared.fault.Failed.{Failed}
use Rattle.shelf_model.specs.Calls.{Told}
use Rattle.shelf_model.specs.Faults.{Faults, OnlyFolder}
use Rattle.shelf_model.specs.Moments.{Ran, OnlyChanged}
use Rattle.shelf_model.specs.World.{Moment, World, now}
use Rattle.block_stream.specs.Reads.{Looked}
use Rattle.catalogue.specs.declared.layout.Entry.{Entry}
use Rattle.file_numbers.specs.Files.{inner_part}
use Rattle.step_work.specs.Tuples.{sweeps}
use Rattle.step_sweeps.specs.declared.at_once.AtMost.{AtMost}
use Rattle.sound_image.specs.Files.{node_file}
use Rattle.sound_image.specs.Jobs.{Job}
use Rattle.sound_image.specs.Entries.{IsEntryOfStep, work_of}
use Rattle.sound_image.specs.Holds.{IsMade}
use Rattle.sound_image.specs.Waiting.{Waits}
use Rattle.step_engine.specs.Simple.{IsStepOf}
use Rattle.step_engine.specs.StepEntries.{IsEntryFor}

-- the step is the job's, and of the steps before it some are committed and the others wait
pub record IsNextOf (job : Job) (n : ℕ) (text : List ℕ) (number : ℕ) (p : Planned) (world : World) : Type 0 where
  pub step : IsStepOf job n text number p
  pub committed : ℕ
  pub waits : Waits job committed number (now world).folder

-- at each moment every file is as it was, but the node file of a step that makes a diagram
abbrev pub OnlyNodes : Step → ℕ → Moment → Moment → Type 0
OnlyNodes step number = OnlyChanged (λ q. IsTrue (makes_diagram step) × (q ≡ node_file number))

-- the turns of a step that makes a diagram are no more than so many, and a drop has one
abbrev pub turns_now : Step → AtMost → ℕ
turns_now step most = cond (makes_diagram step) most.turns 1

-- the calls of a step of so many turns: eight for each turn of an operator and ten, five of a constant or a variable,
-- and none of a drop
abbrev pub calls_now : Step → ℕ → ℕ
calls_now step turns = cond (sweeps step) (8 * turns + 10) (cond (makes_diagram step) 5 0)

-- the entry is that of a step that was run at once: its turns are few, and no part number was taken for a run. Where
-- the steps before are committed or wait, it is the one that the step has, and its node file is made; and an operator
-- has fewer turns than its work
pub record IsRunNow {S : Type 0} (tells : S → Bool) (world : S → World) (n : ℕ) (text : List ℕ) (number : ℕ)
    (p : Planned) (most : AtMost) (before after : S) (e : Entry) : Type 0 where
  pub fits : IsEntryFor p.step number e
  pub few : e.turns ≤ turns_now p.step most
  pub parts_is : e.parts ≡ inner_part
  pub entry : IsTrue (tells after) → (job : Job) → IsNextOf job n text number p (world before)
      → IsEntryOfStep job number e
  pub spared : IsTrue (tells after) → (job : Job) → IsNextOf job n text number p (world before)
      → IsTrue (sweeps p.step) → e.turns + 1 ≤ work_of job p.step
  pub made : IsTrue (tells after) → (job : Job) → IsNextOf job n text number p (world before)
      → IsMade job number (now (world after)).folder
  pub calls : IsTrue (tells after) → (world after).clock ≤ (world before).clock + calls_now p.step e.turns

-- the step was run at once, nothing was made, or it was refused
pub record RunsNow {S : Type 0} (tells : S → Bool) (world : S → World) (counts : S → Faults) (n : ℕ) (text : List ℕ)
    (number : ℕ) (p : Planned) (most : AtMost) (before after : S) (result : Result (Option Entry) Failed) : Type 0 where
  pub run : IfOk result (λ found. IfSome found (IsRunNow tells world n text number p most before after))
  -- where nothing is made, trailers and nodes were looked at and no file is changed
  pub not_made : IfOk result (λ found. IfNone found (Told tells before after
      (Looked (4 + most.looks) (world before) (world after))))
  pub content : Told tells before after
      (Ran (OnlyNodes p.step number (now (world before))) (world before) (world after))
  pub few_calls : IsTrue (tells after) → (job : Job) → IsNextOf job n text number p (world before)
      → (world after).clock ≤ (world before).clock + 229 * work_of job p.step
  -- a step that doesn't sweep takes five calls at most, whatever comes of it
  pub one_turn : IsTrue (tells after) → sweeps p.step ≡ false → (world after).clock ≤ (world before).clock + 5
  pub short : IsTrue (tells after) → (world after).clock ≤ (world before).clock + (2 ^ 18 + 10)
  pub faults : OnlyFolder (counts before) (counts after) result
