-- What a step makes that is sure to be made at once: without a sweep, and so without a checkpoint.
use Rattle.std.specs.Prelude.{◌≡◌, ℕ, ◌+◌, ◌*◌, ◌^◌, ◌<◌, ◌≤◌, Bool, IsTrue, Option, Result, IfOk, IfSome, IfNone}
use Rattle.shelf_model.specs.declared.fault.Failed.{Failed}
use Rattle.shelf_model.specs.Calls.{Told}
use Rattle.shelf_model.specs.Faults.{Faults, OnlyFolder}
use Rattle.shelf_model.specs.Moments.{Ran, OnlyChanged}
use Rattle.shelf_model.specs.World.{World, now}
use Rattle.block_stream.specs.Reads.{Looked}
use Rattle.step_sweeps.specs.declared.at_once.AtMost.{AtMost}
use Rattle.step_sweeps.specs.declared.diagram.MadeDiagram.{MadeDiagram}
use Rattle.step_sweeps.specs.declared.task.Making.{Making}
use Rattle.step_sweeps.specs.Given.{Tables}
use Rattle.step_sweeps.specs.Made.{inner_part, node_file}
use Rattle.step_sweeps.specs.Makes.{IsGiven, nodes_for}
use Rattle.step_sweeps.specs.Ways.{IsMadeWithin}

-- a diagram was made at once, of canonical files that of the step, in fewer turns than its work has; whatever the files
-- hold, in no more turns than so many and in few calls, and no part number was taken for a run
pub record IsMadeNow {S : Type 0} (tells : S → Bool) (world : S → World) (making : Making) (turns trailers : ℕ)
    (before after : S) (m : MadeDiagram) : Type 0 where
  pub made : IsTrue (tells after) → (g : Tables) → IsGiven making (world before) g
      → IsMadeWithin making g 0 1 m (world after)
  pub some : 0 < m.turns
  pub few : m.turns ≤ turns
  pub next_is : m.next ≡ inner_part
  pub calls : IsTrue (tells after) → (world after).clock ≤ (world before).clock + (8 * m.turns + 6 + trailers)

-- a step makes its diagram at once, makes nothing, or is refused, where so many calls look at trailers
pub record MakesNow {S : Type 0} (tells : S → Bool) (world : S → World) (counts : S → Faults) (making : Making)
    (most : AtMost) (trailers : ℕ) (before after : S) (result : Result (Option MadeDiagram) Failed) : Type 0 where
  pub made : IfOk result (λ found. IfSome found (IsMadeNow tells world making most.turns trailers before after))
  -- where nothing is made, files were looked at and none is changed
  pub not_made : IfOk result (λ found. IfNone found (Told tells before after
      (Looked (trailers + most.looks) (world before) (world after))))
  -- the node file of the step alone is changed
  pub content : Told tells before after
      (Ran (OnlyChanged (λ q. q ≡ node_file making.number) (now (world before))) (world before) (world after))
  -- of canonical files the calls are at most sixteen for each of their nodes and some more; and few of any files
  pub few_calls : IsTrue (tells after) → (g : Tables) → IsGiven making (world before) g
      → (world after).clock ≤ (world before).clock + (16 * nodes_for making g + 21 + trailers)
  pub short : IsTrue (tells after) → (world after).clock ≤ (world before).clock + (2 ^ 18 + 6 + trailers)
  pub faults : OnlyFolder (counts before) (counts after) result
