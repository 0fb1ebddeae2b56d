-- The checkpoint of a diagram that the room made.
use Rattle.std.specs.Prelude.{◌≡◌, ◌⊎◌, ℕ, ◌+◌, ◌-◌, ◌/◌, ◌^◌, ◌<◌, ◌≤◌, Bool, IsTrue, Option, Result, IfErr}
use Rattle.shelf_model.specs.declared.file_no.FileNo.{FileNo}
use Rattle.shelf_model.specs.declared.fault.StreamFault.{StreamFault}
use Rattle.shelf_model.specs.declared.fault.StreamFault.TheVariants.{Shelf}
use Rattle.shelf_model.specs.Calls.{Told}
use Rattle.shelf_model.specs.Faults.{Faults, OnlyShelf}
use Rattle.shelf_model.specs.Folder.{Image, bytes_in, IsImage}
use Rattle.shelf_model.specs.Moments.{Ran, Throughout, OnlyChanged}
use Rattle.shelf_model.specs.World.{Moment, World, now}
use Rattle.file_numbers.specs.Files.{checkpoint_file, checkpoint_gate}
use Rattle.node_file.specs.Canonical.{IsMade}
use Rattle.step_going.specs.Standing.{AreSafe, IsStanding}
use Rattle.sweep_checkpoint.specs.Saves.{IsGateSure}
use Rattle.sweep_checkpoint.specs.Stops.{shown_turns, ShowsAsBefore}
use Rattle.sweep_checkpoint.specs.declared.going.Going.{Going}
use Rattle.sweep_core.specs.declared.checkpoint.Checkpoint.{Checkpoint}
use Rattle.resumable.specs.Diagrams.{diagram_rests}
use Rattle.step_sweeps.specs.declared.task.Making.{Making}
use Rattle.step_sweeps.specs.Given.{Tables}
use Rattle.step_sweeps.specs.Made.{node_file}
use Rattle.step_sweeps.specs.Makes.{goes_on_by, table_by, work_for}
use Rattle.step_sweeps.specs.Sweeping.{IsCovered}

-- few part numbers were taken for the turns but the last, and few enough turns were made, that a diagram of so many
-- nodes may be saved
pub record MayBeKept (nodes next : ℕ) (going : Going) : Type 0 where
  pub nodes_few : nodes < 2 ^ 46
  pub parts_few : next ≤ 512 + (going.turns - 1) / 16
  pub turns_few : going.turns < 2 ^ 61

-- the checkpoints of the step, and their gate
abbrev pub IsOfPoints : ℕ → FileNo → Type 0
IsOfPoints number f = (f ≡ checkpoint_file number) ⊎ (f ≡ checkpoint_gate number)

-- the step's node file is the canonical one of a table, the turns are within the step's work, and the step stands with
-- its last checkpoint
pub record IsReduced (making : Making) (going : Going) (nodes next : ℕ) (g : Tables) (world : World) : Type 0 where
  pub made : IsMade making.n (table_by making g) (node_file making.number) nodes world
  pub few : going.turns < work_for making g
  pub last : Option Checkpoint
  pub standing : IsStanding (goes_on_by making g) diagram_rests making.number next
      (now world).folder last

-- such a diagram is saved, or that isn't due, or it is refused
pub record KeepsMade {S : Type 0} (tells : S → Bool) (world : S → World) (counts : S → Faults) (making : Making)
    (nodes next : ℕ) (going : Going) (before after : S) (result : Result Unit StreamFault) : Type 0 where
  pub images : IsTrue (tells after) → (g : Tables) → IsReduced making going nodes next g (world before)
      → Throughout (world before) (world after)
      (λ (m : Moment). AreSafe (goes_on_by making g) making.number m.folder)
  -- where all checkpoints that are gated are there, only the folder refuses
  pub cause : IfErr result (λ e. IsTrue (tells after) → IsCovered making.number (world before) → e ≡ Shelf)
  pub content : Told tells before after
      (Ran (OnlyChanged (IsOfPoints making.number) (now (world before))) (world before) (world after))
  pub calls : IsTrue (tells after) → (world after).clock ≤ (world before).clock + 14
  -- where the gate is sure a stop leaves as many turns shown as before, or all of the step but the last
  pub shows : IsTrue (tells after) → IsGateSure making.number (now (world before)).folder
      → Throughout (world before) (world after) (λ (m : Moment). (image : Image) → IsImage m.folder image
      → ShowsAsBefore making.number (now (world before)).folder (bytes_in image)
      ⊎ (shown_turns making.number (bytes_in image) ≡ going.turns - 1))
  pub faults : OnlyShelf (counts before) (counts after) result
