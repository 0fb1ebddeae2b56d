-- A sweep of a step that makes a diagram, which goes on and is saved at times: each image that a stop may leave is safe
-- meanwhile, and the step stands behind it.
use Rattle.std.proofs.Common.{◌≡◌, ◌⊎◌, ℕ, ◌+◌, ◌≤◌, List, sym, subst}
use Rattle.std.specs.Prelude.{Option}
use Rattle.shelf_model.specs.declared.file_no.FileNo.{FileNo}
use Rattle.shelf_model.specs.Folder.{Image, AreFiles, IsImage, bytes_in}
use Rattle.shelf_model.specs.Moments.{Throughout}
use Rattle.shelf_model.specs.World.{Moment, World, now}
use Rattle.step_going.specs.Standing.{AreSafe}
use Rattle.step_going.proofs.GoneOn.{GoesOnBy, StandsBehind, went_safe, went_stands}
use Rattle.step_going.proofs.Safe.{RestsSure}
use Rattle.sweep_checkpoint.specs.Going.{IsAsBefore, GoesOn, Stands, AreSure}
use Rattle.sweep_checkpoint.specs.declared.going.Going.{Going}
use Rattle.sweep_core.specs.declared.checkpoint.Checkpoint.{Checkpoint}
use Rattle.sweep_core.specs.declared.sweep.Sweep as sweep
use Rattle.sweep_core.specs.Carries.{OnlySaved}
use Rattle.sweep_core.specs.Saving.{IsOfStep}
use Rattle.resumable.specs.Diagrams.{diagram_rests}
use Rattle.resumable.proofs.DiagramPoints.{diagram_local}
use Rattle.step_sweeps.specs.declared.task.Making.{Making}
use Rattle.step_sweeps.specs.Given.{Tables}
use Rattle.step_sweeps.specs.Makes.{goes_on_by}
use Rattle.step_sweeps.specs.Started.{IsUnderWay}
use Rattle.step_sweeps.specs.Sweeping.{IsCovered}
use Rattle.step_sweeps.proofs.StepStands.{gate_sure, points_there, rests_sure}

-- the images of a step that makes a diagram of these tables are safe
abbrev pub IsSafeAt : Making → Tables → Moment → Type 0
IsSafeAt making g m = AreSafe (goes_on_by making g) making.number m.folder

module _ {P : Type 0} (kind : sweep.Ghosts P) (making : Making) (going : Going) (g : Tables) (last : Option Checkpoint)
    (job : kind.Job) (s : P) (mid : World) (way : IsUnderWay kind making g last job s mid)
    (step_is : going.step ≡ making.number) where
  -- how far it may go
  abbrev pub turns_to : ℕ
  turns_to = going.turns + kind.left s mid job

  abbrev pub Goes : (FileNo → List ℕ) → Type 0
  Goes r = goes_on_by making g r

  pub way_sure : AreSure (kind.saving.operands (kind.task s)) going.step (now mid).folder
  way_sure = subst (λ k. AreSure (kind.saving.operands (kind.task s)) k (now mid).folder) (sym step_is) (record {
    gate = gate_sure Goes diagram_rests making.number (kind.accounts.next s) (now mid).folder last
        way.standing;
    operands_are = way.operands;
  })

  pub way_covered : AreFiles (now mid).folder → IsCovered making.number mid
  way_covered files = points_there Goes diagram_rests making.number (kind.accounts.next s) (now mid).folder
      last files way.standing

  way_rests : RestsSure diagram_rests (kind.accounts.makes s) (now mid).folder last
  way_rests = rests_sure diagram_rests (kind.accounts.makes s) (now mid).folder last way.sure

  -- where it goes on, the step does
  module _ (by : GoesOnBy kind.saving Goes diagram_rests making.number going.sweep (kind.task s) job turns_to)
    where
      pub way_safe : (after : World) → Throughout mid after (λ (m : Moment). (image : Image) → IsImage m.folder image
          → IsAsBefore (kind.accounts.makes s) going.step (kind.accounts.next s) (now mid).folder (bytes_in image)
          ⊎ GoesOn kind.saving going.step going.sweep (kind.task s) job turns_to (bytes_in image))
          → Throughout mid after (IsSafeAt making g)
      way_safe after images = went_safe kind.saving Goes diagram_rests making.number going.sweep (kind.task s)
          job turns_to (diagram_local making.operation making.n making.operands making.number g) by
          (kind.accounts.makes s) (kind.accounts.next s) mid after last way.standing way_rests
          (subst (λ k. Throughout mid after (λ (m : Moment). (image : Image) → IsImage m.folder image
          → IsAsBefore (kind.accounts.makes s) k (kind.accounts.next s) (now mid).folder (bytes_in image)
          ⊎ GoesOn kind.saving k going.sweep (kind.task s) job turns_to (bytes_in image))) step_is images)

      pub way_stands : (later : ℕ) (after : World) → kind.accounts.next s ≤ later → AreFiles (now mid).folder
          → IsOfStep (kind.accounts.makes s) (kind.saving.operands (kind.task s)) making.number (kind.accounts.next s)
          → OnlySaved (kind.accounts.makes s) going.step (kind.accounts.next s) (now mid) (now after)
          ⊎ Stands kind.saving (kind.accounts.makes s) (kind.saving.operands (kind.task s)) going.step later
          going.sweep (kind.task s) job turns_to (now after).folder
          → StandsBehind kind.saving Goes diagram_rests making.number going.sweep (kind.task s) job turns_to
          (diagram_local making.operation making.n making.operands making.number g) by
          (kind.accounts.makes s) (kind.accounts.next s) later last (now after).folder
      way_stands later after more files of_step stands = went_stands kind.saving Goes diagram_rests making.number
          going.sweep (kind.task s) job turns_to
          (diagram_local making.operation making.n making.operands making.number g) by
          (kind.accounts.makes s) (kind.accounts.next s) (kind.saving.operands (kind.task s)) later (now mid) (now after)
          last more files of_step way.standing way_rests
          (subst (λ k. OnlySaved (kind.accounts.makes s) k (kind.accounts.next s) (now mid) (now after)
          ⊎ Stands kind.saving (kind.accounts.makes s) (kind.saving.operands (kind.task s)) k later
          going.sweep (kind.task s) job turns_to (now after).folder) step_is stands)
