-- A sweep of a step that makes a diagram, as it is begun anew, or rebuilt from the step's last checkpoint.
use Rattle.std.specs.Prelude.{◌≡◌, ◌⊎◌, ℕ, ◌+◌, ◌-◌, ◌*◌, ◌^◌, ◌<◌, ◌≤◌, Bool, IsTrue, Ok, Option, Some}
use Rattle.shelf_model.specs.declared.file_no.FileNo.{FileNo}
use Rattle.shelf_model.specs.Calls.{Told}
use Rattle.shelf_model.specs.Faults.{Faults}
use Rattle.shelf_model.specs.Moments.{Ran, Throughout}
use Rattle.shelf_model.specs.World.{Moment, World, now, file}
use Rattle.run_tiers.specs.Faults.{OnlySortShelf}
use Rattle.run_tiers.specs.Syncs.{IsFirm}
use Rattle.step_going.specs.Standing.{AreSafe, IsStanding}
use Rattle.sweep_checkpoint.specs.Going.{IsPaidTo, interval_of, first_owed}
use Rattle.sweep_checkpoint.specs.Stops.{SamePoints}
use Rattle.sweep_checkpoint.specs.declared.going.Going.{Going}
use Rattle.sweep_core.specs.declared.checkpoint.Checkpoint.{Checkpoint}
use Rattle.sweep_core.specs.declared.sweep.Sweep as sweep
use Rattle.sweep_core.specs.Accounts.{NoneFilled}
use Rattle.sweep_core.specs.Saving.{IsOfStep, reads_of}
use Rattle.resumable.specs.Diagrams.{diagram_rests}
use Rattle.step_sweeps.specs.declared.task.Making.{Making}
use Rattle.step_sweeps.specs.Given.{Tables}
use Rattle.step_sweeps.specs.Going.{rest_calls}
use Rattle.step_sweeps.specs.Made.{OnlyStep}
use Rattle.step_sweeps.specs.Makes.{IsGivenFor, goes_on_by, operand_nodes}
use Rattle.step_sweeps.specs.Sweeping.{owed_parts}

-- of this job something remains, what the sweep reads is sure, and the step stands with its last checkpoint, and all is
-- sure on which that rests of the files that the sweep makes
pub record IsUnderWay {P : Type 0} (kind : sweep.Ghosts P) (making : Making) (g : Tables)
    (last : Option Checkpoint) (job : kind.Job) (s : P) (world : World) : Type 0 where
  pub remains : kind.remains s world job
  pub operands : (f : FileNo) → kind.saving.operands (kind.task s) f → IsFirm (file world f)
  pub standing : IsStanding (goes_on_by making g) diagram_rests making.number (kind.accounts.next s)
      (now world).folder last
  pub sure : (c : Checkpoint) → last ≡ Some c → (f : FileNo) (n : ℕ) → diagram_rests c f n → kind.accounts.makes s f
      → n ≤ (file world f).firm

-- the sweep may be run and saved for the step
pub record MayRun {P : Type 0} (kind : sweep.Ghosts P) (number : ℕ) (going : Going) (s : P) : Type 0 where
  pub ready : kind.ready s
  pub works : (0 < kind.fuel s) ⊎ (going.turns - going.shown < interval_of going.budget)
  pub step_is : kind.accounts.step s ≡ number
  pub files : IsOfStep (kind.accounts.makes s) (kind.saving.operands (kind.task s)) number (kind.accounts.next s)
  pub paid : IsPaidTo kind.accounts going s

-- a sweep of a step is begun as its first one, or rebuilt from its last checkpoint
pub record Starts {S P : Type 0} (tells : S → Bool) (world : S → World) (counts : S → Faults)
    (kind : sweep.Ghosts P) (does : Tables → kind.Job → P → Type 0) (most : Tables → ℕ) (some : ℕ) (making : Making)
    (going : Going) (before after : S) (s : P) : Type 0 where
  pub may : MayRun kind making.number going s
  pub in_step : IsTrue (tells after) → kind.in_step s (world after)
  -- of the tables that the step is given a job remains, and with the turns that were made no more than so many are
  -- needed
  pub under_way : IsTrue (tells after) → (g : Tables) → IsGivenFor making going (world before) g
      → (job : kind.Job) × does g job s × IsUnderWay kind making g going.last job s (world after)
      × (going.turns + kind.left s (world after) job ≤ most g)
  pub images : IsTrue (tells after) → (g : Tables) → IsGivenFor making going (world before) g
      → Throughout (world before) (world after)
      (λ (m : Moment). AreSafe (goes_on_by making g) making.number m.folder)
  -- whatever the files hold
  pub content : Told tells before after
      (Ran (OnlyStep making.number (now (world before))) (world before) (world after))
  -- no part number from 2^32 on was taken, and no file is filled whose part wasn't
  pub within : kind.accounts.next s ≤ 2 ^ 32
  pub untaken : IsTrue (tells after)
      → NoneFilled making.number (kind.accounts.next s) (world before) (world after)
  -- no part that was taken may have to be cut, and the calls that are paid for count with those that were made
  pub owed : kind.accounts.next s ≤ first_owed going.last (kind.accounts.next s)
  pub stock : kind.accounts.stock s ≤ 256 * owed_parts going.last
  pub calls : IsTrue (tells after) → (world after).clock + kind.accounts.credit s + 2 * owed_parts going.last
      ≤ (world before).clock + (some + rest_calls going.last (operand_nodes making (reads_of (world before))))
  -- meanwhile the checkpoints and their gate stay
  pub points : IsTrue (tells after) → Throughout (world before) (world after)
      (λ (m : Moment). SamePoints making.number (now (world before)).folder m.folder)
  pub faults : OnlySortShelf (counts before) (counts after) (Ok s)
