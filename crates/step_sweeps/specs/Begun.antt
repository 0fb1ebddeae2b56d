-- A sweep that is to answer a question, begun anew or gone on with from the step's last checkpoint.
use Rattle.std.specs.Prelude.{◌≡◌, ℕ, ◌+◌, ◌/◌, ◌^◌, ◌<◌, ◌≤◌, Bool, IsTrue, Ok, None, Some}
use Rattle.shelf_model.specs.declared.file_no.FileNo.{FileNo}
use Rattle.shelf_model.specs.Calls.{Told}
use Rattle.shelf_model.specs.Faults.{Faults}
use Rattle.shelf_model.specs.Moments.{Ran, Throughout, OnlyChanged}
use Rattle.shelf_model.specs.World.{Moment, World, now, file}
use Rattle.run_tiers.specs.Faults.{OnlySortShelf}
use Rattle.run_tiers.specs.Syncs.{IsFirm}
use Rattle.step_going.specs.Standing.{AreSafe, IsStanding}
use Rattle.sweep_checkpoint.specs.Going.{IsPaidTo}
use Rattle.sweep_checkpoint.specs.Going.{first_owed}
use Rattle.sweep_checkpoint.specs.declared.going.Going.{Going}
use Rattle.sweep_core.specs.declared.checkpoint.Checkpoint.{Checkpoint}
use Rattle.sweep_core.specs.declared.sweep.Sweep as sweep
use Rattle.sweep_core.specs.Accounts.{NoneFilled}
use Rattle.sweep_core.specs.Carries.{IsBehindPoints}
use Rattle.sweep_core.specs.Saving.{IsOfStep, reads_of}
use Rattle.step_sweeps.specs.Answers.{Question, IsAsked}
use Rattle.step_sweeps.specs.Going.{rest_calls}

-- of the tables of this question so much remains of the sweep's job that the turns are within the work; what it reads
-- is sure; and the step stands with its last checkpoint, and all is sure on which that rests of the files that the
-- sweep makes
pub record IsOnTheWay {Given P : Type 0} (kind : sweep.Ghosts P) (q : Question Given) (job : kind.Job) (going : Going)
    (s : P) (world : World) (g : Given) : Type 0 where
  pub remains : kind.remains s world job
  pub few : going.turns + kind.left s world job < q.work g
  pub operands : (f : FileNo) → kind.saving.operands (kind.task s) f → IsFirm (file world f)
  pub standing : IsStanding (q.goes_on going.step g) q.rests going.step (kind.accounts.next s)
      (now world).folder going.last
  pub sure : (c : Checkpoint) → going.last ≡ Some c → (f : FileNo) (n : ℕ) → q.rests c f n → kind.accounts.makes s f
      → n ≤ (file world f).firm

-- the sweep of that task is begun, for the tables of which it does these jobs
pub record Begun {S Given P : Type 0} (tells : S → Bool) (world : S → World) (counts : S → Faults)
    (kind : sweep.Ghosts P) (q : Question Given) (job_of : Given → kind.Job) (task : kind.Task) (going : Going)
    (before after : S) (s : P) : Type 0 where
  pub ready : kind.ready s
  pub in_step : IsTrue (tells after) → kind.in_step s (world after)
  pub task_is : kind.task s ≡ task
  pub step_is : kind.accounts.step s ≡ going.step
  pub files : IsOfStep (kind.accounts.makes s) (kind.saving.operands (kind.task s)) going.step (kind.accounts.next s)
  pub made : (f : FileNo) → kind.accounts.makes s f → IsBehindPoints going.step f
  pub first : going.sweep ≡ 0
  pub paid : IsPaidTo kind.accounts going s
  -- what was asked of it remains, and meanwhile each image that a stop may leave can be begun or gone on with
  pub asked : IsTrue (tells after) → (g : Given) → IsAsked q going (world before) g
      → IsOnTheWay kind q (job_of g) going s (world after) g
  pub images : IsTrue (tells after) → (g : Given) → IsAsked q going (world before) g
      → Throughout (world before) (world after)
      (λ (m : Moment). AreSafe (q.goes_on going.step g) going.step m.folder)
  -- whatever the files hold
  pub trusts : IsTrue (tells after) → going.last ≡ None → kind.trusts s (world after)
  pub content : Told tells before after
      (Ran (OnlyChanged (IsBehindPoints going.step) (now (world before))) (world before) (world after))
  -- no part number from 2^32 on was taken, and no file is filled whose part wasn't
  pub within : kind.accounts.next s ≤ 2 ^ 32
  pub untaken : IsTrue (tells after)
      → NoneFilled going.step (kind.accounts.next s) (world before) (world after)
  -- the next save cuts no part that was taken before, and what was made or is paid for, in calls and in parts, is few
  pub owed : kind.accounts.next s ≤ first_owed going.last (kind.accounts.next s)
  pub stock : going.last ≡ None → kind.accounts.stock s ≡ 0
  pub calls : IsTrue (tells after) → (world after).clock + (kind.accounts.credit s + kind.accounts.stock s / 256)
      ≤ (world before).clock + (q.some + rest_calls going.last (q.nodes (reads_of (world before))))
  pub faults : OnlySortShelf (counts before) (counts after) (Ok s)
