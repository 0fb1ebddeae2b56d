-- Few part numbers were taken for the turns of a checkpoint from which a job's step goes on.
use Rattle.std.proofs.Common.{ℕ, List, inl, inr}
use Rattle.bool_tables.specs.declared.steps.Step.{Step}
use Rattle.bool_tables.specs.declared.steps.Step.TheVariants.{Const, Var, Pair, Ite, Quantify, Restrict, Drop, Same, Leq, Eval, Size}
use Rattle.bool_tables.specs.declared.steps.Planned.{Planned}
use Rattle.shelf_model.specs.declared.file_no.FileNo.{FileNo}
use Rattle.top_down_sweep.specs.declared.beginning.OperandFiles.{OperandFiles}
use Rattle.sweep_operations.specs.declared.steps.StepOperation.{StepOperation}
use Rattle.step_sweeps.specs.Given.{Tables}
use Rattle.step_work.specs.Plans as plans
use Rattle.sweep_core.specs.declared.checkpoint.Checkpoint.{Checkpoint}
use Rattle.sweep_core.specs.Saving.{Saving}
use Rattle.sweep_checkpoint.specs.Going.{GoesOn}
use Rattle.step_going.specs.Found.{IsPaid}
use Rattle.step_going.specs.Standing.{IsLastOf}
use Rattle.resumable.specs.Diagrams.{DiagramGoesOn}
use Rattle.resumable.specs.Kinds.{StepGoesOn}
use Rattle.sound_image.specs.Jobs.{Job}
use Rattle.step_engine.specs.Finding.{JobGoesOn}

-- the last checkpoint, and few parts were taken for its turns
pub record HasPaid (number : ℕ) (r : FileNo → List ℕ) : Type 0 where
  pub point : Checkpoint
  pub last : IsLastOf number r point
  pub paid : IsPaid point

paid_on : {Task Sort : Type 0} (saving : Saving Task Sort) (number sweep : ℕ) (task : Task) (sort : Sort) (turns : ℕ) (r : FileNo → List ℕ)
    → GoesOn saving number sweep task sort turns r → HasPaid number r
paid_on saving number sweep task sort turns r goes = record {
  point = goes.point;
  last = record { last = goes.last; rules = goes.rules; words = goes.words };
  paid = goes.paid;
}

diagram_paid : (operation : StepOperation) (n : ℕ) (files : OperandFiles) (number : ℕ) (g : Tables) (r : FileNo → List ℕ)
    → DiagramGoesOn operation n files number g r → HasPaid number r
diagram_paid operation n files number g r (inl copies) = paid_on _ number 0 _ _ copies.turns r copies.goes_on
diagram_paid operation n files number g r (inr (inl arcs)) = paid_on _ number 0 _ _ arcs.turns r arcs.goes_on
diagram_paid operation n files number g r (inr (inr reduces)) = paid_on _ number 1 reduces.task reduces.diagram reduces.turns r reduces.goes_on

step_paid : (n : ℕ) (text : List ℕ) (steps : List Planned) (j : ℕ) (step : Step) (r : FileNo → List ℕ)
    → StepGoesOn n text steps j step r → HasPaid j r
step_paid n text steps j (Const value) r goes = absurd goes
step_paid n text steps j (Var level) r goes = absurd goes
step_paid n text steps j (Pair op left right) r goes = diagram_paid _ n _ j _ r goes
step_paid n text steps j (Ite test if_one if_zero) r goes = diagram_paid _ n _ j _ r goes
step_paid n text steps j (Quantify kind operand level) r goes = diagram_paid _ n _ j _ r goes
step_paid n text steps j (Restrict operand level value) r goes = diagram_paid _ n _ j _ r goes
step_paid n text steps j (Drop gone) r goes = absurd goes
step_paid n text steps j (Same left right) r goes = paid_on _ j 0 _ _ goes.turns r goes.goes_on
step_paid n text steps j (Leq left right) r goes = paid_on _ j 0 _ _ goes.turns r goes.goes_on
step_paid n text steps j (Eval operand at) r goes = paid_on _ j 0 _ _ goes.turns r goes.goes_on
step_paid n text steps j (Size operand) r goes = absurd goes

pub job_paid : (job : Job) (number : ℕ) (r : FileNo → List ℕ) → JobGoesOn job number r → HasPaid number r
job_paid job number r goes = step_paid job.n job.text job.steps number (plans.step_at job.steps number) r goes
