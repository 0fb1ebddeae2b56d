-- The checkpoints of a job's steps rest on files of steps, and on none of the job itself.
use Rattle.std.proofs.Common.{◌≡◌, ◌<◌, nat_lt, ap, subst, inl, inr, arith}
use Rattle.std.specs.Prelude.{IsTrue}
use Rattle.std.proofs.lemmas.Bool.{ltb-true}
use Rattle.bool_tables.specs.Plans.{IsWellFormed, operands}
use Rattle.shelf_model.specs.declared.file_no.FileNo.{FileNo}
use Rattle.step_work.specs.Plans.{no_step, step_at}
use Rattle.resumable.proofs.StepPoints.{at_near}
use Rattle.sound_image.specs.Jobs.{Job}
use Rattle.sound_image.proofs.Resuming.{RestsOnSteps, early}
use Rattle.step_engine.proofs.PlanLaws.{may_run}
use Rattle.script_runner.proofs.Tests.{each_passes}

-- those of the step, or of its operands, which come before it
pub rests_on_steps : (job : Job) → IsWellFormed job.n job.text job.steps → RestsOnSteps job
rests_on_steps job plan k r c f many within goes last rest = elim (at_near job.n job.text job.steps k r c goes last f many rest) [
  | inl own ↦ λ is. omega (arith, own, is, before)
  | inr (i, operand, inside, found, file_is) ↦
      let earlier : IsTrue (nat_lt operand k) =
      subst (λ j. IsTrue (nat_lt j k)) found
      (each_passes (λ j. nat_lt j k) (operands (step_at job.steps k)) i operand inside
      (may_run job.n job.text job.steps k no_step within plan).operands_are) in
      let below : operand < k = ltb-true operand k earlier in
      let step : f.step ≡ operand = ap (λ (q : FileNo). q.step) file_is in
      λ is. omega (arith, below, step, is, before)
]
  where
    before : k < 4294967295
    before = early job k plan.few_steps within
