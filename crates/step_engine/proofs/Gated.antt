-- A step of which something is gated, where the steps before it are held: it sweeps, and its last gated bytes are a
-- checkpoint.
use Rattle.std.proofs.Common.{◌≡◌, ◌≢◌, ◌∙◌, ℕ, true, List, [], refl, sym, ap, subst, inl, inr}
use Rattle.std.specs.Prelude.{Some}
use Rattle.bool_tables.specs.declared.steps.Step.{Step}
use Rattle.bool_tables.specs.declared.steps.Step.TheVariants.{Const, Var, Pair, Ite, Quantify, Restrict, Drop, Same, Leq, Eval, Size}
use Rattle.bool_tables.specs.declared.steps.Planned.{Planned}
use Rattle.shelf_model.specs.declared.file_no.FileNo.{FileNo}
use Rattle.shelf_model.specs.Folder.{Folder, Image, bytes_in, AreFiles}
use Rattle.shelf_model.proofs.Images.{chosen, standing_image}
use Rattle.step_work.specs.Tuples.{sweeps}
use Rattle.step_work.specs.Plans as plans
use Rattle.sweep_core.specs.declared.checkpoint.Checkpoint.{Checkpoint}
use Rattle.sweep_checkpoint.specs.Gated.{present, last_gated}
use Rattle.sweep_checkpoint.specs.Loads.{Tells}
use Rattle.step_going.proofs.Telling.{used_first}
use Rattle.resumable.specs.Kinds.{StepGoesOn}
use Rattle.resumable.proofs.StepPoints.{at_last}
use Rattle.sound_image.specs.Files.{checkpoint_gate}
use Rattle.sound_image.specs.Jobs.{Job}
use Rattle.sound_image.specs.Holds.{Holds}
use Rattle.sound_image.proofs.AttachLaws.{standing}
use Rattle.step_engine.specs.Finding.{IsOfJob, JobGoesOn}
use Rattle.step_engine.proofs.Found.{point_whole}
use Rattle.step_engine.proofs.Resuming.{safe_step}

-- only a step that sweeps goes on from a checkpoint
goes_sweeping : (n : ℕ) (text : List ℕ) (steps : List Planned) (j : ℕ) (step : Step) (r : FileNo → List ℕ)
    → StepGoesOn n text steps j step r → sweeps step ≡ true
goes_sweeping n text steps j (Const value) r goes = absurd goes
goes_sweeping n text steps j (Var level) r goes = absurd goes
goes_sweeping n text steps j (Pair op left right) r goes = refl
goes_sweeping n text steps j (Ite test if_one if_zero) r goes = refl
goes_sweeping n text steps j (Quantify kind operand level) r goes = refl
goes_sweeping n text steps j (Restrict operand level value) r goes = refl
goes_sweeping n text steps j (Drop gone) r goes = absurd goes
goes_sweeping n text steps j (Same left right) r goes = refl
goes_sweeping n text steps j (Leq left right) r goes = refl
goes_sweeping n text steps j (Eval operand at) r goes = refl
goes_sweeping n text steps j (Size operand) r goes = absurd goes

module _ (job : Job) (k : ℕ) (of_job : IsOfJob job k) (folder : Folder) (files : AreFiles folder)
    (holds : Holds job k folder) (gated : present folder (checkpoint_gate k) ≢ []) where
  -- it goes on as the folder is read
  goes_on : JobGoesOn job k (present folder)
  goes_on =
      let image : Image = chosen (λ _ x. x.bytes) folder in
      let read : bytes_in image ≡ present folder = λ i f. standing folder files f i in
      elim (safe_step job k folder of_job.within holds.resumable image (standing_image folder files)) [
        | inl empty ↦ absurd (gated (ap (λ (r : FileNo → List ℕ). r (checkpoint_gate k)) (sym read) ∙ empty))
        | inr goes ↦ subst (JobGoesOn job k) read goes
      ]

  pub gated_sweeps : sweeps (plans.step_at job.steps k) ≡ true
  gated_sweeps = goes_sweeping job.n job.text job.steps k (plans.step_at job.steps k) (present folder) goes_on

  pub gated_point : (c : Checkpoint) × Tells k (last_gated k (present folder)) (Some c)
  gated_point =
      let its = at_last job.n job.text job.steps k (present folder) goes_on in
      let c : Checkpoint = its.0 in (
        c,
        subst (λ bytes. Tells k bytes (Some c)) (sym its.1.last) (record {
          whole = point_whole c its.1.words;
          used = used_first c its.1.words;
          fits = its.1.words;
          rules = its.1.rules;
        }),
      )
