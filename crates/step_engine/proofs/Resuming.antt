-- That a run can go on from what a stop leaves, where the files of one step alone are changed.
use Rattle.std.proofs.Common.{◌≡◌, ℕ, ◌<◌, List, [], length, ap, subst, ◌∙◌, inl, inr, arith, Bool, false}
use Rattle.std.specs.Prelude.{IsTrue}
use Rattle.bool_tables.specs.declared.steps.Step.{Step}
use Rattle.bool_tables.specs.declared.steps.Step.TheVariants.{Const, Var, Pair, Ite, Quantify, Restrict, Drop, Same, Leq, Eval, Size}
use Rattle.bool_tables.specs.declared.steps.Planned.{Planned}
use Rattle.shelf_model.specs.declared.file_no.FileNo.{FileNo}
use Rattle.shelf_model.specs.File.{IsLeft}
use Rattle.shelf_model.specs.Folder.{Folder, Image, file_in, bytes_in, IsImage, AreFiles, OnlyChanges}
use Rattle.shelf_model.specs.World.{Moment, World, now}
use Rattle.shelf_model.specs.Calls.{Told}
use Rattle.shelf_model.specs.Moments.{Throughout, Ran, OnlyChanged, Quiet}
use Rattle.shelf_model.proofs.Images.{each_left}
use Rattle.shelf_model.proofs.Runs.{weakens}
use Rattle.step_work.specs.Plans as plans
use Rattle.step_work.specs.Tuples.{sweeps}
use Rattle.step_going.specs.Standing.{AreSafe}
use Rattle.resumable.specs.Kinds.{StepGoesOn}
use Rattle.sound_image.specs.Files.{checkpoint_gate}
use Rattle.sound_image.specs.Jobs.{Job}
use Rattle.sound_image.specs.Holds.{Holds, AreResumable}
use Rattle.step_engine.specs.Finding.{JobGoesOn}
use Rattle.step_engine.specs.OneFile.{OnlyMade}
use Rattle.step_engine.specs.Simple.{IsStepOf}

-- where a file is as it was, what all images had in it each image has
stays_so : (f : FileNo) (P : List ℕ → Type 0) (old m : Folder) (image : Image) → AreFiles old → file_in m f ≡ file_in old f
    → ((first : Image) → IsImage old first → P (bytes_in first f)) → IsImage m image → P (bytes_in image f)
stays_so f P old m image files same all is_image =
    each_left old f P files all (bytes_in image f) (subst (λ x. IsLeft x (bytes_in image f)) same (is_image f))

module _ (job : Job) (number : ℕ) where
  -- where a run can go on, it has no gated checkpoint behind the step, and the step is safe
  pub safe_step : (folder : Folder) → number < length job.steps → AreResumable job number folder → AreSafe (JobGoesOn job number) number folder
  safe_step folder within resumable image is_image = (resumable image is_image).this_step within

  -- it can, where files of the step alone were changed, and the step is safe
  pub safe_resumes : (old m : Folder) → AreFiles old → AreResumable job number old → OnlyChanges (λ f. f.step ≡ number) old m
      → AreSafe (JobGoesOn job number) number m → AreResumable job number m
  safe_resumes old m files resumable only safe image is_image = record {
    behind = λ k beyond within.
        stays_so (checkpoint_gate k) (λ left. left ≡ []) old m image files
        (only (checkpoint_gate k) (λ (same : k ≡ number). omega (arith, same, beyond)))
        (λ first is_first. (resumable first is_first).behind k beyond within) is_image;
    this_step = λ within. safe image is_image;
  }

  -- so it is at each moment of a run
  pub safe_resumes_over : (old new : World) → AreFiles (now old).folder → AreResumable job number (now old).folder
      → Ran (OnlyChanged (λ f. f.step ≡ number) (now old)) old new
      → Throughout old new (λ (m : Moment). AreSafe (JobGoesOn job number) number m.folder)
      → Throughout old new (λ (m : Moment). AreResumable job number m.folder)
  safe_resumes_over old new files resumable run safe = record {
    later = safe.later;
    past = safe.past;
    each = λ k from to. safe_resumes (now old).folder (new.moment k).folder files resumable (run.moments.each k from to).holds (safe.each k from to);
  }

-- a step that takes one turn has no gated checkpoint to go on from
none_goes_on : (n : ℕ) (text : List ℕ) (steps : List Planned) (j : ℕ) (step : Step) (r : FileNo → List ℕ) → sweeps step ≡ false
    → StepGoesOn n text steps j step r → ⊥
none_goes_on n text steps j (Const value) r not goes = goes
none_goes_on n text steps j (Var level) r not goes = goes
none_goes_on n text steps j (Pair op left right) r not goes = cc
none_goes_on n text steps j (Ite test if_one if_zero) r not goes = cc
none_goes_on n text steps j (Quantify kind operand level) r not goes = cc
none_goes_on n text steps j (Restrict operand level value) r not goes = cc
none_goes_on n text steps j (Drop gone) r not goes = goes
none_goes_on n text steps j (Same left right) r not goes = cc
none_goes_on n text steps j (Leq left right) r not goes = cc
none_goes_on n text steps j (Eval operand at) r not goes = cc
none_goes_on n text steps j (Size operand) r not goes = goes

-- so a run can go on at each moment while such a step is made
module _ (job : Job) (number : ℕ) (step : Step) (step_is : plans.step_at job.steps number ≡ step) (not : sweeps step ≡ false) (within : number < length job.steps)
    (old : Moment) (files : AreFiles old.folder) (resumable : AreResumable job number old.folder) where
  own_only : (m : Moment) → OnlyMade step number old m → OnlyChanges (λ f. f.step ≡ number) old.folder m.folder
  own_only m only f other = only f (λ mine. elim mine [
    | inl is ↦ other (ap (λ (q : FileNo). q.step) is.1)
    | inr swept ↦ other swept.1
  ])

  gate_same : (m : Moment) → OnlyMade step number old m → file_in m.folder (checkpoint_gate number) ≡ file_in old.folder (checkpoint_gate number)
  gate_same m only = only (checkpoint_gate number) (λ mine. elim mine [
    | inl is ↦ absurd (let parts : 2 ≡ 0 = ap (λ (q : FileNo). q.part) is.1 in omega (arith, parts))
    | inr swept ↦ absurd (let sweeping = swept.0 in cc)
  ])

  pub still_empty : (m : Moment) → OnlyMade step number old m → (image : Image) → IsImage m.folder image
      → bytes_in image (checkpoint_gate number) ≡ []
  still_empty m only image is_image =
      stays_so (checkpoint_gate number) (λ left. left ≡ []) old.folder m.folder image files (gate_same m only)
      (λ first is_first. elim ((resumable first is_first).this_step within) [
        | inl empty ↦ empty
        | inr goes ↦ absurd (none_goes_on job.n job.text job.steps number (plans.step_at job.steps number) (bytes_in first) (ap sweeps step_is ∙ not) goes)
      ]) is_image

  still_safe : (m : Moment) → OnlyMade step number old m → AreSafe (JobGoesOn job number) number m.folder
  still_safe m only image is_image = inl (still_empty m only image is_image)

  made_resumes : (m : Moment) → OnlyMade step number old m → AreResumable job number m.folder
  made_resumes m only = safe_resumes job number old.folder m.folder files resumable (own_only m only) (still_safe m only)

pub one_resumes : {S : Type 0} (tells : S → Bool) (world : S → World) (n : ℕ) (text : List ℕ) (number : ℕ) (p : Planned)
    (files_are : (s : S) → IsTrue (tells s) → AreFiles (now (world s)).folder) (before after : S) → sweeps p.step ≡ false
    → Told tells before after (Ran (OnlyMade p.step number (now (world before))) (world before) (world after)) → IsTrue (tells after) → (job : Job)
    → IsStepOf job n text number p → Holds job number (now (world before)).folder
    → Throughout (world before) (world after) (λ (m : Moment). AreResumable job number m.folder)
one_resumes tells world n text number p files_are before after not content told job is holds =
    weakens (world before) (world after) (Quiet (now (world before)).said (OnlyMade p.step number (now (world before)))) (λ m. AreResumable job number m.folder)
    (λ m quiet. made_resumes job number p.step (ap (λ (q : Planned). q.step) is.step_is) not is.within (now (world before))
    (files_are before (content.before told)) holds.resumable m quiet.holds) (content.did told).moments
