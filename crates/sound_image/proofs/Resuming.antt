-- Where a run of a job can go on: with other files of the job, with one step more, and where no step has a checkpoint.
use Rattle.std.proofs.Common.{◌≡◌, ◌≢◌, ◌∙◌, ℕ, ◌+◌, ◌<◌, ◌≤◌, nat_eq, if◌then◌else◌, Bool, true, false, List, [], length, take, refl, sym, ap, subst, inl, inr, arith}
use Rattle.std.proofs.lemmas.Bool.{cases_eq, eqb-false, ne_eqb}
use Rattle.shelf_model.specs.declared.file_no.FileNo.{FileNo}
use Rattle.shelf_model.specs.File.{File, no_file, firm_file, IsLeft}
use Rattle.shelf_model.specs.Folder.{Folder, Image, file_in, bytes_in, IsImage, AreFiles}
use Rattle.shelf_model.proofs.Files.{same_image}
use Rattle.shelf_model.proofs.Images.{chosen, chosen_image, bytes_in-chosen, each_left, length_is_all, left_of_none, standing_left}
use Rattle.catalogue.specs.Files.{job_step}
use Rattle.file_numbers.specs.Files.{checkpoint_file}
use Rattle.sweep_checkpoint.specs.Gated.{last_of}
use Rattle.sweep_core.specs.declared.checkpoint.Checkpoint.{Checkpoint}
use Rattle.step_going.specs.Standing.{IsLastOf, HasNone}
use Rattle.step_work.specs.Plans.{step_at}
use Rattle.resumable.specs.Kinds.{RestsOn}
use Rattle.resumable.specs.Resumable as steps
use Rattle.resumable.proofs.StepPoints.{at_local, at_last}
use Rattle.sound_image.specs.Files.{checkpoint_gate}
use Rattle.sound_image.specs.Jobs.{Job}
pub use Rattle.sound_image.specs.Jobs.{AreFew}
use Rattle.sound_image.specs.Sound.{IsResumableAt}
pub use Rattle.sound_image.specs.Sound.{RestsOnSteps}
use Rattle.sound_image.specs.Holds.{AreResumable, NoneGated}
use Rattle.sound_image.specs.Steps.{OnlyOwnFiles}

-- a file of which every image has the same bytes is sure
pub all_sure : (folder : Folder) → AreFiles folder → (f : FileNo) (bytes : List ℕ)
    → ((image : Image) → IsImage folder image → bytes_in image f ≡ bytes) → file_in folder f ≡ firm_file bytes
all_sure folder files f bytes same =
    let all = length_is_all folder f (length bytes) files (λ image is_image. ap length (same image is_image)) in
    let there : (file_in folder f).bytes ≡ bytes =
    each_left folder f (λ left. left ≡ bytes) files same (file_in folder f).bytes (standing_left (file_in folder f) (files f)) in
    all.0 ∙ ap firm_file there

-- the number of a step is none of the job's files
pub early : (job : Job) (s : ℕ) → AreFew job → s < length job.steps → s < job_step
early job s few within = omega (arith, few, within)

-- what the last checkpoint of step k rests on is no file of that number
abbrev RestsApart : Job → ℕ → ℕ → Type 0
RestsApart job k other = (r : FileNo → List ℕ) (c : Checkpoint) (f : FileNo) (many : ℕ) → k < length job.steps
    → steps.GoesOnAt job.n job.text job.steps k r → IsLastOf k r c → RestsOn (step_at job.steps k) c f many → f.step ≢ other

-- that of each step rests on its own files, or those of earlier steps
abbrev pub RestsNoLater : Job → Type 0
RestsNoLater job = (k : ℕ) (r : FileNo → List ℕ) (c : Checkpoint) (f : FileNo) (many : ℕ) → k < length job.steps
    → steps.GoesOnAt job.n job.text job.steps k r → IsLastOf k r c → RestsOn (step_at job.steps k) c f many → f.step ≤ k

module _ (job : Job) where
  -- where neither step k nor one behind it has a gated checkpoint
  pub none_resumes : (k : ℕ) (r : FileNo → List ℕ) → steps.HasNone job.steps k r → IsResumableAt job k r
  none_resumes k r none = record {
    behind = λ s below within. none s (omega (arith, below)) within;
    this_step = λ within. inl (none k (omega arith) within);
  }

  -- so it is of the next step where a run can go on from this one
  pub none_next : (k : ℕ) (r : FileNo → List ℕ) → IsResumableAt job k r → steps.HasNone job.steps (k + 1) r
  none_next k r is s from within = is.behind s (omega (arith, from)) within

  -- where no step from that one on has a gated checkpoint, whatever a stop leaves, a run can go on
  pub none_gated_resumes : (k : ℕ) (folder : Folder) → NoneGated job k folder → AreResumable job k folder
  none_gated_resumes k folder none image is_image = none_resumes k (bytes_in image) (λ s from within.
      left_of_none (bytes_in image (checkpoint_gate s)) (same_image folder image (checkpoint_gate s) _ (none s from within) is_image))

  -- so it is behind step k where a run can go on from this one
  pub none_behind : (k : ℕ) (folder : Folder) → AreFiles folder → AreResumable job k folder → NoneGated job (k + 1) folder
  none_behind k folder files resumable s from within = all_sure folder files (checkpoint_gate s) []
      (λ image is_image. none_next k (bytes_in image) (resumable image is_image) s from within)

  -- the files of one number may be others, of no step with a gated checkpoint: none of those on which step k's rests
  module _ (k other : ℕ) (differ : k < length job.steps → k ≢ other) (rests : RestsApart job k other) where
    -- a run goes on from step k as before
    apart_resumes : (old new : FileNo → List ℕ) → ((s : ℕ) → s ≡ other → s < length job.steps → new (checkpoint_gate s) ≡ []) → ((f : FileNo) → f.step ≢ other → new f ≡ old f)
        → IsResumableAt job k old → IsResumableAt job k new
    apart_resumes old new none same is = record {
      behind = λ s behind inside. elim (cases_eq s other) [
        | inl this ↦ none s this inside
        | inr apart ↦ same (checkpoint_gate s) apart ∙ is.behind s behind inside
      ];
      this_step = λ inside. elim (is.this_step inside) [
        | inl none ↦ inl (same (checkpoint_gate k) (differ inside) ∙ none)
        | inr goes ↦
            let point = at_last job.n job.text job.steps k old goes in
            inr (at_local job.n job.text job.steps k point.0 old new point.1
            (λ i. last_of (length (same (checkpoint_gate k) (differ inside) i)) (same (checkpoint_file k) (differ inside) i))
            (λ f many rest. ap (take many) (same f (rests old point.0 f many inside goes point.1 rest))) goes)
      ];
    }

    -- so it does from each image: one of before has the same other files
    module _ (old new : Folder) (files : AreFiles old) (none : (s : ℕ) → s ≡ other → s < length job.steps → file_in new (checkpoint_gate s) ≡ no_file)
        (same : (f : FileNo) → f.step ≢ other → file_in new f ≡ file_in old f) where
      -- of the files of that number what is read, and of the others what the image has
      abbrev either : Image → Bool → FileNo → File → List ℕ
      either image others f x = if others then x.bytes else bytes_in image f

      abbrev of_both : Image → FileNo → File → List ℕ
      of_both image f x = either image (nat_eq f.step other) f x

      left_as : (image : Image) → IsImage new image → (f : FileNo) (others : Bool) → nat_eq f.step other ≡ others
          → IsLeft (file_in old f) (either image others f (file_in old f))
      left_as image is_image f true is = standing_left (file_in old f) (files f)
      left_as image is_image f false is = subst (λ x. IsLeft x (bytes_in image f)) (same f (eqb-false f.step other is)) (is_image f)

      left_so : (image : Image) → IsImage new image → (f : FileNo) → IsLeft (file_in old f) (of_both image f (file_in old f))
      left_so image is_image f = left_as image is_image f (nat_eq f.step other) refl

      of_same : (image : Image) → IsImage new image → (f : FileNo) → f.step ≢ other → bytes_in image f ≡ bytes_in (chosen (of_both image) old) f
      of_same image is_image f step =
          ap (λ others. either image others f (file_in old f)) (sym (ne_eqb f.step other step))
          ∙ sym (bytes_in-chosen (of_both image) old f (left_so image is_image f))

      resumable_apart : AreResumable job k old → AreResumable job k new
      resumable_apart resumable image is_image =
          let before : Image = chosen (of_both image) old in
          apart_resumes (bytes_in before) (bytes_in image)
          (λ s this inside. left_of_none (bytes_in image (checkpoint_gate s)) (same_image new image (checkpoint_gate s) no_file (none s this inside) is_image))
          (of_same image is_image) (resumable before (chosen_image (of_both image) old (left_so image is_image)))

  -- where the job's files alone are others a run can go on as before
  pub resumable_kept : AreFew job → RestsOnSteps job → (k : ℕ) (old new : Folder) → AreFiles old → ((f : FileNo) → f.step ≢ job_step → file_in new f ≡ file_in old f)
      → AreResumable job k old → AreResumable job k new
  resumable_kept few rests k old new files same =
      resumable_apart k job_step (λ inside is. omega (arith, is, early job k few inside)) (rests k) old new files
      (λ s is inside. absurd (omega (arith, is, early job s few inside))) same

  -- and where a later step is made that gates no checkpoint
  pub resumable_while_made : RestsNoLater job → (k later : ℕ) (old new : Folder) → AreFiles old → k < later → OnlyOwnFiles later old new → HasNone later new
      → AreResumable job k old → AreResumable job k new
  resumable_while_made rests k later old new files behind only none =
      resumable_apart k later (λ inside is. omega (arith, is, behind))
      (λ r c f many inside goes last rest is. omega (arith, is, behind, rests k r c f many inside goes last rest)) old new files
      (λ s is inside. subst (λ j. HasNone j new) (sym is) none) only
