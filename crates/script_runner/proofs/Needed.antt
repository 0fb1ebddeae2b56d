-- What a run needs of a folder once so many steps are committed: the job's files, those of the steps that remain, and the
-- diagrams that are live. Where these stay a run can go on as before, and the turns that are shown pay for as much.
use Rattle.std.proofs.Common.{◌≡◌, ◌⊎◌, ◌∙◌, ℕ, ◌+◌, ◌*◌, ◌≤◌, nat_eq, nat_lt, not, cond, ◌&&◌, ◌||◌, if◌then◌else◌, Bool, true, false, List, [], length, take, refl, sym, ap, ap₂, subst, inl, inr, arith}
use Rattle.std.specs.Prelude.{IsTrue}
use Rattle.std.proofs.lemmas.Bool.{cases_lt, or_cases, or_left, or_right, and_parts, not-true, le-ltb, ltb-false, eqb-true}
use Rattle.bool_tables.specs.declared.steps.Planned.{Planned}
use Rattle.bool_tables.specs.Plans.{IsWellFormed, is_live, operands}
use Rattle.shelf_model.specs.declared.file_no.FileNo.{FileNo}
use Rattle.shelf_model.specs.File.{File, IsLeft}
use Rattle.shelf_model.specs.Folder.{Folder, Image, file_in, bytes_in, IsImage, AreFiles}
use Rattle.shelf_model.proofs.Images.{chosen, chosen_image, bytes_in-chosen, standing_left}
use Rattle.catalogue.specs.Files.{job_step, job_gate, catalogue, step_gate}
use Rattle.catalogue.specs.Counts.{count_in}
use Rattle.file_numbers.specs.Files.{checkpoint_file, checkpoint_gate}
use Rattle.sweep_checkpoint.specs.Gated.{last_of}
use Rattle.sweep_checkpoint.specs.Stops.{turns_in, shown_turns}
use Rattle.step_work.specs.Plans.{no_step, step_at}
use Rattle.resumable.proofs.StepPoints.{at_local, at_last, at_near}
use Rattle.sound_image.specs.Files.{node_file}
use Rattle.sound_image.specs.Jobs.{Job}
use Rattle.sound_image.specs.Sound.{IsResumableAt}
use Rattle.sound_image.specs.Holds.{Holds}
use Rattle.sound_image.proofs.Resuming.{none_resumes}
use Rattle.sound_image.proofs.StepLaws.{holds_kept}
use Rattle.step_engine.proofs.PlanLaws.{operands_live, follows_at}
use Rattle.script_runner.specs.Stops.{committed_turns, paid_in}
use Rattle.script_runner.proofs.StopLaws.{committed_same}
use Rattle.script_runner.proofs.Tests.{each_passes}

-- whether it is a file of the job or of a step that remains, or that of a diagram that is live
pub needed : List Planned → ℕ → FileNo → Bool
needed steps count f = not (nat_lt f.step count) || (nat_eq f.part 0 && is_live (take count steps) f.step)

pub needed_later : (steps : List Planned) (count : ℕ) (f : FileNo) → count ≤ f.step → IsTrue (needed steps count f)
unfolding needed
needed_later steps count f behind =
    or_left (not (nat_lt f.step count)) (nat_eq f.part 0 && is_live (take count steps) f.step) (ap not (le-ltb f.step count behind))

pub needed_live : (steps : List Planned) (count s : ℕ) → IsTrue (is_live (take count steps) s) → IsTrue (needed steps count (node_file s))
unfolding needed
needed_live steps count s live = or_right (not (nat_lt s count)) (is_live (take count steps) s) live

pub needed_is : (steps : List Planned) (count : ℕ) (f : FileNo) → IsTrue (needed steps count f)
    → (count ≤ f.step) ⊎ ((f.part ≡ 0) × IsTrue (is_live (take count steps) f.step))
unfolding needed
needed_is steps count f need =
    elim (or_cases (not (nat_lt f.step count)) (nat_eq f.part 0 && is_live (take count steps) f.step) need) [
      | inl later ↦ inl (ltb-false f.step count (not-true (nat_lt f.step count) later))
      | inr live ↦
          let both = and_parts (nat_eq f.part 0) (is_live (take count steps) f.step) live in
          inr (eqb-true f.part 0 both.0, both.1)
    ]

-- another reading has the same in each file that is needed
abbrev pub SameNeeded : List Planned → ℕ → (FileNo → List ℕ) → (FileNo → List ℕ) → Type 0
SameNeeded steps count old new = (f : FileNo) → IsTrue (needed steps count f) → new f ≡ old f

-- and another folder the same files
abbrev pub KeepsNeeded : List Planned → ℕ → Folder → Folder → Type 0
KeepsNeeded steps count old new = (f : FileNo) → IsTrue (needed steps count f) → file_in new f ≡ file_in old f

-- what the turns pay for is shown in files that are needed
pub paid_same : (job : Job) (count : ℕ) (old new : FileNo → List ℕ) → count ≤ job_step → SameNeeded job.steps count old new → count_in new ≡ count
    → paid_in job new ≡ paid_in job old
paid_same job count old new few same counted =
    whole new counted
    ∙ (λ i. 256 * (committed_same count new old (ap (take (128 * count)) (of_job catalogue refl)) i
    + cond (nat_lt count (length job.steps)) (turns_in (last_of (length (of_step (checkpoint_gate count) refl i)) (of_step (checkpoint_file count) refl i))) 0))
    ∙ sym (whole old (sym (ap₂ (λ a b. if nat_lt 0 (length a) then length b else 0) (of_job job_gate refl) (of_job step_gate refl)) ∙ counted))
  where
    of_job : (f : FileNo) → f.step ≡ job_step → new f ≡ old f
    of_job f is = same f (needed_later job.steps count f (omega (arith, few, is)))

    of_step : (f : FileNo) → f.step ≡ count → new f ≡ old f
    of_step f is = same f (needed_later job.steps count f (omega (arith, is)))

    whole : (r : FileNo → List ℕ) → count_in r ≡ count
        → paid_in job r ≡ 256 * (committed_turns count r + cond (nat_lt count (length job.steps)) (shown_turns count r) 0)
    whole r is i = 256 * (committed_turns (is i) r + cond (nat_lt (is i) (length job.steps)) (shown_turns (is i) r) 0)

module _ (job : Job) (plan : IsWellFormed job.n job.text job.steps) (count : ℕ) where
  -- where a run can go on it can with the same in these files
  pub resumes_same : (old new : FileNo → List ℕ) → SameNeeded job.steps count old new → IsResumableAt job count old → IsResumableAt job count new
  resumes_same old new same is = elim (cases_lt count (length job.steps)) [
    | inl within ↦ elim (is.this_step within) [
      | inl none ↦ none_resumes job count new (λ s from inside. later (checkpoint_gate s) from ∙ elim (cases_lt count s) [
        | inl behind ↦ is.behind s behind inside
        | inr before ↦ let this : s ≡ count = omega (arith, from, before) in subst (λ j. old (checkpoint_gate j) ≡ []) (sym this) none
      ])
      | inr goes ↦
          let point = at_last job.n job.text job.steps count old goes in
          record {
            behind = λ s behind inside. later (checkpoint_gate s) (omega (arith, behind)) ∙ is.behind s behind inside;
            this_step = λ inside. inr (at_local job.n job.text job.steps count point.0 old new point.1
                (λ i. last_of (length (later (checkpoint_gate count) (omega arith) i)) (later (checkpoint_file count) (omega arith) i))
                (λ f many rest. ap (take many) (elim (at_near job.n job.text job.steps count old point.0 goes point.1 f many rest) [
                  | inl own ↦ later f (omega (arith, own))
                  | inr (i, operand, among, found, file_is) ↦
                      let live : IsTrue (is_live (take count job.steps) operand) =
                      subst (λ j. IsTrue (is_live (take count job.steps) j)) found
                      (each_passes (is_live (take count job.steps)) (operands (step_at job.steps count)) i operand among
                      (operands_live job.n job.text (take count job.steps) _ (follows_at job.n job.text job.steps count no_step within plan))) in
                      subst (λ (g : FileNo). new g ≡ old g) (sym file_is) (same (node_file operand) (needed_live job.steps count operand live))
                ])) goes);
          }
    ]
    | inr beyond ↦ record {
      behind = λ s behind inside. absurd (omega (arith, beyond, behind, inside));
      this_step = λ within. absurd (omega (arith, beyond, within));
    }
  ]
    where
      later : (f : FileNo) → count ≤ f.step → new f ≡ old f
      later f behind = same f (needed_later job.steps count f behind)

  -- so each image of a folder that keeps them has the same in them as one of before
  module _ (old new : Folder) (files : AreFiles old) (keeps : KeepsNeeded job.steps count old new) (image : Image) (is_image : IsImage new image) where
    abbrev either : Bool → FileNo → File → List ℕ
    either need f x = if need then bytes_in image f else x.bytes

    abbrev choice : FileNo → File → List ℕ
    choice f x = either (needed job.steps count f) f x

    left_as : (f : FileNo) (need : Bool) → needed job.steps count f ≡ need → IsLeft (file_in old f) (either need f (file_in old f))
    left_as f true is = subst (λ x. IsLeft x (bytes_in image f)) (keeps f is) (is_image f)
    left_as f false is = standing_left (file_in old f) (files f)

    left_so : (f : FileNo) → IsLeft (file_in old f) (choice f (file_in old f))
    left_so f = left_as f (needed job.steps count f) refl

    pub before : Image
    before = chosen choice old

    pub before_image : IsImage old before
    unfolding before
    before_image = chosen_image choice old left_so

    pub before_same : SameNeeded job.steps count (bytes_in before) (bytes_in image)
    unfolding before
    before_same f need =
        ap (λ b. either b f (file_in old f)) (sym need) ∙ sym (bytes_in-chosen choice old f (left_so f))

  -- the steps so far are held then, and a run can go on
  pub holds_needed : (old new : Folder) → AreFiles old → KeepsNeeded job.steps count old new → Holds job count old → Holds job count new
  holds_needed old new files keeps holds = holds_kept job count old new holds (record {
    of_job = λ f is. keeps f (needed_later job.steps count f (let few = plan.few_steps in let short = holds.few in omega (arith, few, short, is)));
    nodes = λ s live. keeps (node_file s) (needed_live job.steps count s live);
    resumable = λ image is_image. resumes_same (bytes_in (before old new files keeps image is_image)) (bytes_in image)
        (before_same old new files keeps image is_image)
        (holds.resumable (before old new files keeps image is_image) (before_image old new files keeps image is_image));
  })
