-- How many turns of a step a stop leaves shown while a sweep goes on and is saved.
use Rattle.std.proofs.Common.{◌≡◌, ◌⊎◌, ℕ, ◌≤◌, Bool, IsTrue, List, refl, sym, ap, subst, ◌∙◌, inl, inr, arith}
use Rattle.std.specs.Prelude.{Option}
use Rattle.shelf_model.specs.declared.file_no.FileNo.{FileNo}
use Rattle.shelf_model.specs.File.{File, firm_file, IsLeft}
use Rattle.shelf_model.specs.Folder.{Folder, Image, file_in, bytes_in, IsImage, AreFiles, OnlyChanges}
use Rattle.shelf_model.specs.World.{Moment, World, now}
use Rattle.shelf_model.specs.Calls.{Told}
use Rattle.shelf_model.specs.Moments.{Throughout, Ran, OnlyChanged}
use Rattle.shelf_model.proofs.Runs.{stands, joins, weakens, ran_end}
use Rattle.run_tiers.specs.Syncs.{IsFirm}
use Rattle.file_numbers.specs.Files.{checkpoint_file, checkpoint_gate}
use Rattle.sweep_core.specs.declared.checkpoint.Checkpoint.{Checkpoint}
use Rattle.sweep_core.specs.Saving.{IsOfStep}
use Rattle.sweep_core.specs.Carries.{OnlySaved}
use Rattle.sweep_checkpoint.specs.Points.{Fits}
use Rattle.sweep_checkpoint.specs.Saves.{IsGateSure, IsLast, DuringSave, IsSaved}
use Rattle.sweep_checkpoint.specs.Retires.{IsGivenUp}
use Rattle.sweep_checkpoint.specs.Stops.{turns_in, shown_turns, SamePoints, ShowsAsBefore, ImagesShow}
use Rattle.sweep_checkpoint.proofs.PointTurns.{point_turns}
use Rattle.sweep_checkpoint.proofs.AsBefore.{image_before, image_before_is, image_before_same, same_last, points_stay, gate_stays}
use Rattle.sweep_checkpoint.proofs.SavedHere.{IsCarried, moments}

-- an image of the folder shows what it does
pub shows_here : (step : ℕ) (folder : Folder) (image : Image) → IsImage folder image
    → ShowsAsBefore step folder (bytes_in image)
shows_here step folder image is_image = record { before = image; is_image = is_image; same = refl }

-- the gate is as sure as it was
pub gate_same : (step : ℕ) (old new : Folder) → SamePoints step old new → IsGateSure step old → IsGateSure step new
gate_same step old new same sure = subst IsFirm (sym same.gate) sure

-- where the checkpoints and their gate stay, each image shows what one of before did
pub shows_same : (step : ℕ) (old new : Folder) (image : Image) → AreFiles old → SamePoints step old new
    → IsImage new image → ShowsAsBefore step old (bytes_in image)
shows_same step old new image are_files same is_image =
    let still : (f : FileNo) → file_in new f ≡ file_in old f → bytes_in image f ≡ bytes_in (image_before old image) f =
    λ f is. image_before_same old image f are_files (subst (λ x. IsLeft x (bytes_in image f)) is (is_image f)) in
    record {
      before = image_before old image;
      is_image = image_before_is old image are_files;
      same = ap turns_in (same_last step (bytes_in image) (bytes_in (image_before old image))
          (still (checkpoint_file step) same.points) (still (checkpoint_gate step) same.gate));
    }

pub shows_then : (step : ℕ) (old mid : Folder) (r : FileNo → List ℕ) → AreFiles old → SamePoints step old mid
    → ShowsAsBefore step mid r → ShowsAsBefore step old r
shows_then step old mid r are_files same shows =
    let first : ShowsAsBefore step old (bytes_in shows.before) =
    shows_same step old mid shows.before are_files same shows.is_image in
    record { before = first.before; is_image = first.is_image; same = shows.same ∙ first.same }

-- what is said of the turns that images show: nothing was done, more calls were made, and the checkpoints stay
pub images_show : (step shown : ℕ) (folder : Folder) → ImagesShow step shown shown folder folder
images_show step shown folder = λ image is_image. inl (shows_here step folder image is_image, refl)

-- an image that shows what one of then does shows what one of before did, or what was said then
pub show_then : (step first shown : ℕ) (old mid : Folder) (r : FileNo → List ℕ) → ImagesShow step first shown old mid
    → ShowsAsBefore step mid r
    → (ShowsAsBefore step old r × (shown ≡ first)) ⊎ ((shown_turns step r ≡ shown) × (first ≤ shown))
show_then step first shown old mid r so_far shows = elim (so_far shows.before shows.is_image) [
  | inl was ↦ inl (record { before = was.0.before; is_image = was.0.is_image; same = shows.same ∙ was.0.same }, was.1)
  | inr is ↦ inr (shows.same ∙ is.0, is.1)
]

pub images_show_then : (step first shown last : ℕ) (old mid new : Folder) → first ≤ shown
    → ImagesShow step first shown old mid → ImagesShow step shown last mid new
    → ImagesShow step first last old new
images_show_then step first shown last old mid new least so_far then = λ image is_image. elim (then image is_image) [
  | inl was ↦ elim (show_then step first shown old mid (bytes_in image) so_far was.0) [
    | inl before ↦ inl (before.0, was.1 ∙ before.1)
    | inr is ↦ inr (is.0 ∙ sym was.1, let same = was.1 in let more = is.1 in omega (arith, same, more))
  ]
  | inr is ↦ inr (is.0, let more = is.1 in omega (arith, least, more))
]

pub images_show_same : (step first shown : ℕ) (old mid new : Folder) → AreFiles mid
    → ImagesShow step first shown old mid → SamePoints step mid new → ImagesShow step first shown old new
images_show_same step first shown old mid new mid_files so_far same = λ image is_image.
    show_then step first shown old mid (bytes_in image) so_far (shows_same step mid new image mid_files same is_image)

-- at a moment each image shows what one of a folder did, or so many turns
abbrev pub AreShown : ℕ → ℕ → Folder → Moment → Type 0
AreShown step turns old m = (image : Image) → IsImage m.folder image
    → ShowsAsBefore step old (bytes_in image) ⊎ (shown_turns step (bytes_in image) ≡ turns)

-- the same under other numbers that are the same
pub shown_as : (s step t turns : ℕ) (old new : World) (folder : Folder) → s ≡ step → t ≡ turns
    → Throughout old new (AreShown s t folder) → Throughout old new (AreShown step turns folder)
shown_as s step t turns old new folder step_is turns_is shown =
    subst (λ k. Throughout old new (AreShown k turns folder)) step_is
    (subst (λ k. Throughout old new (AreShown s k folder)) turns_is shown)

-- no call was made
pub shown_none : (step turns : ℕ) (w : World) → Throughout w w (AreShown step turns (now w).folder)
shown_none step turns w = stands w (AreShown step turns (now w).folder)
    (λ image is_image. inl (shows_here step (now w).folder image is_image))

-- while a sweep goes on or is made ready to be saved, the checkpoints and their gate stay
pub saved_points : (makes operands : FileNo → Type 0) (step next : ℕ) (old m : Moment)
    → IsOfStep makes operands step next → OnlySaved makes step next old m
    → SamePoints step old.folder m.folder
saved_points makes operands step next old m files saved = record {
  points = points_stay makes operands step next old m files saved;
  gate = gate_stays makes operands step next old m files saved;
}

-- and so they do while older runs are given up
pub retired_points : (older : Option Checkpoint) (d : Checkpoint) (old new : Folder)
    → OnlyChanges (IsGivenUp older d) old new → SamePoints d.step old new
retired_points older d old new only = record {
  points = only (checkpoint_file d.step) (λ is. let from = is.from in absurd (omega (arith, from)));
  gate = only (checkpoint_gate d.step) (λ is. let from = is.from in absurd (omega (arith, from)));
}

-- where the checkpoint is the last one its turns are shown
pub shown_last : (d : Checkpoint) (r : FileNo → List ℕ) → Fits d → IsLast d r → shown_turns d.step r ≡ d.turns
shown_last d r fits last = ap turns_in last ∙ point_turns d fits

-- a sweep was made ready, and filled the checkpoint; then that was saved, and older runs were given up
module _ {S : Type 0} (tells : S → Bool) (world : S → World)
    (files_are : (s : S) → IsTrue (tells s) → AreFiles (now (world s)).folder)
    (makes operands : FileNo → Type 0) (next later : ℕ) (d : Checkpoint) where
  pub carry_points : (old mid : S) → IsCarried tells world makes operands next later d old mid → IsTrue (tells mid)
      → Throughout (world old) (world mid) (λ (m : Moment). SamePoints d.step (now (world old)).folder m.folder)
  carry_points old mid carried told_mid =
      moments (world old) (world mid) (OnlySaved makes d.step next (now (world old)))
      (λ (m : Moment). SamePoints d.step (now (world old)).folder m.folder)
      (λ m saved. saved_points makes operands d.step next (now (world old)) m carried.files saved)
      (carried.content.did told_mid)

  carried_points : (old mid : S) → IsCarried tells world makes operands next later d old mid → IsTrue (tells mid)
      → SamePoints d.step (now (world old)).folder (now (world mid)).folder
  carried_points old mid carried told_mid = saved_points makes operands d.step next (now (world old))
      (now (world mid)) carried.files
      (ran_end (world old) (world mid) (OnlySaved makes d.step next (now (world old))) (carried.content.did told_mid))

  pub shown_carry : (old mid : S) → IsCarried tells world makes operands next later d old mid → IsTrue (tells mid)
      → Throughout (world old) (world mid) (AreShown d.step d.turns (now (world old)).folder)
  shown_carry old mid carried told_mid =
      weakens (world old) (world mid) (λ (m : Moment). SamePoints d.step (now (world old)).folder m.folder)
      (AreShown d.step d.turns (now (world old)).folder)
      (λ m same image is_image. inl (shows_same d.step (now (world old)).folder m.folder image
      (files_are old (carried.content.before told_mid)) same is_image))
      (carry_points old mid carried told_mid)

  pub shown_save : (old mid new : S) → IsCarried tells world makes operands next later d old mid → Fits d
      → IsGateSure d.step (now (world old)).folder
      → Told tells mid new (Ran (DuringSave d (now (world mid))) (world mid) (world new)) → IsTrue (tells new)
      → Throughout (world old) (world new) (AreShown d.step d.turns (now (world old)).folder)
  shown_save old mid new carried fits sure saves told_new =
      let told_mid : IsTrue (tells mid) = saves.before told_new in
      let are_files = files_are old (carried.content.before told_mid) in
      let same = carried_points old mid carried told_mid in
      joins (world old) (world mid) (world new) (AreShown d.step d.turns (now (world old)).folder)
      (shown_carry old mid carried told_mid)
      (moments (world mid) (world new) (DuringSave d (now (world mid)))
      (AreShown d.step d.turns (now (world old)).folder)
      (λ m during image is_image. elim
      (during.images (gate_same d.step (now (world old)).folder (now (world mid)).folder same sure) image is_image) [
        | inl was ↦ inl (shows_then d.step (now (world old)).folder (now (world mid)).folder (bytes_in image)
            are_files same
            (record { before = was.before; is_image = was.is_image; same = ap turns_in was.same }))
        | inr last ↦ inr (shown_last d (bytes_in image) fits last)
      ]) (saves.did told_new))

  -- behind the save, once older runs were given up, each image shows the turns of the checkpoint
  image_retired : (older : Option Checkpoint) (mid new : Folder) (m : Folder) (image : Image) → Fits d → AreFiles new
      → IsSaved d mid new → OnlyChanges (IsGivenUp older d) new m
      → IsImage m image → shown_turns d.step (bytes_in image) ≡ d.turns
  image_retired older mid new m image fits are_files saved only is_image =
      let shows : ShowsAsBefore d.step new (bytes_in image) =
      shows_same d.step new m image are_files (retired_points older d new m only) is_image in
      shows.same ∙ shown_last d (bytes_in shows.before) fits (saved.images shows.before shows.is_image)

  pub shown_retire : (older : Option Checkpoint) (old mid new end : S)
      → IsCarried tells world makes operands next later d old mid → Fits d → IsGateSure d.step (now (world old)).folder
      → Told tells mid new (Ran (DuringSave d (now (world mid))) (world mid) (world new))
      → (IsTrue (tells new) → IsSaved d (now (world mid)).folder (now (world new)).folder)
      → Told tells new end (Ran (OnlyChanged (IsGivenUp older d) (now (world new))) (world new) (world end))
      → IsTrue (tells end)
      → Throughout (world old) (world end) (AreShown d.step d.turns (now (world old)).folder)
  shown_retire older old mid new end carried fits sure saves saved retires told_end =
      let told_new : IsTrue (tells new) = retires.before told_end in
      joins (world old) (world new) (world end) (AreShown d.step d.turns (now (world old)).folder)
      (shown_save old mid new carried fits sure saves told_new)
      (moments (world new) (world end) (OnlyChanged (IsGivenUp older d) (now (world new)))
      (AreShown d.step d.turns (now (world old)).folder)
      (λ m only image is_image. inr (image_retired older (now (world mid)).folder (now (world new)).folder m.folder
      image fits (files_are new told_new) (saved told_new) only is_image))
      (retires.did told_end))

  -- then the gate is sure, and no image shows fewer
  pub showed_retire : (older : Option Checkpoint) (first : ℕ) (old mid new end : S) → Fits d → first ≤ d.turns
      → (IsTrue (tells new) → IsSaved d (now (world mid)).folder (now (world new)).folder)
      → Told tells new end (Ran (OnlyChanged (IsGivenUp older d) (now (world new))) (world new) (world end))
      → IsTrue (tells end)
      → IsGateSure d.step (now (world end)).folder
      × ImagesShow d.step first d.turns (now (world old)).folder (now (world end)).folder
  showed_retire older first old mid new end fits least saved retires told_end =
      let told_new : IsTrue (tells new) = retires.before told_end in
      let is_saved : IsSaved d (now (world mid)).folder (now (world new)).folder = saved told_new in
      let only = ran_end (world new) (world end) (OnlyChanged (IsGivenUp older d) (now (world new)))
      (retires.did told_end) in (
        gate_same d.step (now (world new)).folder (now (world end)).folder
            (retired_points older d (now (world new)).folder (now (world end)).folder only)
            (is_saved.gate_is ∙ ap (λ (x : File). firm_file x.bytes) (sym is_saved.gate_is)),
        λ image is_image. inr (
          image_retired older (now (world mid)).folder (now (world new)).folder
              (now (world end)).folder image fits (files_are new told_new) is_saved only is_image,
          least,
        ),
      )
