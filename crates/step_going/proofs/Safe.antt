-- A step that stands is safe in each image that a stop may leave, and in what agrees with one.
use Rattle.std.proofs.Common.{◌≡◌, ℕ, ◌≤◌, List, [], take, sym, ap, subst, ◌∙◌, inl, inr, arith}
use Rattle.std.specs.Prelude.{Option, Some, None}
use Rattle.shelf_model.specs.declared.file_no.FileNo.{FileNo}
use Rattle.shelf_model.specs.File.{IsLeft}
use Rattle.shelf_model.specs.Folder.{Folder, Image, file_in, bytes_in, IsImage}
use Rattle.shelf_model.proofs.Images.{left_of_none}
use Rattle.file_numbers.specs.Files.{checkpoint_file, checkpoint_gate}
use Rattle.sweep_core.specs.declared.checkpoint.Checkpoint.{Checkpoint}
use Rattle.sweep_checkpoint.specs.Gated.{present, last_gated}
use Rattle.sweep_checkpoint.specs.Saves.{gated_size}
use Rattle.sweep_checkpoint.specs.Going.{IsAsBefore}
use Rattle.step_going.specs.Standing.{IsLocal, IsSafe, AreSafe, HasNone, StandsIn, IsStanding}
use Rattle.step_going.proofs.Deciding.{either_way, cases_bytes}
use Rattle.step_going.proofs.Gated.{same_gated, none_gated, gate_empty, last_as, sure_front, firm_left}

-- of the files that are made, all is sure on which the last checkpoint rests
abbrev pub RestsSure : (Checkpoint → FileNo → ℕ → Type 0) → (FileNo → Type 0) → Folder → Option Checkpoint → Type 0
RestsSure rests makes folder None = Unit
RestsSure rests makes folder (Some c) = (f : FileNo) (n : ℕ) → rests c f n → makes f → n ≤ (file_in folder f).firm

-- where no checkpoint is gated in the folder, none is in an image of it
none_left : (step : ℕ) (folder : Folder) (image : Image) → HasNone step folder → IsImage folder image → bytes_in image (checkpoint_gate step) ≡ []
none_left step folder image none is_image =
    left_of_none (bytes_in image (checkpoint_gate step)) (subst (λ x. IsLeft x (bytes_in image (checkpoint_gate step))) none (is_image (checkpoint_gate step)))

module _ (Q : (FileNo → List ℕ) → Type 0) (rests : Checkpoint → FileNo → ℕ → Type 0) (step : ℕ) where
  -- the last checkpoint is that one in each image, and what it rests on is there
  last_left : (next : ℕ) (folder : Folder) (image : Image) (c : Checkpoint) → StandsIn Q rests step next folder c → IsImage folder image
      → last_gated step (bytes_in image) ≡ last_gated step (present folder)
  last_left next folder image c s is_image =
      same_gated step (bytes_in image) (present folder) (firm_left folder image (checkpoint_gate step) is_image s.gate)
      (sure_front folder image (checkpoint_file step) (gated_size step folder) is_image s.points)

  front_left : (next : ℕ) (folder : Folder) (image : Image) (c : Checkpoint) → StandsIn Q rests step next folder c → IsImage folder image
      → (f : FileNo) (n : ℕ) → rests c f n → take n (bytes_in image f) ≡ take n (present folder f)
  front_left next folder image c s is_image f n is = elim (s.sure f n is) [
    | inl firm ↦ ap (take n) (firm_left folder image f is_image firm)
    | inr few ↦ sure_front folder image f n is_image few
  ]

  module _ (local : IsLocal Q rests step) where
    -- in each image the step goes on from it
    pub goes_on_left : (next : ℕ) (folder : Folder) (image : Image) (c : Checkpoint) → StandsIn Q rests step next folder c → IsImage folder image
        → Q (bytes_in image)
    goes_on_left next folder image c s is_image =
        local c (present folder) (bytes_in image) s.last (last_left next folder image c s is_image) (front_left next folder image c s is_image) s.goes_on

    -- so each image is safe
    pub safe_standing : (next : ℕ) (folder : Folder) (last : Option Checkpoint) → IsStanding Q rests step next folder last → AreSafe Q step folder
    safe_standing next folder None none image is_image = inl (none_left step folder image none is_image)
    safe_standing next folder (Some c) s image is_image = inr (goes_on_left next folder image c s is_image)

    -- and so is what agrees with one, as a sweep leaves it that saved nothing yet
    pub safe_as_before : (makes : FileNo → Type 0) (next : ℕ) (old : Folder) (r : FileNo → List ℕ) (last : Option Checkpoint)
        → IsStanding Q rests step next old last → RestsSure rests makes old last → IsAsBefore makes step next old r → IsSafe Q step r
    safe_as_before makes next old r None none sure agrees =
        inl (gate_empty step r (agrees.last ∙ none_gated step (bytes_in agrees.before) (none_left step old agrees.before none agrees.is_image)))
    safe_as_before makes next old r (Some c) s sure agrees = inr
        (local c (bytes_in agrees.before) r
        (last_as step (present old) (bytes_in agrees.before) c (last_left next old agrees.before c s agrees.is_image) s.last)
        agrees.last
        (λ f n is. either_way (makes f) (take n (r f) ≡ take n (bytes_in agrees.before f)) (cases_bytes (take n (r f)) (take n (bytes_in agrees.before f)))
        (λ mine. agrees.fronts f mine n (sure f n is mine))
        (λ other.
        let place = s.apart f n is in
        let step_is : c.step ≡ step = s.last.rules.step_is in
        let taken : c.next_part ≤ next = s.taken in
        ap (take n) (agrees.others f other
        (λ free. let from = free.from in place.taken (record { step_is = free.step_is ∙ sym step_is; from = omega (arith, from, taken) }))
        (λ e. place.no_points (e ∙ ap checkpoint_file (sym step_is))) (λ e. place.no_gate (e ∙ ap checkpoint_gate (sym step_is))))))
        (goes_on_left next old agrees.before c s agrees.is_image))
