-- A step of which a sweep went on and was saved at times: it is safe at each moment, and stands at the end.
use Rattle.std.proofs.Common.{◌≡◌, ◌⊎◌, ℕ, ◌≤◌, List, refl, inl, inr}
use Rattle.std.specs.Prelude.{Option, Some}
use Rattle.shelf_model.specs.declared.file_no.FileNo.{FileNo}
use Rattle.shelf_model.specs.Folder.{Folder, Image, bytes_in, IsImage, AreFiles}
use Rattle.shelf_model.specs.World.{Moment, World, now}
use Rattle.shelf_model.specs.Moments.{Throughout}
use Rattle.shelf_model.proofs.Runs.{weakens}
use Rattle.sweep_core.specs.declared.checkpoint.Checkpoint.{Checkpoint}
use Rattle.sweep_core.specs.Saving.{Saving, IsRestingPlace, IsOfStep}
use Rattle.sweep_core.specs.Carries.{OnlySaved}
use Rattle.sweep_checkpoint.specs.Gated.{present}
use Rattle.sweep_checkpoint.specs.Going.{IsAsBefore, GoesOn, Stands}
use Rattle.step_going.specs.Standing.{IsLocal, IsSafe, AreSafe, StandsIn, IsStanding}
use Rattle.step_going.proofs.Safe.{RestsSure, safe_as_before}
use Rattle.step_going.proofs.Kept.{rests_sure_saved, standing_later, standing_saved}

module _ {Task Job : Type 0} (saving : Saving Task Job) (Q : (FileNo → List ℕ) → Type 0) (rests : Checkpoint → FileNo → ℕ → Type 0)
    (step sweep : ℕ) (task : Task) (job : Job) (turns : ℕ) where
  -- an image in which such a sweep goes on is safe
  pub goes_on_safe : (r : FileNo → List ℕ) → GoesOn saving step sweep task job turns r → (GoesOn saving step sweep task job turns r → Q r)
      → IsSafe Q step r
  goes_on_safe r goes follows = inr (follows goes)

  -- where it stands, the step does
  pub stands_in : (makes operands : FileNo → Type 0) (next : ℕ) (folder : Folder) (s : Stands saving makes operands step next sweep task job turns folder)
      → (GoesOn saving step sweep task job turns (present folder) → Q (present folder))
      → ((f : FileNo) (n : ℕ) → rests s.goes_on.point f n → saving.rests s.goes_on.point f n)
      → ((c : Checkpoint) (text : List ℕ) (f : FileNo) (n : ℕ) → saving.fits c text → saving.rests c f n → IsRestingPlace c f)
      → StandsIn Q rests step next folder s.goes_on.point
  stands_in makes operands next folder s follows fewer apart = record {
    last = record { last = s.goes_on.last; rules = s.goes_on.rules; words = s.goes_on.words };
    goes_on = follows s.goes_on;
    gate = s.gate;
    points = s.points;
    sure = λ f n is. elim (s.sure f n (fewer f n is)) [
      | inl operand ↦ inl operand.1
      | inr sure ↦ inr sure.1
    ];
    apart = λ f n is. apart s.goes_on.point (saving.text task) f n s.goes_on.fits (fewer f n is);
    taken = s.taken;
  }

  -- the step goes on by a sweep of that kind: wherever such a sweep does, the step does, and it rests on no more
  pub record GoesOnBy : Type 0 where
    pub goes_on : (r : FileNo → List ℕ) → GoesOn saving step sweep task job turns r → Q r
    pub rests_within : (r : FileNo → List ℕ) (g : GoesOn saving step sweep task job turns r) (f : FileNo) (n : ℕ) → rests g.point f n → saving.rests g.point f n
    pub apart : (c : Checkpoint) (text : List ℕ) (f : FileNo) (n : ℕ) → saving.fits c text → saving.rests c f n → IsRestingPlace c f

  module _ (local : IsLocal Q rests step) (is : GoesOnBy) (makes : FileNo → Type 0) (next : ℕ) where
    -- while it goes on, each image is safe
    pub went_safe : (old new : World) (last : Option Checkpoint) → IsStanding Q rests step next (now old).folder last → RestsSure rests makes (now old).folder last
        → Throughout old new (λ (m : Moment). (image : Image) → IsImage m.folder image → IsAsBefore makes step next (now old).folder (bytes_in image)
        ⊎ GoesOn saving step sweep task job turns (bytes_in image)) → Throughout old new (λ m. AreSafe Q step m.folder)
    went_safe old new last stood sure images =
        weakens old new (λ m. (image : Image) → IsImage m.folder image → IsAsBefore makes step next (now old).folder (bytes_in image)
        ⊎ GoesOn saving step sweep task job turns (bytes_in image)) (λ m. AreSafe Q step m.folder)
        (λ m left image is_image. elim (left image is_image) [
          | inl agrees ↦ safe_as_before Q rests step local makes next (now old).folder (bytes_in image) last stood sure agrees
          | inr goes ↦ goes_on_safe (bytes_in image) goes (is.goes_on (bytes_in image))
        ]) images

    -- how the step stands behind it: with the checkpoint of before, or with one of the sweep; and of the files that the
    -- sweep makes, all is sure on which that rests
    pub record StandsBehind (later : ℕ) (before : Option Checkpoint) (folder : Folder) : Type 0 where
      pub last : Option Checkpoint
      pub standing : IsStanding Q rests step later folder last
      pub sure : RestsSure rests makes folder last
      pub which : (last ≡ before) ⊎ ((g : GoesOn saving step sweep task job turns (present folder)) × (last ≡ Some g.point))

    pub went_stands : (operands : FileNo → Type 0) (later : ℕ) (old new : Moment) (last : Option Checkpoint) → next ≤ later → AreFiles old.folder → IsOfStep makes operands step next
        → IsStanding Q rests step next old.folder last → RestsSure rests makes old.folder last
        → OnlySaved makes step next old new ⊎ Stands saving makes operands step later sweep task job turns new.folder
        → StandsBehind later last new.folder
    went_stands operands later old new last more are_files files stood sure (inl saved) = record {
      last = last;
      standing = standing_later Q rests step next later new.folder last more
          (standing_saved Q rests step local makes operands next old new last are_files files sure saved stood);
      sure = rests_sure_saved rests makes step next old new last are_files saved sure;
      which = inl refl;
    }
    went_stands operands later old new last more are_files files stood sure (inr stands) =
        let within = is.rests_within (present new.folder) stands.goes_on in
        record {
          last = Some stands.goes_on.point;
          standing = stands_in makes operands later new.folder stands (is.goes_on (present new.folder)) within is.apart;
          sure = λ f n on mine. elim (stands.sure f n (within f n on)) [
            | inl operand ↦ absurd (files.apart f operand.0 mine)
            | inr made ↦ made.1
          ];
          which = inr (stands.goes_on, refl);
        }
