-- A step that goes on does so from its last gated checkpoint, whatever its sweep: by that checkpoint and by what it
-- rests on alone.
use Rattle.std.specs.Prelude.{◌≡◌, ℕ, List, take}
use Rattle.std.proofs.Common.{◌∙◌, subst}
use Rattle.shelf_model.specs.declared.file_no.FileNo.{FileNo}
use Rattle.sweep_core.specs.declared.checkpoint.Checkpoint.{Checkpoint}
use Rattle.sweep_core.specs.Saving.{Saving, IsRestingPlace}
use Rattle.sweep_checkpoint.specs.Gated.{last_gated}
use Rattle.sweep_checkpoint.specs.Going.{GoesOn}
use Rattle.step_going.specs.Standing.{IsLastOf}
use Rattle.resumable.specs.Points.{IsFrom}
use Rattle.resumable.proofs.OnePoint.{one_last}

module _ {Task Job : Type 0} (saving : Saving Task Job) (sweep : ℕ) (rests : Checkpoint → FileNo → ℕ → Type 0) where
  -- what the sweeps of a kind say of their checkpoints: with the fronts that these rest on alone they stand for the
  -- same, and no sweep of the step writes that; and it is what is said of the step's checkpoints, too
  pub record AreLocal : Type 0 where
    pub stays : (c : Checkpoint) (text : List ℕ) (old new : FileNo → List ℕ) (job : Job) (turns : ℕ)
        → saving.fits c text → ((f : FileNo) (n : ℕ) → saving.rests c f n → take n (new f) ≡ take n (old f))
        → saving.stands c text old job turns → saving.stands c text new job turns
    pub apart : (c : Checkpoint) (text : List ℕ) (f : FileNo) (n : ℕ) → saving.fits c text → saving.rests c f n
        → IsRestingPlace c f
    pub said : (c : Checkpoint) (text : List ℕ) → c.sweep ≡ sweep → saving.fits c text → (f : FileNo) (n : ℕ)
        → saving.rests c f n → rests c f n
    pub told : (c : Checkpoint) (text : List ℕ) → c.sweep ≡ sweep → saving.fits c text → (f : FileNo) (n : ℕ)
        → rests c f n → saving.rests c f n

  module _ (laws : AreLocal) (number : ℕ) (task : Task) (job : Job) (turns : ℕ) where
    -- its checkpoint is the last gated one
    pub goes_last : (r : FileNo → List ℕ) (goes : GoesOn saving number sweep task job turns r)
        → IsLastOf number r goes.point
    goes_last r goes = record { last = goes.last; rules = goes.rules; words = goes.words }

    -- it rests on no file that a sweep of the step takes
    pub goes_apart : (r : FileNo → List ℕ) (goes : GoesOn saving number sweep task job turns r) (f : FileNo)
        (n : ℕ) → rests goes.point f n → IsRestingPlace goes.point f
    goes_apart r goes f n on = laws.apart goes.point (saving.text task) f n goes.fits
        (laws.told goes.point (saving.text task) goes.sweep_is goes.fits f n on)

    -- the step goes on in the same way where that checkpoint and the fronts that it rests on are the same
    abbrev pub goes_still : (c : Checkpoint) (old new : FileNo → List ℕ) → IsLastOf number old c
        → last_gated number new ≡ last_gated number old
        → ((f : FileNo) (n : ℕ) → rests c f n → take n (new f) ≡ take n (old f))
        → GoesOn saving number sweep task job turns old → GoesOn saving number sweep task job turns new
    goes_still c old new is last same goes =
        let one = one_last number old goes.point c (goes_last old goes) is in
        let text = saving.text task in
        record {
          point = goes.point;
          last = last ∙ goes.last;
          rules = goes.rules;
          sweep_is = goes.sweep_is;
          words = goes.words;
          names = goes.names;
          fits = goes.fits;
          left = goes.left;
          stands = laws.stays goes.point text old new job goes.left goes.fits
              (λ f n on. same f n (subst (λ p. rests p f n) one
              (laws.said goes.point text goes.sweep_is goes.fits f n on))) goes.stands;
          few = goes.few;
          paid = goes.paid;
        }

-- what it goes on from, for who rebuilds the sweep
module _ {Task Job : Type 0} (saving : Saving Task Job) (number sweep : ℕ) (task : Task) (job : Job) (turns : ℕ)
    (r : FileNo → List ℕ) where
  abbrev pub goes_from : (goes : GoesOn saving number sweep task job turns r)
      → IsFrom saving number sweep task job r goes.point
  goes_from goes = record {
    last = record { last = goes.last; rules = goes.rules; words = goes.words };
    sweep_is = goes.sweep_is;
    paid = goes.paid;
    names = goes.names;
    fits = goes.fits;
    left = goes.left;
    stands = goes.stands;
  }
