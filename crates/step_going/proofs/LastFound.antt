-- A step of which the last gated checkpoint was found: it is safe meanwhile, and stands with what was found.
use Rattle.std.proofs.Common.{◌≡◌, ◌≢◌, ℕ, ◌*◌, ◌≤◌, List, [], length, refl, sym, ap, subst, ◌∙◌, inl, inr, arith}
use Rattle.std.specs.Prelude.{Option, Some, None}
use Rattle.std.proofs.lemmas.Bool.{cases_eq}
use Rattle.std.proofs.lemmas.Option.{none-some, same_Some}
use Rattle.shelf_model.specs.declared.file_no.FileNo.{FileNo}
use Rattle.shelf_model.specs.File.{File, firm_file}
use Rattle.shelf_model.specs.Folder.{Folder, Image, file_in, bytes_in, AreFiles}
use Rattle.shelf_model.specs.World.{Moment, World, now}
use Rattle.shelf_model.specs.Moments.{Throughout, Ran, Quiet}
use Rattle.shelf_model.proofs.Images.{chosen, bytes_in-chosen, standing_left, standing_image}
use Rattle.shelf_model.proofs.Runs.{weakens, ran_end}
use Rattle.file_numbers.specs.Files.{inner_part, checkpoint_file, checkpoint_gate}
use Rattle.run_tiers.specs.Syncs.{IsFirm}
use Rattle.sweep_core.specs.declared.checkpoint.Checkpoint.{Checkpoint}
use Rattle.sweep_core.specs.Saving.{IsRestingPlace}
use Rattle.sweep_checkpoint.specs.Points.{point_bytes}
use Rattle.sweep_checkpoint.specs.Rules.{IsPointOf}
use Rattle.sweep_checkpoint.specs.Gated.{present, last_gated}
use Rattle.sweep_checkpoint.specs.Loads.{Tells}
use Rattle.step_going.specs.Standing.{IsLastOf, AreSafe, IsFromLast, HasNone, StandsIn, IsStanding}
use Rattle.step_going.specs.Found.{IsFound, DuringFind}
use Rattle.step_going.proofs.Gated.{none_gated, gate_empty}
use Rattle.step_going.proofs.Telling.{told_point, all_there}

-- the part number from which on a sweep takes parts where this was found: the first one, or that of the checkpoint
abbrev pub next_of : Option Checkpoint → ℕ
next_of None = inner_part
next_of (Some c) = c.next_part

-- what the last checkpoint rests on of other steps is sure
abbrev pub OthersSure : (Checkpoint → FileNo → ℕ → Type 0) → ℕ → Folder → Option Checkpoint → Type 0
OthersSure rests step folder None = Unit
OthersSure rests step folder (Some c) = (f : FileNo) (n : ℕ) → rests c f n → f.step ≢ step → IsFirm (file_in folder f)

-- and stays so while it is found
pub others_sure : (rests : Checkpoint → FileNo → ℕ → Type 0) (step : ℕ) (old m : Moment) (last : Option Checkpoint) → DuringFind step old m
    → OthersSure rests step old.folder last → OthersSure rests step m.folder last
others_sure rests step old m None during sure = tt
others_sure rests step old m (Some c) during sure = λ f n is differ. subst IsFirm (sym (during.others f differ)) (sure f n is differ)

-- what a reading tells
none_told : (step : ℕ) (last : Option (List ℕ)) → Tells step last None → last ≡ None
none_told step None told = refl
none_told step (Some bytes) told = absurd told

-- the bytes that were told are that checkpoint
record IsTold (step : ℕ) (last : Option (List ℕ)) (c : Checkpoint) : Type 0 where
  bytes : List ℕ
  last_is : last ≡ Some bytes
  point : IsPointOf step bytes c

some_told : (step : ℕ) (last : Option (List ℕ)) (c : Checkpoint) → Tells step last (Some c) → IsTold step last c
some_told step None c told = absurd told
some_told step (Some bytes) c told = record { bytes = bytes; last_is = refl; point = told }

-- what is read of a folder is what an image has
read_left : (folder : Folder) → AreFiles folder → bytes_in (chosen (λ _ x. x.bytes) folder) ≡ present folder
read_left folder files = λ i f. bytes_in-chosen (λ _ x. x.bytes) folder f (standing_left (file_in folder f) (files f)) i

module _ (Q : (FileNo → List ℕ) → Type 0) (rests : Checkpoint → FileNo → ℕ → Type 0) (step : ℕ) where
  -- a safe folder goes on as it is read, where a checkpoint is gated
  pub goes_on_read : (folder : Folder) (bytes : List ℕ) → AreFiles folder → AreSafe Q step folder → last_gated step (present folder) ≡ Some bytes → Q (present folder)
  goes_on_read folder bytes files safe last =
      let image : Image = chosen (λ _ x. x.bytes) folder in
      let read : bytes_in image ≡ present folder = read_left folder files in
      elim (safe image (standing_image folder files)) [
        | inl empty ↦
            let none : last_gated step (present folder) ≡ None = none_gated step (present folder) (ap (λ (r : FileNo → List ℕ). r (checkpoint_gate step)) (sym read) ∙ empty) in
            absurd (none-some bytes (sym none ∙ last))
        | inr goes ↦ subst Q read goes
      ]

  -- while it is found, each image is one of before, and safe
  pub safe_found : (old m : Moment) → DuringFind step old m → AreSafe Q step old.folder → AreSafe Q step m.folder
  safe_found old m during safe image is_image = safe image (during.images image is_image)

  pub safe_while_found : (old new : World) → Ran (DuringFind step (now old)) old new → AreSafe Q step (now old).folder
      → Throughout old new (λ m. AreSafe Q step m.folder)
  safe_while_found old new run safe =
      weakens old new (Quiet (now old).said (DuringFind step (now old))) (λ m. AreSafe Q step m.folder)
      (λ m quiet. safe_found (now old) m quiet.holds safe) run.moments

  -- the checkpoint that was told is the one from which the step goes on
  found_last : (folder : Folder) (c : Checkpoint) → IsFromLast Q rests step → IsTold step (last_gated step (present folder)) c → Q (present folder)
      → IsLastOf step (present folder) c × ((f : FileNo) (n : ℕ) → rests c f n → IsRestingPlace c f)
  found_last folder c from told goes =
      let its = from (present folder) goes in
      let d : Checkpoint = its.0 in
      let last : IsLastOf step (present folder) d = its.1 in
      let whole : told.bytes ≡ point_bytes d = same_Some told.bytes (point_bytes d) (sym told.last_is ∙ last.last) in
      let same : d ≡ c = told_point step told.bytes d c whole last.words told.point in
      subst (λ (p : Checkpoint). IsLastOf step (present folder) p × ((f : FileNo) (n : ℕ) → rests p f n → IsRestingPlace p f)) same (last, its.2)

  -- where nothing was found, none is gated
  none_found : (folder : Folder) → IsFound step folder None → HasNone step folder
  none_found folder found =
      let empty : present folder (checkpoint_gate step) ≡ [] = gate_empty step (present folder) (none_told step (last_gated step (present folder)) found.last) in
      found.gate ∙ ap firm_file empty

  -- where a checkpoint was found, the step stands with it
  some_found : (folder : Folder) (c : Checkpoint) → IsFromLast Q rests step → AreFiles folder → AreSafe Q step folder → IsFound step folder (Some c)
      → OthersSure rests step folder (Some c) → StandsIn Q rests step c.next_part folder c
  some_found folder c from files safe found others =
      let told : IsTold step (last_gated step (present folder)) c = some_told step (last_gated step (present folder)) c found.last in
      let goes : Q (present folder) = goes_on_read folder told.bytes files safe told.last_is in
      let last : IsLastOf step (present folder) c × ((f : FileNo) (n : ℕ) → rests c f n → IsRestingPlace c f) = found_last folder c from told goes in
      record {
        last = last.0;
        goes_on = goes;
        gate = found.gate;
        points = subst (λ k. 16384 * length (present folder (checkpoint_gate step)) ≤ k) (ap (λ (x : File). x.firm) (sym found.secured.points))
            (all_there (length (present folder (checkpoint_gate step))) (present folder (checkpoint_file step)) told.bytes told.last_is told.point.whole);
        sure = λ f n is. elim (cases_eq f.step step) [
          | inl here ↦ inl (found.secured.rests f here (last.1 f n is))
          | inr differ ↦ inl (others f n is differ)
        ];
        apart = last.1;
        taken = omega arith;
      }

  -- so it stands with what was found
  pub standing_found : (folder : Folder) (found : Option Checkpoint) → IsFromLast Q rests step → AreFiles folder → AreSafe Q step folder
      → IsFound step folder found → OthersSure rests step folder found → IsStanding Q rests step (next_of found) folder found
  standing_found folder None from files safe is others = none_found folder is
  standing_found folder (Some c) from files safe is others = some_found folder c from files safe is others

  -- the same from the moment at which the search began
  pub standing_searched : (old new : World) (found : Option Checkpoint) → IsFromLast Q rests step → AreFiles (now new).folder
      → AreSafe Q step (now old).folder → Ran (DuringFind step (now old)) old new → IsFound step (now new).folder found
      → OthersSure rests step (now old).folder found → IsStanding Q rests step (next_of found) (now new).folder found
  standing_searched old new found from files safe run is others =
      let during : DuringFind step (now old) (now new) = ran_end old new (DuringFind step (now old)) run in
      standing_found (now new).folder found from files (safe_found (now old) (now new) during safe) is (others_sure rests step (now old) (now new) found during others)
