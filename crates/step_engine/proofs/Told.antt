-- A checkpoint that was told stands gated.
use Rattle.std.proofs.Common.{◌≡◌, ◌≢◌, ◌∙◌, ℕ, List, [], ◌∷◌, length, refl, sym}
use Rattle.std.specs.Prelude.{Option, Some, None}
use Rattle.std.proofs.lemmas.Option.{none-some}
use Rattle.shelf_model.specs.declared.file_no.FileNo.{FileNo}
use Rattle.sweep_core.specs.declared.checkpoint.Checkpoint.{Checkpoint}
use Rattle.sweep_checkpoint.specs.Rules.{IsPointOf}
use Rattle.sweep_checkpoint.specs.Gated.{last_of, last_gated}
use Rattle.sweep_checkpoint.specs.Loads.{Tells}
use Rattle.step_going.proofs.Gated.{none_gated}
use Rattle.sound_image.specs.Files.{checkpoint_gate}
use Rattle.file_numbers.specs.Files.{checkpoint_file}

-- where a checkpoint was told, bytes are gated, and it is what they are
pub record IsTold (number : ℕ) (last : Option (List ℕ)) (c : Checkpoint) : Type 0 where
  pub bytes : List ℕ
  pub last_is : last ≡ Some bytes
  pub point : IsPointOf number bytes c

pub is_told : (number : ℕ) (last : Option (List ℕ)) (c : Checkpoint) → Tells number last (Some c) → IsTold number last c
is_told number None c told = absurd told
is_told number (Some bytes) c told = record { bytes = bytes; last_is = refl; point = told }

empty_gate : (number : ℕ) (gate points : List ℕ) → Tells number (last_of (length gate) points) None → gate ≡ []
empty_gate number [] points told = refl
empty_gate number (x ∷ gate) points told = absurd told

-- where bytes are gated, the gate isn't empty
pub gate_filled : (number : ℕ) (r : FileNo → List ℕ) (bytes : List ℕ) → last_gated number r ≡ Some bytes → r (checkpoint_gate number) ≢ []
gate_filled number r bytes last empty = none-some bytes (sym (none_gated number r empty) ∙ last)

-- and where none was told, it is empty
pub gate_empty : (number : ℕ) (r : FileNo → List ℕ) → Tells number (last_gated number r) None
    → r (checkpoint_gate number) ≡ []
gate_empty number r told = empty_gate number (r (checkpoint_gate number)) (r (checkpoint_file number)) told
