-- What is sure, and what is there, where a step stands.
use Rattle.std.proofs.Common.{◌≡◌, ℕ, ◌≤◌, List, length, ap, sym, subst, refl, arith}
use Rattle.std.specs.Prelude.{Option, Some, None}
use Rattle.shelf_model.specs.declared.file_no.FileNo.{FileNo}
use Rattle.shelf_model.specs.File.{File}
use Rattle.shelf_model.specs.Folder.{Folder, AreFiles, file_in}
use Rattle.file_numbers.specs.Files.{checkpoint_file, checkpoint_gate}
use Rattle.run_tiers.specs.Syncs.{IsFirm}
use Rattle.step_going.specs.Standing.{IsStanding}
use Rattle.step_going.proofs.Safe.{RestsSure}
use Rattle.sweep_checkpoint.specs.Saves.{gated_size, IsGateSure}
use Rattle.sweep_core.specs.declared.checkpoint.Checkpoint.{Checkpoint}

module _ (Q : (FileNo → List ℕ) → Type 0) (rests : Checkpoint → FileNo → ℕ → Type 0) (step next : ℕ) where
  -- where a step stands its gate is sure
  pub gate_sure : (folder : Folder) (last : Option Checkpoint) → IsStanding Q rests step next folder last
      → IsGateSure step folder
  gate_sure folder None none = subst IsFirm (sym none) refl
  gate_sure folder (Some c) s = s.gate

  -- and all that it counts is there
  pub points_there : (folder : Folder) (last : Option Checkpoint) → AreFiles folder
      → IsStanding Q rests step next folder last
      → gated_size step folder ≤ length (file_in folder (checkpoint_file step)).bytes
  points_there folder None files none =
      let empty : length (file_in folder (checkpoint_gate step)).bytes ≡ 0 = ap (λ (x : File). length x.bytes) none in
      omega (arith, empty)
  points_there folder (Some c) files s =
      let within = (files (checkpoint_file step)).firm_within in
      let points = s.points in
      omega (arith, within, points)

-- what is sure of the files that a sweep makes
pub rests_sure : (rests : Checkpoint → FileNo → ℕ → Type 0) (makes : FileNo → Type 0) (folder : Folder)
    (last : Option Checkpoint)
    → ((c : Checkpoint) → last ≡ Some c → (f : FileNo) (n : ℕ) → rests c f n → makes f → n ≤ (file_in folder f).firm)
    → RestsSure rests makes folder last
rests_sure rests makes folder None sure = tt
rests_sure rests makes folder (Some c) sure = sure c refl
