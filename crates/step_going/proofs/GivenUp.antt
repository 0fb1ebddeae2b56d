-- A step of which it is given up what a stopped life lost: it stands as before, and each image is safe meanwhile.
use Rattle.std.proofs.Common.{ℕ, List, sym, ◌∙◌, arith}
use Rattle.std.specs.Prelude.{Some}
use Rattle.shelf_model.specs.declared.file_no.FileNo.{FileNo}
use Rattle.shelf_model.specs.World.{World, now}
use Rattle.shelf_model.specs.Moments.{Throughout, Ran, OnlyChanged}
use Rattle.file_numbers.specs.Files.{checkpoint_file, checkpoint_gate}
use Rattle.sweep_core.specs.declared.checkpoint.Checkpoint.{Checkpoint}
use Rattle.step_going.specs.Lost.{IsLost}
use Rattle.step_going.specs.Standing.{IsLocal, AreSafe, StandsIn}
use Rattle.step_going.proofs.Kept.{RestsApart, safe_over, standing_over}

module _ (Q : (FileNo → List ℕ) → Type 0) (rests : Checkpoint → FileNo → ℕ → Type 0) (step : ℕ) (local : IsLocal Q rests step) (c : Checkpoint)
    (old new : World) (run : Ran (OnlyChanged (IsLost step c.next_part) (now old)) old new)
    (stood : StandsIn Q rests step c.next_part (now old).folder c) where
  -- the checkpoints and their gate aren't among what was lost, nor is anything on which the last one rests
  gate_apart : ¬ (IsLost step c.next_part (checkpoint_gate step))
  gate_apart lost = let from = lost.from in let parts = stood.last.rules.parts.0 in absurd (omega (arith, from, parts))

  points_apart : ¬ (IsLost step c.next_part (checkpoint_file step))
  points_apart lost = let from = lost.from in let parts = stood.last.rules.parts.0 in absurd (omega (arith, from, parts))

  rest_apart : RestsApart rests (IsLost step c.next_part) step (Some c)
  rest_apart = (
    points_apart,
    λ f n is lost. (stood.apart f n is).taken (record { step_is = lost.step_is ∙ sym stood.last.rules.step_is; from = lost.from }),
  )

  pub standing_lost : StandsIn Q rests step c.next_part (now new).folder c
  standing_lost = standing_over Q rests step local (IsLost step c.next_part) c.next_part (Some c) gate_apart rest_apart old new run stood

  pub safe_lost : Throughout old new (λ m. AreSafe Q step m.folder)
  safe_lost = safe_over Q rests step local (IsLost step c.next_part) c.next_part (Some c) gate_apart rest_apart old new run stood
