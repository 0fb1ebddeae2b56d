-- Which checkpoint of a step counts. A folder and an image are taken by the bytes of each file.
use Rattle.std.specs.Prelude.{ℕ, zero, suc, ◌*◌, ◌-◌, List, length, take, drop, Option, Some, None}
use Rattle.shelf_model.specs.declared.file_no.FileNo.{FileNo}
pub use Rattle.file_writes.specs.Present.{present}
use Rattle.file_numbers.specs.Files.{checkpoint_file, checkpoint_gate}
use Rattle.sweep_checkpoint.specs.Points.{point_size}

-- how many checkpoints of the step are gated
abbrev pub gated_count : ℕ → (FileNo → List ℕ) → ℕ
gated_count step r = length (r (checkpoint_gate step))

-- the last of the first n checkpoints, or fewer bytes where the file ends
abbrev pub last_of : ℕ → List ℕ → Option (List ℕ)
last_of zero bytes = None
last_of (suc n) bytes = Some (take point_size (drop (point_size * n) bytes))

-- the bytes of the last checkpoint of the step that is gated
abbrev pub last_gated : ℕ → (FileNo → List ℕ) → Option (List ℕ)
last_gated step r = last_of (gated_count step r) (r (checkpoint_file step))

-- where it stands in its file
abbrev pub gated_place : ℕ → (FileNo → List ℕ) → ℕ
gated_place step r = point_size * (gated_count step r - 1)
