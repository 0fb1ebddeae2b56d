-- What a life that was stopped may have lost of a step: the parts that it took behind the checkpoint with which the
-- step goes on.
use Rattle.std.specs.Prelude.{◌≡◌, ℕ, ◌+◌, ◌<◌, ◌≤◌}
use Rattle.shelf_model.specs.declared.file_no.FileNo.{FileNo}

-- no fewer than the parts that are taken between two checkpoints: each is paid with 256, of which 65,536 turns take 12
-- a turn and a save 4,608, and earlier turns may have paid for 198
abbrev pub most_lost : ℕ
most_lost = 3300

-- a file of the step, of one of so many parts from the next one on
pub record IsLost (step next : ℕ) (f : FileNo) : Type 0 where
  pub step_is : f.step ≡ step
  pub from : next ≤ f.part
  pub until : f.part < next + most_lost
