-- What a step leaves behind that went on from a checkpoint, of which what its turns left before is no part.
use Rattle.std.specs.Prelude.{◌≡◌, ◌⊎◌, ℕ, ◌+◌, ◌<◌, ◌≤◌, List, Option, Some, None}
use Rattle.shelf_model.specs.declared.file_no.FileNo.{FileNo}
use Rattle.file_numbers.specs.Files.{first_run_part}
use Rattle.sweep_core.specs.declared.checkpoint.Checkpoint.{Checkpoint}
use Rattle.sweep_checkpoint.specs.Gated.{last_gated}
use Rattle.sweep_checkpoint.specs.Loads.{Tells}
use Rattle.sweep_checkpoint.specs.Retires.{Names}
use Rattle.sound_image.specs.Steps.{IsBehind}

-- the checkpoint that the last gated bytes of the step are, or none where they are none or nothing is gated
abbrev pub IsLastPoint : ℕ → (FileNo → List ℕ) → Option Checkpoint → Type 0
IsLastPoint number r None = (c : Checkpoint) → ¬ (Tells number (last_gated number r) (Some c))
IsLastPoint number r (Some c) = Tells number (last_gated number r) (Some c)

-- that checkpoint names the part
abbrev pub NamedBy : Option Checkpoint → ℕ → Type 0
NamedBy None part = ⊥
NamedBy (Some c) part = Names c part

-- of the parts that the step took no more than so many are cut, the last ones
abbrev pub most_cut : ℕ
most_cut = 65536

-- a file that a step with that next part leaves behind: its checkpoints, their gate and its arcs, the runs that its
-- last checkpoint names, and the last parts that it took
pub record IsLeftBehind (number next : ℕ) (last : Option Checkpoint) (f : FileNo) : Type 0 where
  pub behind : IsBehind number next f
  pub which : (f.part < first_run_part) ⊎ NamedBy last f.part ⊎ (next ≤ f.part + most_cut)

-- a run of the step whose part is one of these, below that one
pub record IsRunOf (number until : ℕ) (these : ℕ → Type 0) (f : FileNo) : Type 0 where
  pub step_is : f.step ≡ number
  pub from : first_run_part ≤ f.part
  pub below : f.part < until
  pub one_of : these f.part
