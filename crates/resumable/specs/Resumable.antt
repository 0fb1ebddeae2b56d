-- When an image may be gone on from in the middle of a step. It is taken by its reading, the bytes of each file.
use Rattle.std.specs.Prelude.{◌≡◌, ℕ, ◌<◌, ◌≤◌, List, [], length, take}
use Rattle.bool_tables.specs.declared.steps.Planned.{Planned}
use Rattle.shelf_model.specs.declared.file_no.FileNo.{FileNo}
use Rattle.file_numbers.specs.Files.{checkpoint_gate}
use Rattle.sweep_core.specs.declared.checkpoint.Checkpoint.{Checkpoint}
use Rattle.sweep_checkpoint.specs.Gated.{last_gated}
use Rattle.step_going.specs.Standing.{IsLastOf, IsSafe}
use Rattle.step_work.specs.Plans.{step_at}
use Rattle.resumable.specs.Kinds.{StepGoesOn, RestsOn}

-- no step of the plan behind step j has a gated checkpoint. Of a number that no step has nothing is said: the job's own
-- files have one
abbrev pub NoneBehind : List Planned → ℕ → (FileNo → List ℕ) → Type 0
NoneBehind steps j r = (k : ℕ) → j < k → k < length steps → r (checkpoint_gate k) ≡ []

-- step j of the plan goes on from its last gated checkpoint
abbrev pub GoesOnAt : ℕ → List ℕ → List Planned → ℕ → (FileNo → List ℕ) → Type 0
GoesOnAt n text steps j r = StepGoesOn n text steps j (step_at steps j) r

-- it does, or it has none
abbrev pub StartsOrGoesOn : ℕ → List ℕ → List Planned → ℕ → (FileNo → List ℕ) → Type 0
StartsOrGoesOn n text steps j r = IsSafe (GoesOnAt n text steps j) j r

-- where j steps of the plan are committed, the job can be gone on with
pub record IsResumable (n : ℕ) (text : List ℕ) (steps : List Planned) (j : ℕ) (r : FileNo → List ℕ)
    : Type 0 where
  pub behind : NoneBehind steps j r
  pub this_step : j < length steps → StartsOrGoesOn n text steps j r

-- neither step j of the plan nor one behind it has a gated checkpoint
abbrev pub HasNone : List Planned → ℕ → (FileNo → List ℕ) → Type 0
HasNone steps j r = (k : ℕ) → j ≤ k → k < length steps → r (checkpoint_gate k) ≡ []

-- another reading has the same gates from step j on, the same last gated checkpoint of step j, and the same fronts of
-- all files on which that rests
pub record ShowsTheSame (steps : List Planned) (j : ℕ) (old new : FileNo → List ℕ) : Type 0 where
  pub gates : (k : ℕ) → j ≤ k → k < length steps → new (checkpoint_gate k) ≡ old (checkpoint_gate k)
  pub last : last_gated j new ≡ last_gated j old
  pub fronts : (c : Checkpoint) → IsLastOf j old c → (f : FileNo) (many : ℕ)
      → RestsOn (step_at steps j) c f many → take many (new f) ≡ take many (old f)
