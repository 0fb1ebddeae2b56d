-- What the making of one file leaves of the folder.
use Rattle.std.specs.Prelude.{◌≡◌, ℕ, ◌+◌, ◌≤◌}
use Rattle.shelf_model.specs.declared.file_no.FileNo.{FileNo}
use Rattle.shelf_model.specs.Moments.{Ran, OnlyChanged}
use Rattle.shelf_model.specs.World.{World, now}

-- at each moment every file but this one was as before, and at most n calls were made
pub record Changed (n : ℕ) (f : FileNo) (old new : World) : Type 0 where
  pub run : Ran (OnlyChanged (λ q. q ≡ f) (now old)) old new
  pub few : new.clock ≤ old.clock + n
