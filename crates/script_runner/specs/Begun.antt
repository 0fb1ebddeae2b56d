-- What is known of a run as its job is attached.
use Rattle.std.specs.Prelude.{◌≡◌, ℕ, ◌<◌, true, false}
use Rattle.shelf_model.specs.Folder.{Folder}
use Rattle.script_runner.specs.declared.begin.Begun.{Begun}
use Rattle.script_runner.specs.Calls.{IsGated}

-- whether something is gated of the first step that isn't committed: that was asked where a job was stored before
pub record IsAsked (b : Begun) (steps : ℕ) (folder : Folder) : Type 0 where
  pub anew : b.standing.fresh ≡ true → b.gone_on ≡ false
  pub asked : b.standing.fresh ≡ false → b.standing.done < steps → IsGated b.gone_on b.standing.done folder
