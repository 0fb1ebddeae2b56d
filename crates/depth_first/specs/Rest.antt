-- Walks that are over.
use Rattle.std.specs.Prelude.{◌≡◌, ◌<◌, [], length, replicate}
use Rattle.depth_first.specs.declared.state.State.TheVariants.{New}
use Rattle.depth_first.specs.declared.walk.Walk.{Walk}

-- no walk is under way: every node is new
pub record IsAtRest (w : Walk) : Type 0 where
  pub states : w.states.items ≡ replicate (length w.states.items) New
  pub stack : w.stack.items ≡ []
  pub few : length w.states.items < 4294967294
