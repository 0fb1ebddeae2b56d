-- A station that tells nothing of its content.
use Rattle.std.specs.Prelude.{ℕ, [], false, None}
use Rattle.std.specs.FinMap.{empty}
use Rattle.shelf_model.specs.World.{World}

-- the content of a station that tells none: it is never claimed
pub nothing : World
nothing = record {
  clock = 0;
  moment = λ k. record { folder = empty; said = [] };
  texts = λ path. None;
  home = [];
  inside = false;
  strays = 0;
}
