-- What is true of each file in memory.
use Rattle.std.specs.Prelude.{ℕ, ◌≤◌, List, length}
use Rattle.shelf_model.specs.Calls.{longest}

-- what is sure lies within the bytes, the bytes within what a stop may leave, and that is no more than a file may have
pub record IsStored (bytes : List ℕ) (firm reach : ℕ) : Type 0 where
  pub firm_within : firm ≤ length bytes
  pub reach_beyond : length bytes ≤ reach
  pub bounded : reach ≤ longest
