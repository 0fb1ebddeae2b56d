-- What a stop in the middle of a step costs, in calls beyond those for turns that it leaves shown.
use Rattle.std.specs.Prelude.{◌≡◌, ◌⊎◌, ℕ, ◌+◌, ◌-◌, ◌*◌, ◌^◌, ◌≤◌, Option}
use Rattle.sweep_core.specs.declared.checkpoint.Checkpoint.{Checkpoint}
use Rattle.sweep_checkpoint.specs.Going.{interval_of, first_owed}
use Rattle.sweep_checkpoint.specs.declared.going.Going.{Going}
pub use Rattle.sweep_checkpoint.specs.Stops.{shown_by}

-- the sweep that makes a step's arcs: 224 for each turn of an interval, what saving takes, and what beginning takes
abbrev pub arcs_stop : ℕ
arcs_stop = 224 * 65536 + 2 ^ 17 + 8

-- the reduction of the arcs by a sweep: the parts that a save may have to cut, 224 for each turn that is left of the
-- interval, what saving takes, and what beginning takes
abbrev pub sweep_stop : Going → ℕ → ℕ
sweep_stop going next = (next - first_owed going.last next)
    + 224 * (interval_of going.budget - (going.turns - going.shown)) + 2 ^ 17 + 2 ^ 10

-- the same with what the room takes that may have reduced few arcs
abbrev pub reduce_stop : Going → ℕ → ℕ
reduce_stop going next = sweep_stop going next + 2 ^ 19

-- both sweeps together, and the whole step but for the two calls that find that it begins anew
abbrev pub sweeps_stop : ℕ
sweeps_stop = 2 ^ 24 - 2 ^ 20

abbrev pub step_stop : ℕ
step_stop = 2 ^ 24 - 2

-- the last checkpoint is that of before, and as much is said to be shown; or it shows what is said now
abbrev pub IsSaidOf : Going → Going → Option Checkpoint → Type 0
IsSaidOf old new last = ((last ≡ old.last) × (new.shown ≡ old.shown))
    ⊎ ((old.shown ≤ new.shown) × (shown_by last ≡ new.shown))
