-- What the turns of a sweep do.
use Rattle.std.specs.Prelude.{◌≡◌, ℕ, ◌+◌, ◌<◌, ◌≤◌, Result, Ok, Err}
use Rattle.shelf_model.specs.declared.sort_fault.SortFault.{SortFault}
use Rattle.shelf_model.specs.declared.sort_fault.SortFault.TheVariants.{Shelf, Damaged, RunsSpent}
pub use Rattle.run_tiers.specs.Syncs.{IsFirm}
use Rattle.sweep_core.specs.declared.turn.Turn.{Turn}
use Rattle.sweep_core.specs.declared.turn.Turn.TheVariants.{More, Ended}

-- a turn leaves less fuel, and none where the sweep has ended, and there alone
abbrev pub Falls : ℕ → ℕ → Result Turn SortFault → Type 0
Falls old new (Ok More) = (0 < new) × (new < old)
Falls old new (Ok Ended) = new ≡ 0
Falls old new (Err e) = Unit

-- exactly so many turns were made and the sweep hasn't ended, or one of them ended it
abbrev pub MovesOn : ℕ → ℕ → ℕ → Result Turn SortFault → Type 0
MovesOn turns old new (Ok More) = new + turns ≤ old
MovesOn turns old new (Ok Ended) = new ≡ 0
MovesOn turns old new (Err e) = Unit

-- where the sweep has ended, P holds
abbrev pub AtEnd : Result Turn SortFault → Type 0 → Type 0
AtEnd (Ok More) P = Unit
AtEnd (Ok Ended) P = P
AtEnd (Err e) P = Unit

-- a sweep that had ended answers so, and it and the station are as they were
pub record StaysEnded {S P : Type 0} (before after : S) (old new : P) (result : Result Turn SortFault) : Type 0 where
  pub result_is : result ≡ Ok Ended
  pub sweep_is : new ≡ old
  pub station_is : after ≡ before

-- no file is said to be damaged
abbrev pub IsNoDamage : SortFault → Type 0
IsNoDamage Shelf = Unit
IsNoDamage (Damaged f at) = ⊥
IsNoDamage RunsSpent = Unit
