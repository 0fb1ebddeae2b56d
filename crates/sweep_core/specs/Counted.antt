-- What so many turns cost.
use Rattle.std.specs.Prelude.{◌≡◌, ℕ, ◌+◌, ◌-◌, ◌*◌, ◌<◌, ◌≤◌, Bool, IsTrue, Result, Ok, Err}
use Rattle.shelf_model.specs.declared.sort_fault.SortFault.{SortFault}
use Rattle.shelf_model.specs.World.{World}
use Rattle.run_tiers.specs.Parts.{Paid}
use Rattle.sweep_core.specs.declared.turn.Turn.{Turn}
use Rattle.sweep_core.specs.declared.turn.Turn.TheVariants.{More, Ended}
use Rattle.sweep_core.specs.declared.driver.Made.{Made}
use Rattle.sweep_core.specs.Accounts.{Accounts}

-- so many turns cost 224 calls of the folder each, and 12 of the 256 that a part is paid with
pub record Costs {S P : Type 0} (tells : S → Bool) (world : S → World) (accounts : Accounts P) (turns : ℕ)
    (before after : S) (old new : P) : Type 0 where
  pub calls : IsTrue (tells after) → Paid (224 * turns) (accounts.credit old) (accounts.credit new) (world before)
      (world after)
  pub spent : 256 * (accounts.next new - accounts.next old) + accounts.stock new ≤ accounts.stock old + 12 * turns

-- so many turns were made: all of them where none ended the sweep, and at least one where one did
abbrev pub AreAll : ℕ → ℕ → Turn → Type 0
AreAll most turns More = turns ≡ most
AreAll most turns Ended = (0 < turns) × (turns ≤ most)

abbrev pub WereMade : ℕ → Made → Type 0
WereMade most made = AreAll most made.turns made.turn

-- each turn but the one that ended the sweep left at least one less, and that one left none
abbrev pub Fell : ℕ → ℕ → ℕ → Turn → Type 0
Fell old new turns More = new + turns ≤ old
Fell old new turns Ended = (new ≡ 0) × (turns ≤ old + 1)

abbrev pub MadeOf : ℕ → ℕ → Made → Type 0
MadeOf old new made = Fell old new made.turns made.turn

-- how the last turn ended
abbrev pub turn_of : Result Made SortFault → Result Turn SortFault
turn_of (Ok made) = Ok made.turn
turn_of (Err e) = Err e
