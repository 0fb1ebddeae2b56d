-- What the turns and the saves of a question's sweep cost together, in calls of the folder and in parts.
use Rattle.std.proofs.Common.{◌≡◌, ℕ, ◌+◌, ◌-◌, ◌*◌, ◌/◌, ◌^◌, ◌<◌, ◌≤◌, inl, inr, arith}
use Rattle.std.proofs.lemmas.Bool.{cases_lt}
use Rattle.step_sweeps.specs.Made.{IsCounted, FewAnew}

-- what a sweep's turns and saves take of its parts
abbrev pub TakesOf : ℕ → ℕ → ℕ → ℕ → ℕ → ℕ → Type 0
TakesOf turns saves next last stock later = 256 * (last - next) + later ≤ stock + (12 * turns + 4608 * saves)

-- the calls of a beginning, of so many turns and of so many saves, and one for each part that has to be cut
pub calls_of : (turns saves first next last stock later credit left start : ℕ) (old mid new : ℕ)
    → mid + (credit + stock / 256) ≤ old + start
    → new + left ≤ mid + credit + (224 * turns + 66126 * saves + (last - first))
    → TakesOf turns saves next last stock later → next ≤ first → 16384 * saves ≤ turns
    → new ≤ old + (229 * turns + start)
calls_of turns saves first next last stock later credit left start old mid new begun paid takes owed few =
    omega (arith, begun, paid, takes, owed, few)

-- where no part number is left, many turns were made
pub spent_of : (turns made saves next last stock later work : ℕ) → 256 * next + stock ≤ 192000 + 16 * turns
    → TakesOf (made + 1) saves next last stock later → 16384 * saves ≤ made → turns + made < work → 2 ^ 32 ≤ last
    → 2 ^ 35 ≤ work
spent_of turns made saves next last stock later work paid takes few within spent =
    omega (arith, paid, takes, few, within, spent)

-- few parts were taken for the turns
pub counted_of : (turns next stock : ℕ) → 0 < turns → 3 ≤ next → next ≤ 2 ^ 32
    → (turns < 2 ^ 64 - 1 → 256 * next + stock ≤ 192000 + 16 * turns) → IsCounted turns next
counted_of turns next stock some from below paid = record {
  some = some;
  from = from;
  below = below;
  few = elim (cases_lt turns (2 ^ 64 - 1)) [
    | inl few ↦ (let parts = paid few in omega (arith, parts))
    | inr many ↦ omega (arith, many, below)
  ];
}

-- and fewer where none was taken before
pub few_anew_of : (turns before next first last stock later : ℕ) → first ≤ 5 → stock ≡ 0 → next ≤ last → next ≤ 2 ^ 32
    → (turns < 2 ^ 64 - 1 → (saves : ℕ) × (16384 * saves ≤ turns)
    × TakesOf (turns - before) saves first last stock later) → FewAnew turns next
few_anew_of turns before next first last stock later from none within below takes = elim (cases_lt turns (2 ^ 64 - 1)) [
  | inl few ↦
      let its = takes few in
      let saves = its.1 in
      let parts = its.2 in
      omega (arith, from, none, within, saves, parts)
  | inr many ↦ omega (arith, many, below)
]
