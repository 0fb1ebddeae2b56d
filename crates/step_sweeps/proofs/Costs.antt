-- What saves of a sweep cost, and when the part numbers of a step that makes a diagram run out.
use Rattle.std.proofs.Common.{ℕ, ◌+◌, ◌-◌, ◌*◌, ◌^◌, ◌<◌, ◌≤◌, max, mul-le-mul_right, arith}

-- saves are as many as intervals at most
pub few_saves : (interval saves shown most : ℕ) → 16384 ≤ interval → interval * saves + shown ≤ most
    → 16384 * saves + shown ≤ most
few_saves interval saves shown most long within =
    let less : 16384 * saves ≤ interval * saves = mul-le-mul_right saves long in
    omega (arith, less, within)

-- where no part number is left, many turns were made
pub spent_turns : (turns shown left saves next last stock later work : ℕ) → shown ≤ turns
    → 256 * next + stock ≤ 131072 + 16 * shown + 12 * (turns - shown) + 60928
    → 16384 * saves + shown ≤ max shown (turns + left)
    → 256 * (last - next) + later ≤ stock + (12 * (left + 1) + 4608 * saves) → turns + left < work → 2 ^ 32 ≤ last
    → 2 ^ 35 ≤ work
spent_turns turns shown left saves next last stock later work late paid few takes within spent =
    omega (arith, late, paid, few, takes, within, spent)
