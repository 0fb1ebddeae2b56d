-- powers of two up to a million
use Rattle.std.specs.Prelude.{◌≡◌, ℕ, ◌*◌, ◌%◌, ◌^◌, ◌≤◌}
use Rattle.std.proofs.Common.{arith}
use Rattle.std.proofs.Math.Nat.{pow-le-pow_right}
use Rattle.std.proofs.lemmas.Nat.{one_shl}

-- what a shift gives
pub shifted : (k : ℕ) → k ≤ 20 → (1 * 2 ^ k) % 2 ^ 64 ≡ 2 ^ k
shifted k b = one_shl k 64 (omega arith)

pub power_small : (k : ℕ) → k ≤ 20 → 2 ^ k ≤ 2 ^ 20
power_small k b = pow-le-pow_right (omega arith) b
