-- How two numbers stand to each other.
use Rattle.std.proofs.Common.{◌≡◌, ◌≢◌, ℕ, ◌<◌, ◌≤◌, Bool, true, false, refl, arith}
use Rattle.std.specs.Prelude.{◌==◌, nat_lt}
use Rattle.std.proofs.lemmas.Bool.{ltb-true, ltb-false, eqb-true, eqb-false}

-- a number is before another, the same, or behind it
pub data Order (a b : ℕ) : Type 0 where
  Before : a < b → Order a b
  Same : a ≡ b → Order a b
  Behind : b < a → Order a b

pub order : (a b : ℕ) → Order a b
order a b = by (nat_lt a b) (a == b) refl refl
  where
    by : (c d : Bool) → nat_lt a b ≡ c → (a == b) ≡ d → Order a b
    by true d less same = Before (ltb-true a b less)
    by false true less same = Same (eqb-true a b same)
    by false false less same =
        let from : b ≤ a = ltb-false a b less in
        let other : a ≢ b = eqb-false a b same in
        Behind (omega (arith, from, other))
