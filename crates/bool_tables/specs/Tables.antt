-- truth tables: a table of n variables has one value for each of the 2 ^ n places, and the n binary digits of a place
-- are the values of the variables
use Rattle.std.specs.Prelude.{ℕ, ◌+◌, ◌-◌, ◌/◌, ◌%◌, ◌^◌, ◌==◌, Bool, true, false, cond, not, ◌&&◌, List, [], ◌∷◌, length, get_or, take, drop, map}
use Rattle.std.specs.List.{range_with_len}

-- the first half of a table of one variable more than h: the first variable is 0 there
abbrev pub low_half : ℕ → List Bool → List Bool
low_half h t = take (2 ^ h) t

-- its second half: the first variable is 1 there
abbrev pub high_half : ℕ → List Bool → List Bool
high_half h t = drop (2 ^ h) t

-- the half in which the first variable has that value
abbrev pub half_where : ℕ → Bool → List Bool → List Bool
half_where h value t = cond value (high_half h t) (low_half h t)

-- the value at a place
abbrev pub value_at : List Bool → ℕ → Bool
value_at t place = get_or t place false

-- the table of n variables with the given value at each place
abbrev pub table_with : ℕ → (ℕ → Bool) → List Bool
table_with n value = map value (range_with_len 0 (2 ^ n))

-- what the digit of a level counts for, where level 0 is the most significant of n digits
abbrev pub weight : ℕ → ℕ → ℕ
weight n level = 2 ^ (n - 1 - level)

-- the digit of a level in a place of n digits
abbrev pub digit : ℕ → ℕ → ℕ → Bool
digit n level place = (place / weight n level) % 2 == 1

-- the place in which that digit has the given value, and each other digit is as before
abbrev pub with_digit : ℕ → ℕ → Bool → ℕ → ℕ
with_digit n level value place =
    cond (digit n level place) (place - weight n level) place + cond value (weight n level) 0

-- the place that the digits spell, the first of which is the most significant
abbrev pub place_of_bits : List Bool → ℕ
place_of_bits [] = 0
place_of_bits (b ∷ bits) = cond b (2 ^ length bits) 0 + place_of_bits bits

-- the two values are the same
abbrev pub same_bit : Bool → Bool → Bool
same_bit true b = b
same_bit false b = not b

-- the two tables are the same
abbrev pub same_bits : List Bool → List Bool → Bool
same_bits [] [] = true
same_bits [] (y ∷ ys) = false
same_bits (x ∷ xs) [] = false
same_bits (x ∷ xs) (y ∷ ys) = same_bit x y && same_bits xs ys

-- at no place is the left table 1 and the right one 0
abbrev pub is_leq : List Bool → List Bool → Bool
is_leq [] ys = true
is_leq (x ∷ xs) [] = not x && is_leq xs []
is_leq (x ∷ xs) (y ∷ ys) = not (x && not y) && is_leq xs ys
