-- Numbers as options have them.
use Rattle.std.specs.Prelude.{ℕ, Bool, ◌&&◌, List, length, Option, Some, None, if◌then◌else◌, nat_lt, nat_le}
use Rattle.std.specs.Str.{all_ascii_digits}
use Rattle.std.specs.Str.Parse.{digits_value}

-- one to seven decimal digits
abbrev pub is_number : List ℕ → Bool
is_number word = nat_lt 0 (length word) && nat_le (length word) 7 && all_ascii_digits word

-- the number that the word is, from the least to the most
abbrev pub number_from : ℕ → ℕ → List ℕ → Option ℕ
number_from least most word =
    let n = digits_value 10 word in
    if is_number word && nat_le least n && nat_le n most then Some n else None
