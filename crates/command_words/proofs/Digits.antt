-- Numbers of decimal digits.
use Rattle.std.proofs.Common.{◌≡◌, ◌∙◌, ℕ, ◌<◌, ◌≤◌, true, List, [], ◌∷◌, length, refl, ap, arith}
use Rattle.std.specs.Prelude.{◌&&◌, Option, Result, Ok, Err, Some, None, nat_le, if◌then◌else◌}
use Rattle.std.specs.Char.{is_ascii_digit}
use Rattle.std.specs.List.{list_all}
use Rattle.std.specs.Str.{all_ascii_digits}
use Rattle.std.specs.Str.Parse.{ParsesUnsigned, digits_value}
use Rattle.std.proofs.lemmas.Bool.{le-leb, lt-ltb}
use Rattle.std.proofs.lemmas.Str.Parse.{IsNumeralModel, numerals_by_value, tells_all_ascii_digits, parse_gives, digits_value_short}
use Rattle.command_words.specs.Numbers.{number_from}

own : IsNumeralModel (λ ds. all_ascii_digits ds ≡ true) (digits_value 10)
own = numerals_by_value _ tells_all_ascii_digits

-- a text of one to seven digits is read as the number that they write
pub reads_digits : {E : Type 0} (word : List ℕ) (r : Result ℕ E) → ParsesUnsigned 32 10 word r → all_ascii_digits word ≡ true → length word ≤ 7 → 0 < length word
    → r ≡ Ok (digits_value 10 word)
reads_digits word r parsed digits few some = parse_gives own 32 word r parsed digits some (omega (arith, digits_value_short own word 7 digits few))

-- each byte is a digit
pub all_digits : (word : List ℕ) → list_all is_ascii_digit word ≡ all_ascii_digits word
all_digits [] = refl
all_digits (c ∷ cs) = ap (λ b. is_ascii_digit c && b) (all_digits cs)

-- the number that was read, where it is from the least to the most
abbrev pub within : {E : Type 0} → ℕ → ℕ → Result ℕ E → Option ℕ
within least most (Ok n) = if nat_le least n && nat_le n most then Some n else None
within least most (Err e) = None

-- digits that were read are the number that is asked for
pub by_read : {E : Type 0} (least most : ℕ) (word : List ℕ) (r : Result ℕ E) → ParsesUnsigned 32 10 word r → all_ascii_digits word ≡ true → length word ≤ 7
    → within least most r ≡ number_from least most word
by_read least most [] (Ok n) parsed digits few = absurd (omega (arith, parsed.0.0.0))
by_read least most [] (Err e) parsed digits few = refl
by_read least most (c ∷ cs) r parsed digits few =
    ap (within least most) (reads_digits (c ∷ cs) r parsed digits few (omega arith))
    ∙ rw (lt-ltb 0 (length (c ∷ cs)) (omega arith), le-leb (length (c ∷ cs)) 7 few, digits) refl
