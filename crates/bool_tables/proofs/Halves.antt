-- the halves of tables that are given place by place
use Rattle.std.specs.Prelude.{◌≡◌, ℕ, zero, suc, ◌+◌, ◌-◌, ◌*◌, ◌/◌, ◌%◌, ◌^◌, ◌<◌, ◌==◌, Bool, true, false, [], ◌∷◌, length, drop, map, replicate}
use Rattle.std.specs.List.{range_with_len}
use Rattle.std.proofs.Common.{refl, ◌∙◌, ap, arith}
use Rattle.std.proofs.Math.Nat.{pow-suc, mul-add-div_right, div-eq_of_lt}
use Rattle.std.proofs.lemmas.Nat.{pow_pos, pow-add, div-mul-add}
use Rattle.std.proofs.lemmas.List.FromFn.{take-map-range_with_len, length-map-range_with_len}
use Rattle.std.proofs.lemmas.List.{take-replicate, drop-replicate}
use Rattle.bool_tables.specs.Steps.{step_table}
use Rattle.bool_tables.specs.declared.steps.Step.TheVariants.{Var}
use Rattle.bool_tables.specs.Tables.{low_half, high_half, table_with, digit}

-- a power of two is twice the one before
pub twice : (h : ℕ) → 2 ^ suc h ≡ 2 ^ h + 2 ^ h
twice h = omega (arith, pow-suc 2 h)

-- the places that are dropped are the first
drop_places : (value : ℕ → Bool) (k a n : ℕ) → drop k (map value (range_with_len a n)) ≡ map value (range_with_len (a + k) (n - k))
drop_places value zero a n =
    let first : a ≡ a + 0 = omega arith in
    let rest : n ≡ n - 0 = omega arith in
    λ i. map value (range_with_len (first i) (rest i))
drop_places value (suc k) a zero =
    let rest : 0 ≡ 0 - suc k = omega arith in
    λ i. map value (range_with_len (a + suc k) (rest i))
drop_places value (suc k) a (suc n) =
    let first : (a + 1) + k ≡ a + suc k = omega arith in
    let rest : n - k ≡ suc n - suc k = omega arith in
    drop_places value k (a + 1) n ∙ (λ i. map value (range_with_len (first i) (rest i)))

-- the same values stand at the places from a on and at those from b on
same_places : (f g : ℕ → Bool) (a b n : ℕ) → ((p : ℕ) → p < n → f (a + p) ≡ g (b + p)) → map f (range_with_len a n) ≡ map g (range_with_len b n)
same_places f g a b zero same = refl
same_places f g a b (suc n) same =
    let here : f a ≡ g b = ap f (omega arith) ∙ same 0 (omega arith) ∙ ap g (omega arith) in
    let later : map f (range_with_len (a + 1) n) ≡ map g (range_with_len (b + 1) n) =
    same_places f g (a + 1) (b + 1) n (λ p below. ap f (omega arith) ∙ same (p + 1) (omega arith) ∙ ap g (omega arith)) in
    λ i. here i ∷ later i

-- tables with the same value at each place are the same
pub table_with_same : (n : ℕ) (f g : ℕ → Bool) → ((p : ℕ) → p < 2 ^ n → f p ≡ g p) → table_with n f ≡ table_with n g
table_with_same n f g same = same_places f g 0 0 (2 ^ n) (λ p below. ap f (omega arith) ∙ same p below ∙ ap g (omega arith))

pub length-table_with : (n : ℕ) (value : ℕ → Bool) → length (table_with n value) ≡ 2 ^ n
length-table_with n value = length-map-range_with_len value 0 (2 ^ n)

pub low_half-table_with : (h : ℕ) (value : ℕ → Bool) → low_half h (table_with (suc h) value) ≡ table_with h value
low_half-table_with h value = take-map-range_with_len value 0 (2 ^ suc h) (2 ^ h) (omega (arith, twice h))

pub high_half-table_with : (h : ℕ) (value : ℕ → Bool) → high_half h (table_with (suc h) value) ≡ table_with h (λ p. value (2 ^ h + p))
high_half-table_with h value =
    let rest : 2 ^ suc h - 2 ^ h ≡ 2 ^ h = omega (arith, twice h) in
    drop_places value (2 ^ h) 0 (2 ^ suc h) ∙ ap (λ m. map value (range_with_len (0 + 2 ^ h) m)) rest
    ∙ same_places value (λ p. value (2 ^ h + p)) (0 + 2 ^ h) 0 (2 ^ h) (λ p b. ap value (omega arith))

-- one value at each of n places
copies : (b : Bool) (a n : ℕ) → map (λ (p : ℕ). b) (range_with_len a n) ≡ replicate n b
copies b a zero = refl
copies b a (suc n) = ap (λ bits. b ∷ bits) (copies b (a + 1) n)

-- a table that has one value at each place
pub table_with_one : (n : ℕ) (value : ℕ → Bool) (b : Bool) → ((p : ℕ) → p < 2 ^ n → value p ≡ b) → table_with n value ≡ replicate (2 ^ n) b
table_with_one n value b same =
    table_with_same n value (λ _. b) same ∙ copies b 0 (2 ^ n)

-- the digit of the first level is that of the place's half
pub digit_low : (h p : ℕ) → p < 2 ^ h → digit (suc h) 0 p ≡ false
digit_low h p b =
    let level : suc h - 1 - 0 ≡ h = omega arith in
    let first : p / 2 ^ h ≡ 0 = div-eq_of_lt b in
    (λ i. (p / 2 ^ level i) % 2 == 1) ∙ (λ i. first i % 2 == 1)

pub digit_high : (h p : ℕ) → p < 2 ^ h → digit (suc h) 0 (2 ^ h + p) ≡ true
digit_high h p b =
    let level : suc h - 1 - 0 ≡ h = omega arith in
    let one : 2 ^ h + p ≡ 1 * 2 ^ h + p = omega arith in
    let first : (2 ^ h + p) / 2 ^ h ≡ 1 = ap (λ n. n / 2 ^ h) one ∙ div-mul-add 1 (2 ^ h) p b in
    (λ i. ((2 ^ h + p) / 2 ^ level i) % 2 == 1) ∙ (λ i. first i % 2 == 1)

-- deeper digits are those of the place within its half
pub digit_in_low : (h level p : ℕ) → level < h → digit (suc h) (suc level) p ≡ digit h level p
digit_in_low h level p b = ap (λ k. (p / 2 ^ k) % 2 == 1) (omega arith)

pub digit_in_high : (h level p : ℕ) → level < h → digit (suc h) (suc level) (2 ^ h + p) ≡ digit h level p
digit_in_high h level p b =
    let k : ℕ = h - 1 - level in
    let same : suc h - 1 - suc level ≡ k = omega arith in
    let parts : h ≡ suc level + k = omega arith in
    let whole : 2 ^ h ≡ (2 * 2 ^ level) * 2 ^ k = ap (λ n. 2 ^ n) parts ∙ pow-add 2 (suc level) k ∙ ap (λ n. n * 2 ^ k) (omega (arith, twice level)) in
    let quotient : (2 ^ h + p) / 2 ^ k ≡ 2 * 2 ^ level + p / 2 ^ k = ap (λ n. (n + p) / 2 ^ k) whole ∙ mul-add-div_right (pow_pos k) (2 * 2 ^ level) p in
    let digit_is : (2 ^ h + p) / 2 ^ k % 2 ≡ p / 2 ^ k % 2 = ap (λ n. n % 2) quotient ∙ omega arith in
    (λ i. ((2 ^ h + p) / 2 ^ same i) % 2 == 1) ∙ (λ i. digit_is i == 1)

-- both halves of the table of a deeper variable are the table of that variable among the others
pub low_half-var : (h level : ℕ) → level < h → low_half h (step_table (suc h) [] (Var (suc level))) ≡ step_table h [] (Var level)
low_half-var h level b =
    low_half-table_with h (digit (suc h) (suc level))
    ∙ table_with_same h (digit (suc h) (suc level)) (digit h level) (λ p below. digit_in_low h level p b)

pub high_half-var : (h level : ℕ) → level < h → high_half h (step_table (suc h) [] (Var (suc level))) ≡ step_table h [] (Var level)
high_half-var h level b =
    high_half-table_with h (digit (suc h) (suc level))
    ∙ table_with_same h (λ p. digit (suc h) (suc level) (2 ^ h + p)) (digit h level) (λ p below. digit_in_high h level p b)

-- the first variable is 0 in the first half and 1 in the second
pub low_half-first : (h : ℕ) → low_half h (step_table (suc h) [] (Var 0)) ≡ replicate (2 ^ h) false
low_half-first h =
    low_half-table_with h (digit (suc h) 0) ∙ table_with_one h (digit (suc h) 0) false (digit_low h)

pub high_half-first : (h : ℕ) → high_half h (step_table (suc h) [] (Var 0)) ≡ replicate (2 ^ h) true
high_half-first h =
    high_half-table_with h (digit (suc h) 0) ∙ table_with_one h (λ p. digit (suc h) 0 (2 ^ h + p)) true (digit_high h)

-- the halves of a constant table are constant
pub low_half-constant : (h : ℕ) (b : Bool) → low_half h (replicate (2 ^ suc h) b) ≡ replicate (2 ^ h) b
low_half-constant h b = take-replicate (2 ^ h) (2 ^ suc h) b (omega (arith, twice h))

pub high_half-constant : (h : ℕ) (b : Bool) → high_half h (replicate (2 ^ suc h) b) ≡ replicate (2 ^ h) b
high_half-constant h b =
    let rest : 2 ^ suc h - 2 ^ h ≡ 2 ^ h = omega (arith, twice h) in
    drop-replicate (2 ^ h) (2 ^ suc h) b ∙ (λ i. replicate (rest i) b)
