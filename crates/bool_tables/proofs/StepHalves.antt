-- The halves of the tables that steps make.
use Rattle.std.specs.Prelude.{◌≡◌, ℕ, zero, suc, ◌+◌, ◌-◌, ◌*◌, ◌/◌, ◌%◌, ◌^◌, ◌<◌, ◌≤◌, ◌==◌, Bool, true, false, cond, List, [], ◌∷◌, length, take, drop, map}
use Rattle.std.proofs.Common.{refl, sym, ◌∙◌, ap, true≢false, arith}
use Rattle.std.proofs.Math.Nat.{mul-div-le, le-mul_of_pos_right, mul-le-mul_right, div-add-mod'}
use Rattle.std.proofs.lemmas.Nat.{pow_pos, pow-add, div_below, mod_below}
use Rattle.std.proofs.lemmas.Bool.Decides.{nat_tests}
use Rattle.std.proofs.lemmas.List.{get_or-take, get_or-drop, length-take-le, length-drop}
use Rattle.std.proofs.lemmas.List.FromFn.{fill_by_all}
use Rattle.bool_tables.specs.Tables.{low_half, high_half, half_where, value_at, table_with, weight, digit, with_digit}
use Rattle.bool_tables.specs.Steps.{op_value, quant_value, table_of_step, step_table}
use Rattle.bool_tables.specs.declared.steps.Bin.{Bin}
use Rattle.bool_tables.specs.declared.steps.Quant.{Quant}
use Rattle.bool_tables.specs.declared.steps.Step.TheVariants.{Const, Pair, Ite, Quantify, Restrict}
use Rattle.bool_tables.proofs.Halves.{twice, low_half-table_with, high_half-table_with, table_with_same, digit_low, digit_high, digit_in_low, digit_in_high}

-- the values of a table's halves
pub value-low : (h : ℕ) (t : List Bool) (p : ℕ) → p < 2 ^ h → value_at (low_half h t) p ≡ value_at t p
value-low h t p b = get_or-take (2 ^ h) t p false b

pub value-high : (h : ℕ) (t : List Bool) (p : ℕ) → value_at (high_half h t) p ≡ value_at t (2 ^ h + p)
value-high h t p = get_or-drop (2 ^ h) t p false

-- the first digit set in a place of the first and of the second half
first_low : (h p : ℕ) (value : Bool) → p < 2 ^ h → with_digit (suc h) 0 value p ≡ p + cond value (2 ^ h) 0
first_low h p value b =
    let level : suc h - 1 - 0 ≡ h = omega arith in
    λ j. cond (digit_low h p b j) (p - 2 ^ level j) p + cond value (2 ^ level j) 0

first_high : (h p : ℕ) (value : Bool) → p < 2 ^ h → with_digit (suc h) 0 value (2 ^ h + p) ≡ p + cond value (2 ^ h) 0
first_high h p value b =
    let level : suc h - 1 - 0 ≡ h = omega arith in
    let rest : 2 ^ h + p - 2 ^ h ≡ p = omega arith in
    (λ j. cond (digit_high h p b j) (2 ^ h + p - 2 ^ level j) (2 ^ h + p) + cond value (2 ^ level j) 0) ∙ (λ j. rest j + cond value (2 ^ h) 0)

-- a deeper digit set in them
deeper_low : (h level p : ℕ) (value : Bool) → level < h → with_digit (suc h) (suc level) value p ≡ with_digit h level value p
deeper_low h level p value b =
    let same : suc h - 1 - suc level ≡ h - 1 - level = omega arith in
    λ j. cond (digit_in_low h level p b j) (p - 2 ^ same j) p + cond value (2 ^ same j) 0

-- where the digit is 1, it counts for no more than the place
digit_counts : (n level p : ℕ) → digit n level p ≡ true → weight n level ≤ p
digit_counts n level p e =
    let odd : (p / weight n level) % 2 ≡ 1 = grind (arith, nat_tests) in
    let some : 0 < p / weight n level = omega arith in
    omega (arith, mul-div-le p (weight n level), le-mul_of_pos_right (weight n level) some)

deeper_high : (h level p : ℕ) (value : Bool) → level < h → with_digit (suc h) (suc level) value (2 ^ h + p) ≡ 2 ^ h + with_digit h level value p
deeper_high h level p value b =
    let same : suc h - 1 - suc level ≡ h - 1 - level = omega arith in
    (λ j. cond (digit_in_high h level p b j) (2 ^ h + p - 2 ^ same j) (2 ^ h + p) + cond value (2 ^ same j) 0)
    ∙ by (digit h level p) refl
  where
    by : (d : Bool) → digit h level p ≡ d
        → cond d (2 ^ h + p - weight h level) (2 ^ h + p) + cond value (weight h level) 0 ≡ 2 ^ h + (cond d (p - weight h level) p + cond value (weight h level) 0)
    by true e = let counts : weight h level ≤ p = digit_counts h level p e in omega arith
    by false e = omega arith

not_odd : (q : ℕ) → (q % 2 ≡ 1 → ⊥) → q % 2 ≡ 0
not_odd q n = omega arith

-- a digit set in a place of h digits leaves a place of h digits
set_within : (h level p : ℕ) (value : Bool) → level < h → p < 2 ^ h → with_digit h level value p < 2 ^ h
set_within h level p value b below = by (digit h level p) refl
  where
    by : (d : Bool) → digit h level p ≡ d → cond d (p - weight h level) p + cond value (weight h level) 0 < 2 ^ h
    by true e = let counts : weight h level ≤ p = digit_counts h level p e in elim value as (λ v. p - weight h level + cond v (weight h level) 0 < 2 ^ h) [ true ↦ omega arith | false ↦ omega arith ]
    by false e =
        let even : (p / weight h level) % 2 ≡ 0 = not_odd (p / weight h level) (λ odd. true≢false (sym (ap (λ k. k == 1) odd) ∙ e)) in
        let parts : h ≡ suc level + (h - 1 - level) = omega arith in
        let whole : 2 ^ h ≡ 2 ^ suc level * weight h level = ap (λ n. 2 ^ n) parts ∙ pow-add 2 (suc level) (h - 1 - level) in
        let places : 2 ^ suc level ≡ 2 ^ level + 2 ^ level = twice level in
        let row : p / weight h level < 2 ^ suc level = div_below p (weight h level) (2 ^ suc level) (pow_pos (h - 1 - level)) (omega arith) in
        let room : p / weight h level + 2 ≤ 2 ^ suc level = omega arith in
        let fits : (p / weight h level + 2) * weight h level ≤ 2 ^ suc level * weight h level = mul-le-mul_right (weight h level) room in
        let rest : p % weight h level < weight h level = mod_below p (weight h level) (pow_pos (h - 1 - level)) in
        let split : p / weight h level * weight h level + p % weight h level ≡ p = div-add-mod' p (weight h level) in
        elim value as (λ v. p + cond v (weight h level) 0 < 2 ^ h) [ true ↦ omega arith | false ↦ omega arith ]

take_none : {X : Type 0} (n : ℕ) → take {A = X} n [] ≡ []
take_none zero = refl
take_none (suc n) = refl

drop_none : {X : Type 0} (n : ℕ) → drop {A = X} n [] ≡ []
drop_none zero = refl
drop_none (suc n) = refl

look_up_map : (f : List Bool → List Bool) (tables : List (List Bool)) (step : ℕ) → f [] ≡ [] → table_of_step (map f tables) step ≡ f (table_of_step tables step)
look_up_map f [] step none = sym none
look_up_map f (t ∷ tables) zero none = refl
look_up_map f (t ∷ tables) (suc step) none = look_up_map f tables step none

-- the values of a step's table, in the halves of all tables
pub value_in_low : (h : ℕ) (tables : List (List Bool)) (step p : ℕ) → p < 2 ^ h
    → value_at (table_of_step tables step) p ≡ value_at (table_of_step (map (low_half h) tables) step) p
value_in_low h tables step p b =
    sym (value-low h (table_of_step tables step) p b) ∙ (λ j. value_at (sym (look_up_map (low_half h) tables step (take_none (2 ^ h))) j) p)

pub value_in_high : (h : ℕ) (tables : List (List Bool)) (step p : ℕ)
    → value_at (table_of_step tables step) (2 ^ h + p) ≡ value_at (table_of_step (map (high_half h) tables) step) p
value_in_high h tables step p =
    sym (value-high h (table_of_step tables step) p) ∙ (λ j. value_at (sym (look_up_map (high_half h) tables step (drop_none (2 ^ h))) j) p)

-- a step that asks for no variable, or for a deeper one, does to each half what it does to the whole
pub low_half-const : (h : ℕ) (tables : List (List Bool)) (value : Bool)
    → low_half h (step_table (suc h) tables (Const value)) ≡ step_table h (map (low_half h) tables) (Const value)
low_half-const h tables value = low_half-table_with h (λ _. value)

pub high_half-const : (h : ℕ) (tables : List (List Bool)) (value : Bool)
    → high_half h (step_table (suc h) tables (Const value)) ≡ step_table h (map (high_half h) tables) (Const value)
high_half-const h tables value = high_half-table_with h (λ _. value)

pub low_half-pair : (h : ℕ) (tables : List (List Bool)) (op : Bin) (left right : ℕ)
    → low_half h (step_table (suc h) tables (Pair op left right)) ≡ step_table h (map (low_half h) tables) (Pair op left right)
low_half-pair h tables op left right =
    low_half-table_with h _ ∙ table_with_same h _ _ (λ p b j. op_value op (value_in_low h tables left p b j) (value_in_low h tables right p b j))

pub high_half-pair : (h : ℕ) (tables : List (List Bool)) (op : Bin) (left right : ℕ)
    → high_half h (step_table (suc h) tables (Pair op left right)) ≡ step_table h (map (high_half h) tables) (Pair op left right)
high_half-pair h tables op left right =
    high_half-table_with h _ ∙ table_with_same h _ _ (λ p b j. op_value op (value_in_high h tables left p j) (value_in_high h tables right p j))

pub low_half-ite : (h : ℕ) (tables : List (List Bool)) (test if_one if_zero : ℕ)
    → low_half h (step_table (suc h) tables (Ite test if_one if_zero)) ≡ step_table h (map (low_half h) tables) (Ite test if_one if_zero)
low_half-ite h tables test if_one if_zero =
    low_half-table_with h _ ∙ table_with_same h _ _
    (λ p b j. cond (value_in_low h tables test p b j) (value_in_low h tables if_one p b j) (value_in_low h tables if_zero p b j))

pub high_half-ite : (h : ℕ) (tables : List (List Bool)) (test if_one if_zero : ℕ)
    → high_half h (step_table (suc h) tables (Ite test if_one if_zero)) ≡ step_table h (map (high_half h) tables) (Ite test if_one if_zero)
high_half-ite h tables test if_one if_zero =
    high_half-table_with h _ ∙ table_with_same h _ _
    (λ p b j. cond (value_in_high h tables test p j) (value_in_high h tables if_one p j) (value_in_high h tables if_zero p j))

set_in_low : (h : ℕ) (tables : List (List Bool)) (step level p : ℕ) (value : Bool) → level < h → p < 2 ^ h
    → value_at (table_of_step tables step) (with_digit (suc h) (suc level) value p) ≡ value_at (table_of_step (map (low_half h) tables) step) (with_digit h level value p)
set_in_low h tables step level p value l b =
    (λ j. value_at (table_of_step tables step) (deeper_low h level p value l j))
    ∙ value_in_low h tables step (with_digit h level value p) (set_within h level p value l b)

set_in_high : (h : ℕ) (tables : List (List Bool)) (step level p : ℕ) (value : Bool) → level < h
    → value_at (table_of_step tables step) (with_digit (suc h) (suc level) value (2 ^ h + p)) ≡ value_at (table_of_step (map (high_half h) tables) step) (with_digit h level value p)
set_in_high h tables step level p value l =
    (λ j. value_at (table_of_step tables step) (deeper_high h level p value l j)) ∙ value_in_high h tables step (with_digit h level value p)

pub low_half-restrict : (h : ℕ) (tables : List (List Bool)) (operand level : ℕ) (value : Bool) → level < h
    → low_half h (step_table (suc h) tables (Restrict operand (suc level) value)) ≡ step_table h (map (low_half h) tables) (Restrict operand level value)
low_half-restrict h tables operand level value l =
    low_half-table_with h _ ∙ table_with_same h _ _ (λ p b. set_in_low h tables operand level p value l b)

pub high_half-restrict : (h : ℕ) (tables : List (List Bool)) (operand level : ℕ) (value : Bool) → level < h
    → high_half h (step_table (suc h) tables (Restrict operand (suc level) value)) ≡ step_table h (map (high_half h) tables) (Restrict operand level value)
high_half-restrict h tables operand level value l =
    high_half-table_with h _ ∙ table_with_same h _ _ (λ p b. set_in_high h tables operand level p value l)

pub low_half-quantify : (h : ℕ) (tables : List (List Bool)) (kind : Quant) (operand level : ℕ) → level < h
    → low_half h (step_table (suc h) tables (Quantify kind operand (suc level))) ≡ step_table h (map (low_half h) tables) (Quantify kind operand level)
low_half-quantify h tables kind operand level l =
    low_half-table_with h _ ∙ table_with_same h _ _
    (λ p b j. quant_value kind (set_in_low h tables operand level p false l b j) (set_in_low h tables operand level p true l b j))

pub high_half-quantify : (h : ℕ) (tables : List (List Bool)) (kind : Quant) (operand level : ℕ) → level < h
    → high_half h (step_table (suc h) tables (Quantify kind operand (suc level))) ≡ step_table h (map (high_half h) tables) (Quantify kind operand level)
high_half-quantify h tables kind operand level l =
    high_half-table_with h _ ∙ table_with_same h _ _
    (λ p b j. quant_value kind (set_in_high h tables operand level p false l j) (set_in_high h tables operand level p true l j))

value_where : (h p : ℕ) (value : Bool) (t : List Bool) → p < 2 ^ h → value_at t (p + cond value (2 ^ h) 0) ≡ value_at (half_where h value t) p
value_where h p false t b = let same : p + 0 ≡ p = omega arith in ap (value_at t) same ∙ sym (value-low h t p b)
value_where h p true t b = let same : p + 2 ^ h ≡ 2 ^ h + p = omega arith in ap (value_at t) same ∙ sym (value-high h t p)

-- a step that asks for the first variable does the same to both halves
pub low_half-restrict_first : (h : ℕ) (tables : List (List Bool)) (operand : ℕ) (value : Bool)
    → low_half h (step_table (suc h) tables (Restrict operand 0 value)) ≡ table_with h (value_at (half_where h value (table_of_step tables operand)))
low_half-restrict_first h tables operand value =
    low_half-table_with h _ ∙ table_with_same h _ _
    (λ p b. ap (value_at (table_of_step tables operand)) (first_low h p value b) ∙ value_where h p value (table_of_step tables operand) b)

pub high_half-restrict_first : (h : ℕ) (tables : List (List Bool)) (operand : ℕ) (value : Bool)
    → high_half h (step_table (suc h) tables (Restrict operand 0 value)) ≡ table_with h (value_at (half_where h value (table_of_step tables operand)))
high_half-restrict_first h tables operand value =
    high_half-table_with h _ ∙ table_with_same h _ _
    (λ p b. ap (value_at (table_of_step tables operand)) (first_high h p value b) ∙ value_where h p value (table_of_step tables operand) b)

pub low_half-quantify_first : (h : ℕ) (tables : List (List Bool)) (kind : Quant) (operand : ℕ)
    → low_half h (step_table (suc h) tables (Quantify kind operand 0)) ≡ table_with h (λ p. quant_value kind
    (value_at (low_half h (table_of_step tables operand)) p) (value_at (high_half h (table_of_step tables operand)) p))
low_half-quantify_first h tables kind operand =
    let t : List Bool = table_of_step tables operand in
    low_half-table_with h _ ∙ table_with_same h _ _ (λ p b. λ j. quant_value kind
    ((ap (value_at t) (first_low h p false b) ∙ value_where h p false t b) j) ((ap (value_at t) (first_low h p true b) ∙ value_where h p true t b) j))

pub high_half-quantify_first : (h : ℕ) (tables : List (List Bool)) (kind : Quant) (operand : ℕ)
    → high_half h (step_table (suc h) tables (Quantify kind operand 0)) ≡ table_with h (λ p. quant_value kind
    (value_at (low_half h (table_of_step tables operand)) p) (value_at (high_half h (table_of_step tables operand)) p))
high_half-quantify_first h tables kind operand =
    let t : List Bool = table_of_step tables operand in
    high_half-table_with h _ ∙ table_with_same h _ _ (λ p b. λ j. quant_value kind
    ((ap (value_at t) (first_high h p false b) ∙ value_where h p false t b) j) ((ap (value_at t) (first_high h p true b) ∙ value_where h p true t b) j))

-- a table is made of its values
pub table_with-values : (h : ℕ) (t : List Bool) → length t ≡ 2 ^ h → table_with h (value_at t) ≡ t
table_with-values h t long = sym (fill_by_all (value_at t) t (2 ^ h) false long (λ p b. refl))

-- a half has half of the values
pub length-half : (h : ℕ) (value : Bool) (t : List Bool) → length t ≡ 2 ^ suc h → length (half_where h value t) ≡ 2 ^ h
length-half h false t long = omega (arith, length-take-le (2 ^ h) t (omega (arith, long, twice h)))
length-half h true t long = omega (arith, length-drop (2 ^ h) t, long, twice h)

-- a restriction of the first variable leaves in both halves the half in which it has that value
pub low_half-restricted : (h : ℕ) (tables : List (List Bool)) (operand : ℕ) (value : Bool) → length (table_of_step tables operand) ≡ 2 ^ suc h
    → low_half h (step_table (suc h) tables (Restrict operand 0 value)) ≡ half_where h value (table_of_step tables operand)
low_half-restricted h tables operand value long =
    low_half-restrict_first h tables operand value
    ∙ table_with-values h (half_where h value (table_of_step tables operand)) (length-half h value (table_of_step tables operand) long)

pub high_half-restricted : (h : ℕ) (tables : List (List Bool)) (operand : ℕ) (value : Bool) → length (table_of_step tables operand) ≡ 2 ^ suc h
    → high_half h (step_table (suc h) tables (Restrict operand 0 value)) ≡ half_where h value (table_of_step tables operand)
high_half-restricted h tables operand value long =
    high_half-restrict_first h tables operand value
    ∙ table_with-values h (half_where h value (table_of_step tables operand)) (length-half h value (table_of_step tables operand) long)
