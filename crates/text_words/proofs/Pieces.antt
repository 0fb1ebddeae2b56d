-- The pieces between separators, taken off one after the other.
use Rattle.std.proofs.Common.{◌≡◌, ℕ, suc, nat_eq, ◌+◌, ◌<◌, ◌≤◌, Bool, not, true, false, List, [], ◌∷◌, length, get_or, take, drop, filter, cond, refl, sym, ap, ap₂, ◌∙◌, arith, add-zero}
use Rattle.std.proofs.lemmas.List.{take_all, drop_all, drop_more, length-take-le}
use Rattle.std.proofs.lemmas.Bool.{cases_lt}
use Rattle.std.proofs.lemmas.Bool.Decides.{nat_tests}
use Rattle.std.proofs.Math.Logic.{⊎_elim}
use Rattle.std.proofs.lemmas.List.Sums.{prefix_len-le-length, fails_before_first, passes_at_first}
use Rattle.std.proofs.lemmas.List.Splits.{slice_split_first, slice_split_none, slice_split-cons_yes}
use Rattle.std.specs.List.{slice_split, position_or_len}
use Rattle.text_words.specs.Text.{Word, is_blank, is_inner, has_bytes, placed, words_from}

-- the last piece
pub split_last : (p : ℕ → Bool) (xs : List ℕ) (n : ℕ) → n ≡ position_or_len p xs → n ≡ length xs → slice_split p xs ≡ xs ∷ []
split_last p xs n e f = slice_split_none p xs (λ k d lt. fails_before_first p xs k d (omega arith))

-- a piece before others
pub split_more : (p : ℕ → Bool) (xs : List ℕ) (n : ℕ) → n ≡ position_or_len p xs → n < length xs → slice_split p xs ≡ take n xs ∷ slice_split p (drop (n + 1) xs)
split_more p xs n e lt = rw e (slice_split_first p xs 0 (omega arith))

-- a blank in front
pub past_blank : (at b : ℕ) (xs : List ℕ) → is_blank b ≡ true → words_from at (b ∷ xs) ≡ words_from (at + 1) xs
past_blank at b xs e =
    ap (λ ps. filter has_bytes (placed at ps)) (slice_split-cons_yes is_blank b xs e) ∙ ap (λ n. words_from (n + 1) xs) (add-zero at)

-- the blanks in front, one by one
past_blanks_by : (at b : ℕ) (xs : List ℕ) (v : Bool) → is_blank b ≡ v → words_from (at + 1) xs ≡ words_from (at + 1 + position_or_len is_inner xs) (drop (position_or_len is_inner xs) xs)
    → words_from at (b ∷ xs) ≡ words_from (at + position_or_len is_inner (b ∷ xs)) (drop (position_or_len is_inner (b ∷ xs)) (b ∷ xs))
past_blanks_by at b xs true e so_far =
    let k : ℕ = position_or_len is_inner xs in
    let from : ℕ → List Word = λ m. words_from (at + m) (drop m (b ∷ xs)) in
    let more : position_or_len is_inner (b ∷ xs) ≡ suc k = ap (λ v. cond (not (not v)) (1 + k) 0) e ∙ omega arith in
    let place : at + 1 + k ≡ at + suc k = omega arith in
    past_blank at b xs e ∙ so_far ∙ ap (λ m. words_from m (drop k xs)) place ∙ sym (ap from more)
past_blanks_by at b xs false e so_far =
    let k : ℕ = position_or_len is_inner xs in
    let from : ℕ → List Word = λ m. words_from (at + m) (drop m (b ∷ xs)) in
    let none : position_or_len is_inner (b ∷ xs) ≡ 0 = ap (λ v. cond (not (not v)) (1 + k) 0) e in
    sym (ap from none ∙ ap (λ m. words_from m (b ∷ xs)) (add-zero at))

-- the blanks in front
pub past_blanks : (at : ℕ) (xs : List ℕ) → words_from at xs ≡ words_from (at + position_or_len is_inner xs) (drop (position_or_len is_inner xs) xs)
past_blanks at [] = ap (λ n. words_from n []) (sym (add-zero at))
past_blanks at (b ∷ xs) = past_blanks_by at b xs (is_blank b) refl (past_blanks (at + 1) xs)

positive : (m : ℕ) → 0 < m → not (nat_eq m 0) ≡ true
positive m lt = grind (arith, nat_tests)

-- the word in front
pub takes_word : (at n : ℕ) (xs : List ℕ) → n ≡ position_or_len is_blank xs → 0 < n → words_from at xs ≡ record { at = at; bytes = take n xs } ∷ words_from (at + n) (drop n xs)
takes_word at n xs e some =
    let within : position_or_len is_blank xs ≤ length xs = prefix_len-le-length (λ x. not (is_blank x)) xs in
    let size : length (take n xs) ≡ n = length-take-le n xs (omega arith) in
    let word : Word = record { at = at; bytes = take n xs } in
    let has : has_bytes word ≡ true = positive (length (take n xs)) (omega arith) in
    ⊎_elim
    (λ (lt : n < length xs).
    let behind : List Word = words_from (at + length (take n xs) + 1) (drop (n + 1) xs) in
    let blank : is_blank (get_or xs n 0) ≡ true = ap (λ k. is_blank (get_or xs k 0)) e ∙ passes_at_first is_blank xs 0 (omega arith) in
    let rest : words_from (at + n) (drop n xs) ≡ words_from (at + n + 1) (drop (n + 1) xs) = ap (words_from (at + n)) (drop_more xs n 0 lt) ∙ past_blank (at + n) (get_or xs n 0) (drop (n + 1) xs) blank in
    ap (λ ps. filter has_bytes (placed at ps)) (split_more is_blank xs n e lt) ∙ ap (λ b. cond b (word ∷ behind) behind) has
    ∙ ap (λ k. word ∷ words_from (at + k + 1) (drop (n + 1) xs)) size ∙ ap (λ ws. word ∷ ws) (sym rest))
    (λ (le : length xs ≤ n).
    let whole : take n xs ≡ xs = take_all n xs le in
    let nothing : drop n xs ≡ [] = drop_all n xs le in
    ap (λ ps. filter has_bytes (placed at ps)) (split_last is_blank xs n e (omega arith) ∙ ap (λ p. p ∷ []) (sym whole)) ∙ ap (λ b. cond b (word ∷ []) []) has
    ∙ ap (λ ys. word ∷ words_from (at + n) ys) (sym nothing))
    (cases_lt n (length xs))

-- where no word stands behind the blanks, nothing does
pub nothing_behind : (xs : List ℕ) → position_or_len is_blank (drop (position_or_len is_inner xs) xs) ≡ 0 → drop (position_or_len is_inner xs) xs ≡ []
nothing_behind xs none =
    let k : ℕ = position_or_len is_inner xs in
    ⊎_elim
    (λ (lt : k < length xs).
    let inner : is_inner (get_or xs k 0) ≡ true = passes_at_first is_inner xs 0 lt in
    let first : position_or_len is_blank (get_or xs k 0 ∷ drop (k + 1) xs) ≡ 1 + position_or_len is_blank (drop (k + 1) xs) = ap (λ v. cond v (1 + position_or_len is_blank (drop (k + 1) xs)) 0) inner in
    let zero_is : 0 ≡ 1 + position_or_len is_blank (drop (k + 1) xs) = sym none ∙ ap (position_or_len is_blank) (drop_more xs k 0 lt) ∙ first in
    absurd (omega (arith, zero_is)))
    (λ (le : length xs ≤ k). drop_all k xs le)
    (cases_lt k (length xs))

-- no word is left
pub none_left : (at k n : ℕ) (xs ys zs : List ℕ) → k ≡ position_or_len is_inner xs → ys ≡ drop k xs → n ≡ position_or_len is_blank ys → n ≡ 0 → zs ≡ drop n ys → (words_from at xs ≡ []) × (words_from (at + k + n) zs ≡ [])
none_left at k n xs ys zs here skipped len none rest =
    let nothing : ys ≡ [] = skipped ∙ ap (λ m. drop m xs) here ∙ nothing_behind xs (ap (λ m. position_or_len is_blank (drop m xs)) (sym here) ∙ ap (position_or_len is_blank) (sym skipped) ∙ sym len ∙ none) in
    let all : words_from at xs ≡ words_from (at + k) ys = past_blanks at xs ∙ ap (λ m. words_from (at + m) (drop m xs)) (sym here) ∙ ap (words_from (at + k)) (sym skipped) in
    (all ∙ ap (words_from (at + k)) nothing, ap (words_from (at + k + n)) (rest ∙ ap (drop n) nothing ∙ ap (λ m. drop m []) none))

-- a word, and those that are left
pub one_left : (at k n : ℕ) (xs ys ws zs : List ℕ) → k ≡ position_or_len is_inner xs → ys ≡ drop k xs → n ≡ position_or_len is_blank ys → (n ≡ 0 → ⊥) → ws ≡ take n ys → zs ≡ drop n ys
    → words_from at xs ≡ record { at = at + k; bytes = ws } ∷ words_from (at + k + n) zs
one_left at k n xs ys ws zs here skipped len some word rest =
    past_blanks at xs ∙ ap (λ m. words_from (at + m) (drop m xs)) (sym here) ∙ ap (words_from (at + k)) (sym skipped) ∙ takes_word (at + k) n ys len (omega (arith, some))
    ∙ ap₂ (λ (w : List ℕ) (z : List ℕ). record { at = at + k; bytes = w } ∷ words_from (at + k + n) z) (sym word) (sym rest)
