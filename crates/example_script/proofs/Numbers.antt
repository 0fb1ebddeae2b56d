-- What is put for each of the numbers from 1 on.
use Rattle.std.proofs.Common.{◌≡◌, ℕ, suc, ◌+◌, ◌-◌, ◌<◌, ◌≤◌, List, ◌∷◌, ◌++◌, sym, ap, ◌∙◌, append_assoc, arith}
use Rattle.std.proofs.lemmas.List.{append-nil}
use Rattle.std.specs.List.{flat_map, range_with_len}

-- the first of the numbers that are left
numbers_left : (i n : ℕ) → i < n + 1 → range_with_len i (n + 1 - i) ≡ i ∷ range_with_len (i + 1) (n + 1 - (i + 1))
numbers_left i n within =
    let more : n + 1 - i ≡ suc (n + 1 - (i + 1)) = omega arith in
    ap (range_with_len i) more

-- what was put, and what is left to be put, stay the whole
pub one_more : (f : ℕ → List ℕ) (i n : ℕ) (old new whole : List ℕ) → i < n + 1 → new ≡ old ++ f i → old ++ flat_map f (range_with_len i (n + 1 - i)) ≡ whole
    → new ++ flat_map f (range_with_len (i + 1) (n + 1 - (i + 1))) ≡ whole
one_more f i n old new whole within puts so_far =
    let rest : List ℕ = flat_map f (range_with_len (i + 1) (n + 1 - (i + 1))) in
    ap (λ xs. xs ++ rest) puts ∙ append_assoc old (f i) rest ∙ sym (ap (λ xs. old ++ flat_map f xs) (numbers_left i n within)) ∙ so_far

-- no number is left
pub none_left : (f : ℕ → List ℕ) (i n : ℕ) (all whole : List ℕ) → n + 1 ≤ i → all ++ flat_map f (range_with_len i (n + 1 - i)) ≡ whole → all ≡ whole
none_left f i n all whole end so_far =
    let none : n + 1 - i ≡ 0 = omega arith in
    sym (append-nil all) ∙ sym (ap (λ k. all ++ flat_map f (range_with_len i k)) none) ∙ so_far
