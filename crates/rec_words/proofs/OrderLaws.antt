-- the order of pointers is that of their levels and numbers
use Rattle.std.specs.Prelude.{◌≡◌, ℕ, ◌+◌, ◌*◌, ◌^◌, ◌<◌, ◌≤◌, ◌⊎◌, Bool, true, false}
use Rattle.std.specs.Ordering.{nat_cmp, ordering_then}
use Rattle.std.specs.Cmp.{nat_cmp_is}
use Rattle.std.specs.declared.cmp.Ordering.TheVariants.{Less, Equal, Greater}
use Rattle.std.proofs.Common.{sym, ◌∙◌, inl, inr, arith}
use Rattle.std.proofs.lemmas.Bool.{cases_lt}
use Rattle.rec_words.specs.Words.{node_word, terminal, IsNodeWord}

less : (x y : ℕ) → x < y → nat_cmp x y ≡ Less
less x y h = sym (nat_cmp_is x y Less h)

equal : (x y : ℕ) → x ≡ y → nat_cmp x y ≡ Equal
equal x y h = sym (nat_cmp_is x y Equal h)

greater : (x y : ℕ) → y < x → nat_cmp x y ≡ Greater
greater x y h = sym (nat_cmp_is x y Greater h)

pub nodes_ordered : (level number other its_number : ℕ) → number < 2 ^ 47 → its_number < 2 ^ 47
    → nat_cmp (node_word level number) (node_word other its_number) ≡ ordering_then (nat_cmp level other) (nat_cmp number its_number)
nodes_ordered level number other its_number few fewer = elim (cases_lt level other) [
  | inl above ↦ less (node_word level number) (node_word other its_number) (omega arith) ∙ (λ i. ordering_then (sym (less level other above) i) (nat_cmp number its_number))
  | inr not_above ↦ elim (cases_lt other level) [
    | inl below ↦ greater (node_word level number) (node_word other its_number) (omega arith) ∙ (λ i. ordering_then (sym (greater level other below) i) (nat_cmp number its_number))
    | inr not_below ↦
        let same : level ≡ other = omega arith in
        by_number same (cases_lt number its_number) (cases_lt its_number number)
        ∙ (λ i. ordering_then (sym (equal level other same) i) (nat_cmp number its_number))
  ]
]
  where
    by_number : level ≡ other → (number < its_number) ⊎ (its_number ≤ number) → (its_number < number) ⊎ (number ≤ its_number)
        → nat_cmp (node_word level number) (node_word other its_number) ≡ nat_cmp number its_number
    by_number same (inl first) o = less (node_word level number) (node_word other its_number) (omega arith) ∙ sym (less number its_number first)
    by_number same (inr later) (inl last) = greater (node_word level number) (node_word other its_number) (omega arith) ∙ sym (greater number its_number last)
    by_number same (inr later) (inr no_later) =
        let one : number ≡ its_number = omega arith in
        equal (node_word level number) (node_word other its_number) (omega arith) ∙ sym (equal number its_number one)

pub values_last : (word : ℕ) (value : Bool) → IsNodeWord word → nat_cmp word (terminal value) ≡ Less
values_last word false node = less word (terminal false) (omega arith)
values_last word true node = less word (terminal true) (omega arith)

pub values_ordered : nat_cmp (terminal false) (terminal true) ≡ Less
values_ordered = less (terminal false) (terminal true) (omega arith)
