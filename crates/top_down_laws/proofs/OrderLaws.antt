-- The order of forms, and of asks that wait.
use Rattle.std.proofs.Common.{◌≡◌, ◌≢◌, ℕ, ◌≤◌, ◌<◌, ◌∙◌, true, false, cond, refl, sym, ap, inl, inr, arith}
use Rattle.std.specs.Prelude.{List, [], ◌∷◌, ◌++◌, length, nat_lt, ◌==◌}
use Rattle.std.specs.Cmp.{IsStrictWeakOrder}
use Rattle.std.specs.Cmp.Derive.{then_next}
use Rattle.std.specs.Ordering.{nat_cmp, is_lt, ordering_then}
use Rattle.std.specs.declared.cmp.Ordering.{Ordering}
use Rattle.std.specs.declared.cmp.Ordering.TheVariants.{Less, Equal, Greater}
use Rattle.std.specs.Cmp.Lexicographic.{slice_cmp}
use Rattle.std.proofs.lemmas.Bool.{cases_Bool}
use Rattle.std.proofs.lemmas.Bool.Decides.{nat_tests}
use Rattle.std.proofs.lemmas.Cmp.{nat_list_cmp_total}
use Rattle.std.proofs.lemmas.List.MinMax.{ranks_by}
use Rattle.std.proofs.lemmas.Map.Lookups.{exact_bytes}
use Rattle.list_laws.proofs.SortedLaws.{neither_less}
use Rattle.top_down_laws.specs.Forms.{Form, Waiting, form_words, words_of, comes_before, IsNoLater}

then_first : (o p : Ordering) → is_lt (ordering_then o p) ≡ false → is_lt o ≡ false
then_first Less p none = none
then_first Equal p none = refl
then_first Greater p none = refl

form_order : IsStrictWeakOrder (λ f g. is_lt (slice_cmp nat_cmp (form_words f) (form_words g)))
form_order = ranks_by nat_list_cmp_total form_words

wait_order : IsStrictWeakOrder comes_before
wait_order = ranks_by nat_list_cmp_total words_of

same_words : (f g : Form) → form_words f ≡ form_words g → f ≡ g
same_words f g same =
    let key : f.key ≡ g.key = cc in
    let first_low : f.first.low ≡ g.first.low = cc in
    let first_high : f.first.high ≡ g.first.high = cc in
    let second_low : f.second.low ≡ g.second.low = cc in
    let second_high : f.second.high ≡ g.second.high = cc in
    let third_low : f.third.low ≡ g.third.low = cc in
    let third_high : f.third.high ≡ g.third.high = cc in
    λ i. record {
      key = key i;
      first = record { low = first_low i; high = first_high i };
      second = record { low = second_low i; high = second_high i };
      third = record { low = third_low i; high = third_high i };
    }

pub no_later_self : (f : Form) → IsNoLater f f
no_later_self f = elim (cases_Bool (is_lt (slice_cmp nat_cmp (form_words f) (form_words f)))) [
  | inl less ↦ form_order.one_way f f less
  | inr not_less ↦ not_less
]

pub no_later_chain : (f g h : Form) → IsNoLater f g → IsNoLater g h → IsNoLater f h
no_later_chain f g h first second = form_order.chain h g f second first

-- two forms neither of which is later are the same
pub no_later_both : (f g : Form) → IsNoLater f g → IsNoLater g f → f ≡ g
no_later_both f g first second = same_words f g (exact_bytes (form_words f) (form_words g)
    (neither_less (slice_cmp nat_cmp (form_words f) (form_words g))
    (slice_cmp nat_cmp (form_words g) (form_words f))
    (nat_list_cmp_total.antisymm (form_words f) (form_words g)) second first))

key_first : (a b : ℕ) (o : Ordering) → is_lt (ordering_then (nat_cmp b a) o) ≡ false → a ≤ b
key_first a b o none = let first : is_lt (nat_cmp b a) ≡ false = then_first (nat_cmp b a) o none in
    grind (arith, nat_tests)

pub no_later_key : (f g : Form) → IsNoLater f g → f.key ≤ g.key
no_later_key f g upto = key_first f.key g.key _ upto

less_first : (a b : ℕ) (o : Ordering) → a < b → is_lt (ordering_then (nat_cmp a b) o) ≡ true
less_first a b o less =
    let test : nat_lt a b ≡ true = grind (arith, nat_tests) in
    ap (λ c. is_lt (ordering_then (cond c Less (cond (a == b) Equal Greater)) o)) test

-- an ask with a lesser key comes before another
pub before_by_key : (a b : Waiting) → a.form.key < b.form.key → comes_before a b ≡ true
before_by_key a b less = less_first a.form.key b.form.key _ less

pub not_before_self : (a : Waiting) → comes_before a a ≡ false
not_before_self a = elim (cases_Bool (comes_before a a)) [
  | inl less ↦ wait_order.one_way a a less
  | inr not_less ↦ not_less
]

pub not_before : (a b : Waiting) → comes_before a b ≡ true → comes_before b a ≡ false
not_before a b less = wait_order.one_way a b less

pub not_before_chain : (a b c : Waiting) → comes_before a b ≡ false → comes_before b c ≡ false
    → comes_before a c ≡ false
not_before_chain a b c first second = wait_order.chain a b c first second

-- words that differ by their last one at most
slice_cmp-last : (xs ys : List ℕ) (a b : ℕ) → length xs ≡ length ys
    → slice_cmp nat_cmp (xs ++ a ∷ []) (ys ++ b ∷ []) ≡ ordering_then (slice_cmp nat_cmp xs ys)
    (slice_cmp nat_cmp (a ∷ []) (b ∷ []))
slice_cmp-last [] [] a b long = refl
slice_cmp-last [] (y ∷ ys) a b long = absurd (omega (arith, long))
slice_cmp-last (x ∷ xs) [] a b long = absurd (omega (arith, long))
slice_cmp-last (x ∷ xs) (y ∷ ys) a b long =
    ap (ordering_then (nat_cmp x y)) (slice_cmp-last xs ys a b (omega (arith, long)))
    ∙ then_next (nat_cmp x y) (slice_cmp nat_cmp xs ys) _ refl refl

by_form : (a b : Waiting) → slice_cmp nat_cmp (words_of a) (words_of b)
    ≡ ordering_then (slice_cmp nat_cmp (form_words a.form) (form_words b.form))
    (slice_cmp nat_cmp (a.asker ∷ []) (b.asker ∷ []))
by_form a b = slice_cmp-last (form_words a.form) (form_words b.form) a.asker b.asker refl

-- of two asks the one that isn't before the other isn't so in form either
pub forms_follow : (a b : Waiting) → comes_before b a ≡ false → IsNoLater a.form b.form
forms_follow a b none = then_first _ _ (sym (ap is_lt (by_form b a)) ∙ none)

slice_same : (xs : List ℕ) → slice_cmp nat_cmp xs xs ≡ Equal
slice_same [] = refl
slice_same (x ∷ xs) =
    let same : nat_cmp x x ≡ Equal = grind (arith, nat_tests) in
    ap (λ o. ordering_then o (slice_cmp nat_cmp xs xs)) same ∙ slice_same xs

-- and of two for one form its asker isn't less
pub askers_follow : (a b : Waiting) → comes_before b a ≡ false → a.form ≡ b.form → a.asker ≤ b.asker
askers_follow a b none same =
    let equal : slice_cmp nat_cmp (form_words b.form) (form_words a.form) ≡ Equal =
    ap (λ f. slice_cmp nat_cmp (form_words b.form) (form_words f)) same
    ∙ slice_same (form_words b.form) in
    let last : is_lt (slice_cmp nat_cmp (b.asker ∷ []) (a.asker ∷ [])) ≡ false =
    sym (ap is_lt (by_form b a
    ∙ ap (λ o. ordering_then o (slice_cmp nat_cmp (b.asker ∷ []) (a.asker ∷ []))) equal))
    ∙ none in
    key_first a.asker b.asker Equal last

-- of two asks by different askers one comes before the other
pub before_other : (a b : Waiting) → comes_before b a ≡ false → b.asker ≢ a.asker
    → comes_before a b ≡ true
before_other a b none other = elim (cases_Bool (comes_before a b)) [
  | inl before ↦ before
  | inr not_less ↦
      let same : words_of a ≡ words_of b = exact_bytes (words_of a) (words_of b)
      (neither_less (slice_cmp nat_cmp (words_of a) (words_of b)) (slice_cmp nat_cmp (words_of b)
      (words_of a))
      (nat_list_cmp_total.antisymm (words_of a) (words_of b)) not_less none) in
      let asker : b.asker ≡ a.asker = cc in
      absurd (other asker)
]
