-- binary searches among ascending rows
use Rattle.std.specs.Prelude.{◌≡◌, ◌⊎◌, ℕ, zero, suc, ◌<◌, ◌≤◌, ◌==◌, true, false, cond, ◌&&◌, List, [], ◌∷◌, length, get_or, insert}
use Rattle.std.specs.Prelude.{nat_lt, Result, Ok, Err, IsOk}
use Rattle.std.specs.List.{AllWithin, HoldsAt}
use Rattle.std.specs.List.Sorted.{IsNonDecreasingBy, IsBinarySearchResult, IsSearchInRange, IsPartitionPoint}
use Rattle.std.specs.Ordering.{nat_cmp, ordering_then, ordering_index}
use Rattle.std.specs.declared.cmp.Ordering.{Ordering}
use Rattle.std.specs.declared.cmp.Ordering.TheVariants.{Less, Equal, Greater}
use Rattle.std.proofs.Common.{refl, sym, ◌∙◌, ap, subst, inl, inr, arith}
use Rattle.std.proofs.lemmas.Bool.Decides.{nat_tests}
use Rattle.canon_file.specs.declared.row.Row.{Row}
use Rattle.list_laws.specs.Members.{Has, IsAscending, put}
use Rattle.canon_file.specs.Rows.{row_before, place_of}
use Rattle.std.proofs.lemmas.Bool.{cases_Bool}
use Rattle.list_laws.proofs.MemberLaws.{put_ascends, put_keeps, has_put, same_ascending}
use Rattle.canon_file.proofs.RowLaws.{same_row, row_order}
use Rattle.canon_file.proofs.StandLaws.{words_same, placed}

-- how a row compares
abbrev pub row_cmp : Row → Row → Ordering
row_cmp r s = ordering_then (nat_cmp r.low s.low) (nat_cmp r.high s.high)

less_before : (r s : Row) → row_cmp r s ≡ Less → row_before r s ≡ true
less_before r s e = grind (arith, nat_tests)

greater_before : (r s : Row) → row_cmp r s ≡ Greater → row_before s r ≡ true
greater_before r s e = grind (arith, nat_tests)

equal_same : (r s : Row) → row_cmp r s ≡ Equal → r ≡ s
equal_same r s e = same_row r s (grind (arith, nat_tests)) (grind (arith, nat_tests))

before_not : (r s : Row) → row_before r s ≡ true → row_before s r ≡ false
before_not r s e = grind (arith, nat_tests)

-- an earlier row compares no higher
index_rises : (r s x : Row) → row_before r s ≡ true → ordering_index (row_cmp r x) ≤ ordering_index (row_cmp s x)
index_rises r s x e = grind (arith, nat_tests)

cases_le : (i j : ℕ) → i ≤ j → (i < j) ⊎ (i ≡ j)
cases_le i j b = elim (cases_Bool (i == j)) [ inl e ↦ inr (grind (arith, nat_tests)) | inr e ↦ inl (grind (arith, nat_tests)) ]

pub has_at : (rs : List Row) (k : ℕ) (d : Row) → k < length rs → Has (get_or rs k d) rs
has_at [] k d l = absurd (omega arith)
has_at (r ∷ rs) zero d l = inl refl
has_at (r ∷ rs) (suc k) d l = inr (has_at rs k d (omega arith))

-- the row at an earlier place is before the one at a later place
ascending_at : (rs : List Row) (i j : ℕ) (d : Row) → IsAscending row_before rs → i < j → j < length rs → row_before (get_or rs i d) (get_or rs j d) ≡ true
ascending_at [] i j d a b l = absurd (omega arith)
ascending_at (r ∷ rs) i zero d a b l = absurd (omega arith)
ascending_at (r ∷ rs) zero (suc j) d a b l = a.0 (get_or rs j d) (has_at rs j d (omega arith))
ascending_at (r ∷ rs) (suc i) (suc j) d a b l = ascending_at rs i j d a.1 (omega arith) (omega arith)

pub rises : (rs : List Row) (x : Row) → IsAscending row_before rs → IsNonDecreasingBy (λ r. ordering_index (row_cmp r x)) rs
rises rs x a i j d b l =
    elim (cases_le i j b) [
      | inl before ↦ index_rises (get_or rs i d) (get_or rs j d) x (ascending_at rs i j d a before l)
      | inr same ↦ subst (λ k. ordering_index (row_cmp (get_or rs i d) x) ≤ ordering_index (row_cmp (get_or rs k d) x)) same (omega arith)
    ]

-- a row is put where the search says
pub insert_puts : (rs : List Row) (x : Row) (k : ℕ) → k ≤ length rs
    → AllWithin (λ r. row_cmp r x ≡ Less) rs 0 k → AllWithin (λ r. row_cmp r x ≡ Greater) rs k (length rs) → insert rs k x ≡ put row_before x rs
insert_puts [] x zero l below above = refl
insert_puts [] x (suc k) l below above = absurd (omega arith)
insert_puts (r ∷ rs) x zero l below above =
    let first : row_before x r ≡ true = greater_before r x (above 0 r (omega arith) (omega arith)) in
    λ j. cond (sym first j) (x ∷ r ∷ rs) (cond (row_before r x) (r ∷ put row_before x rs) (r ∷ rs))
insert_puts (r ∷ rs) x (suc k) l below above =
    let later : row_before r x ≡ true = less_before r x (below 0 r (omega arith) (omega arith)) in
    let not_first : row_before x r ≡ false = before_not r x later in
    let rest : insert rs k x ≡ put row_before x rs = insert_puts rs x k (omega arith)
    (λ j d a b. below (suc j) d (omega arith) (omega arith)) (λ j d a b. above (suc j) d (omega arith) (omega arith)) in
    ap (λ t. r ∷ t) rest ∙ (λ j. cond (sym not_first j) (x ∷ r ∷ rs) (cond (sym later j) (r ∷ put row_before x rs) (r ∷ rs)))

-- a row that is there is not put again
pub put_same : (rs : List Row) (x : Row) → IsAscending row_before rs → Has x rs → put row_before x rs ≡ rs
put_same rs x a h =
    same_ascending row_before row_order (put row_before x rs) rs (put_ascends row_before row_order x rs a) a (record {
      there = λ z m. elim (has_put row_before x z rs m) [ inl e ↦ subst (λ w. Has w rs) e h | inr k ↦ k ];
      back = λ z m. put_keeps row_before x z rs m;
    })

-- a row that stands at a place has that place
pub place_at : (rs : List Row) (x d : Row) (k : ℕ) → IsAscending row_before rs → k < length rs → get_or rs k d ≡ x → place_of x rs ≡ k
place_at [] x d k a l e = absurd (omega arith)
place_at (r ∷ rs) x d zero a l e = (λ j. cond (by j) 0 (suc (place_of x rs)))
  where
    by : ((x.low == r.low) && (x.high == r.high)) ≡ true
    by = ap (λ (s : Row). (x.low == s.low) && (x.high == s.high)) e ∙ words_same x
place_at (r ∷ rs) x d (suc k) a l e =
    let before : row_before r x ≡ true = subst (λ y. row_before r y ≡ true) e (a.0 (get_or rs k d) (has_at rs k d (omega arith))) in
    let other : ((x.low == r.low) && (x.high == r.high)) ≡ false = grind (arith, nat_tests) in
    (λ j. cond (other j) 0 (suc (place_of x rs))) ∙ ap suc (place_at rs x d k a.1 (omega arith) e)

-- what a search finds is the row
pub search_ok : (rs : List Row) (x d : Row) (k : ℕ) → HoldsAt (λ r. row_cmp r x ≡ Equal) rs k → get_or rs k d ≡ x
search_ok rs x d k h = equal_same (get_or rs k d) x (h d)

itself_equal : (x : Row) → row_cmp x x ≡ Equal
itself_equal x = grind (arith, nat_tests)

-- a row that is there is found
pub search_found : (rs : List Row) (x : Row) (r : Result ℕ ℕ) → IsAscending row_before rs → Has x rs → IsBinarySearchResult (λ y. row_cmp y x) rs r → IsOk r
search_found rs x (Ok k) a h s = refl
search_found rs x (Err k) a h s =
    let (below, here) = placed x rs x h in
    let split = s (rises rs x a) in
    let same : row_cmp (get_or rs (place_of x rs) x) x ≡ Equal = ap (λ y. row_cmp y x) here ∙ itself_equal x in
    elim (cases_Bool (nat_lt (place_of x rs) k)) [
      | inl e ↦ (let less : row_cmp (get_or rs (place_of x rs) x) x ≡ Less = split.0 (place_of x rs) x (omega arith) (grind (arith, nat_tests)) in cc)
      | inr e ↦ (let greater : row_cmp (get_or rs (place_of x rs) x) x ≡ Greater = split.1 (place_of x rs) x (grind (arith, nat_tests)) below in cc)
    ]

-- and its place is given
pub search_place : (rs : List Row) (x : Row) (r : Result ℕ ℕ) (k : ℕ) → IsAscending row_before rs → r ≡ Ok k
    → IsSearchInRange r (length rs) → IsBinarySearchResult (λ y. row_cmp y x) rs r → place_of x rs ≡ k
search_place rs x r k a e bound found =
    let below : k < length rs = subst (λ q. IsSearchInRange q (length rs)) e bound in
    let here = subst (IsBinarySearchResult (λ y. row_cmp y x) rs) e found in
    place_at rs x x k a below (search_ok rs x x k here)

-- where a search finds no row, it says where to put it
pub put_searched : (seen rs more : List Row) (x : Row) (k : ℕ) → seen ≡ rs → IsAscending row_before rs → k ≤ length seen
    → IsBinarySearchResult (λ y. row_cmp y x) seen (Err k) → more ≡ insert rs k x → more ≡ put row_before x rs
put_searched seen rs more x k same a l s put_in =
    let split = subst (λ l. IsPartitionPoint (λ y. row_cmp y x ≡ Less) (λ y. row_cmp y x ≡ Greater) l k) same (s (rises seen x (subst (IsAscending row_before) (sym same) a))) in
    put_in ∙ insert_puts rs x k (subst (λ l. k ≤ length l) same l) split.0 split.1

-- a row that it finds is not put again
pub put_found : (seen rs : List Row) (x : Row) (k : ℕ) → seen ≡ rs → IsAscending row_before rs → k < length seen
    → HoldsAt (λ y. row_cmp y x ≡ Equal) seen k → rs ≡ put row_before x rs
put_found seen rs x k same a l h =
    sym (put_same rs x a (subst (Has x) same (subst (λ y. Has y seen) (search_ok seen x x k h) (has_at seen k x l))))
