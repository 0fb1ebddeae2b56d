-- Rows none of which is before the one in front of it.
use Rattle.std.specs.Prelude.{◌≡◌, ℕ, suc, ◌+◌, ◌<◌, Bool, false, cond, List, [], ◌∷◌, length, map, filter, get_or}
use Rattle.std.proofs.Common.{sym, ap, subst, inl, inr, arith}
use Rattle.std.proofs.lemmas.Bool.Decides.{nat_tests}
use Rattle.rec_words.specs.declared.rec.Rec.{Rec}
use Rattle.list_laws.specs.Members.{Has, IsAscending, ascending}
use Rattle.canon_file.specs.declared.row.Row.{Row}
use Rattle.canon_file.specs.Rows.{row_before}
use Rattle.canon_file.specs.Pairs.{differs}
use Rattle.canon_file.proofs.MemberLaws.{either_bit, filter_has, ascending_ascends}
use Rattle.canon_file.proofs.RowLaws.{row_order}
use Rattle.arc_diagrams.specs.Reducing.{IsRising}
use Rattle.arc_diagrams.proofs.RowLists.{distinct_is}
use Rattle.room_reduction.specs.Records.{row_in}
use Rattle.room_reduction.specs.Levels.{distinct_rows}

not_before : (x s r : Row) → row_before x s ≡ false → row_before s r ≡ false → row_before x r ≡ false
not_before x s r one two = grind (arith, nat_tests)

none_before : (r s : Row) (ss : List Row) → row_before s r ≡ false → IsRising (s ∷ ss) → (x : Row) → Has x (s ∷ ss)
    → row_before x r ≡ false
none_before r s ss first rising x (inl e) = subst (λ y. row_before y r ≡ false) e first
none_before r s ss first rising x (inr m) = not_before x s r (rising.0 x m) first

-- it is enough that none is before the next one in front
pub rising_by_next : (rs : List Rec) → ((k : ℕ) (d : Rec) → k + 1 < length rs
    → row_before (row_in (get_or rs (k + 1) d)) (row_in (get_or rs k d)) ≡ false) → IsRising (map row_in rs)
rising_by_next [] next = tt
rising_by_next (r ∷ []) next = ((λ x m. absurd m), tt)
rising_by_next (r ∷ s ∷ rs) next =
    let rest : IsRising (map row_in (s ∷ rs)) = rising_by_next (s ∷ rs) (λ k d below.
    let place : suc k + 1 ≡ suc (k + 1) = omega arith in
    subst (λ j. row_before (row_in (get_or (r ∷ s ∷ rs) j d)) (row_in (get_or (s ∷ rs) k d)) ≡ false) place
    (next (suc k) d (omega (arith, below)))) in
    (none_before (row_in r) (row_in s) (map row_in rs) (next 0 r (omega arith)) rest, rest)

-- those that pass a test rise too
rising_filter : (test : Row → Bool) (xs : List Row) → IsRising xs → IsRising (filter test xs)
rising_filter test [] rising = tt
rising_filter test (x ∷ xs) rising =
    elim (either_bit (test x)) [
      | inl e ↦
          subst IsRising (ap (λ b. cond b (x ∷ filter test xs) (filter test xs)) (sym e))
          ((λ y m. rising.0 y (filter_has test y xs m).0), rising_filter test xs rising.1)
      | inr e ↦
          subst IsRising (ap (λ b. cond b (x ∷ filter test xs) (filter test xs)) (sym e))
          (rising_filter test xs rising.1)
    ]

-- so the distinct rows are those that differ, ascending, each once
pub distinct_rows_are : (rows : List Rec) → IsRising (map row_in rows)
    → distinct_rows rows ≡ ascending row_before (filter differs (map row_in rows))
distinct_rows_are rows rising =
    distinct_is (filter differs (map row_in rows)) (rising_filter differs (map row_in rows) rising)

pub distinct_rows_ascend : (rows : List Rec) → IsRising (map row_in rows) → IsAscending row_before (distinct_rows rows)
distinct_rows_ascend rows rising =
    subst (IsAscending row_before) (sym (distinct_rows_are rows rising))
    (ascending_ascends row_before row_order (filter differs (map row_in rows)))
