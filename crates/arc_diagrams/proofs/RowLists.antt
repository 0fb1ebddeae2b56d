-- the distinct rows of an ascending list
use Rattle.std.specs.Prelude.{◌≡◌, ◌==◌, ◌&&◌, ℕ, suc, ◌+◌, true, false, cond, List, [], ◌∷◌, ◌++◌, length, Some, None}
use Rattle.std.proofs.Common.{refl, sym, ◌∙◌, ap, subst, inl, inr, arith}
use Rattle.std.proofs.lemmas.Bool.Decides.{nat_tests}
use Rattle.canon_file.specs.declared.row.Row.{Row}
use Rattle.canon_file.specs.Members.{Has, IsAscending, ascending}
use Rattle.canon_file.specs.Rows.{row_before, row_word}
use Rattle.canon_file.specs.Canon.{numbered}
use Rattle.canon_file.proofs.MemberLaws.{either_bit, ascending_ascends, ascending_keeps, has_ascending, same_ascending}
use Rattle.canon_file.proofs.RowLaws.{row_order}
use Rattle.canon_file.proofs.StandLaws.{same_words}
use Rattle.arc_diagrams.specs.Reducing.{distinct_after, IsRising}

-- a row that is the one before is left out, and another one is not
pub after-same : (p x : Row) (xs : List Row) → ((p.low == x.low) && (p.high == x.high)) ≡ true → distinct_after (Some p) (x ∷ xs) ≡ distinct_after (Some p) xs
after-same p x xs e = ap (λ b. cond b (distinct_after (Some p) xs) (x ∷ distinct_after (Some x) xs)) e

pub after-new : (p x : Row) (xs : List Row) → ((p.low == x.low) && (p.high == x.high)) ≡ false → distinct_after (Some p) (x ∷ xs) ≡ x ∷ distinct_after (Some x) xs
after-new p x xs e = ap (λ b. cond b (distinct_after (Some p) xs) (x ∷ distinct_after (Some x) xs)) e

-- of two different rows of which the second isn't before the first, the first is before the second
before_from : (p x : Row) → row_before x p ≡ false → ((p.low == x.low) && (p.high == x.high)) ≡ false → row_before p x ≡ true
before_from p x a e = grind (arith, nat_tests)

after_ascends : (p : Row) (xs : List Row) → ((y : Row) → Has y xs → row_before y p ≡ false) → IsRising xs
    → IsAscending row_before (p ∷ distinct_after (Some p) xs)
after_ascends p [] a rising = ((λ y m. absurd m), tt)
after_ascends p (x ∷ xs) a rising =
    elim (either_bit ((p.low == x.low) && (p.high == x.high))) [
      | inl e ↦
          subst (λ l. IsAscending row_before (p ∷ l)) (sym (after-same p x xs e)) (after_ascends p xs (λ y m. a y (inr m)) rising.1)
      | inr e ↦
          let rest : IsAscending row_before (x ∷ distinct_after (Some x) xs) = after_ascends x xs rising.0 rising.1 in
          let first : row_before p x ≡ true = before_from p x (a x (inl refl)) e in
          subst (λ l. IsAscending row_before (p ∷ l)) (sym (after-new p x xs e)) (
            (λ y m. elim m [ inl same ↦ subst (λ z. row_before p z ≡ true) same first | inr k ↦ row_order.joins p x y first (rest.0 y k) ]),
            rest,
          )
    ]

after_keeps : (p y : Row) (xs : List Row) → Has y xs → Has y (p ∷ distinct_after (Some p) xs)
after_keeps p y [] m = absurd m
after_keeps p y (x ∷ xs) m =
    elim (either_bit ((p.low == x.low) && (p.high == x.high))) [
      | inl e ↦
          subst (λ l. Has y (p ∷ l)) (sym (after-same p x xs e))
          (elim m [ inl same ↦ inl (same_words p x e ∙ same) | inr k ↦ after_keeps p y xs k ])
      | inr e ↦
          subst (λ l. Has y (p ∷ l)) (sym (after-new p x xs e))
          (elim m [ inl same ↦ inr (inl same) | inr k ↦ inr (after_keeps x y xs k) ])
    ]

after_within : (p y : Row) (xs : List Row) → Has y (distinct_after (Some p) xs) → Has y xs
after_within p y [] m = m
after_within p y (x ∷ xs) m =
    elim (either_bit ((p.low == x.low) && (p.high == x.high))) [
      | inl e ↦ inr (after_within p y xs (subst (Has y) (after-same p x xs e) m))
      | inr e ↦
          let k : Has y (x ∷ distinct_after (Some x) xs) = subst (Has y) (after-new p x xs e) m in
          elim k [ inl same ↦ inl same | inr l ↦ inr (after_within x y xs l) ]
    ]

-- the distinct rows of an ascending list are its members, ascending, each once
pub distinct_is : (xs : List Row) → IsRising xs → distinct_after None xs ≡ ascending row_before xs
distinct_is [] rising = refl
distinct_is (x ∷ xs) rising =
    same_ascending row_before row_order (x ∷ distinct_after (Some x) xs) (ascending row_before (x ∷ xs))
    (after_ascends x xs rising.0 rising.1) (ascending_ascends row_before row_order (x ∷ xs)) (record {
      there = λ y m. ascending_keeps row_before row_order y (x ∷ xs) (elim m [ inl e ↦ inl e | inr k ↦ inr (after_within x y xs k) ]);
      back = λ y m.
          let k : Has y (x ∷ xs) = has_ascending row_before y (x ∷ xs) m in
          elim k [ inl e ↦ inl e | inr l ↦ after_keeps x y xs l ];
    })

-- the nodes of a level with one row more
pub numbered_more : (i k : ℕ) (rs : List Row) (r : Row)
    → numbered i k (rs ++ r ∷ []) ≡ numbered i k rs ++ record { uid = row_word i (k + length rs); low = r.low; high = r.high } ∷ []
numbered_more i k [] r = let place : k ≡ k + 0 = omega arith in λ j. record { uid = row_word i (place j); low = r.low; high = r.high } ∷ []
numbered_more i k (s ∷ rs) r =
    let place : suc k + length rs ≡ k + suc (length rs) = omega arith in
    ap (λ xs. record { uid = row_word i k; low = s.low; high = s.high } ∷ xs) (numbered_more i (suc k) rs r)
    ∙ (λ j. record { uid = row_word i k; low = s.low; high = s.high } ∷ numbered i (suc k) rs ++ record { uid = row_word i (place j); low = r.low; high = r.high } ∷ [])
