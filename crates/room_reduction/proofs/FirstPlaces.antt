-- What is made of a list place by place, with one place more.
use Rattle.std.proofs.Common.{◌≡◌, ◌∙◌, ℕ, suc, ◌+◌, List, [], ◌∷◌, ◌++◌, length, drop, sym, ap, subst, arith}
use Rattle.std.specs.Prelude.{get_or}
use Rattle.std.proofs.lemmas.List.{get_or-drop}
use Rattle.canon_file.specs.declared.row.Row.{Row}
use Rattle.canon_file.specs.Rows.{row_word}
use Rattle.canon_file.specs.Canon.{numbered}

-- lists that are the same from a place on have the same there
pub same_there : {X : Type 0} (xs ys : List X) (i : ℕ) (d : X) → drop i xs ≡ drop i ys → get_or xs i d ≡ get_or ys i d
same_there xs ys i d rest =
    let place : i + 0 ≡ i = omega arith in
    subst (λ k. get_or xs k d ≡ get_or ys k d) place
    (sym (get_or-drop i xs 0 d) ∙ ap (λ zs. get_or zs 0 d) rest ∙ get_or-drop i ys 0 d)

-- the nodes of rows with one more behind them
pub numbered_push : (i k n : ℕ) (rs : List Row) (r : Row) → k + length rs ≡ n
    → numbered i k (rs ++ r ∷ []) ≡ numbered i k rs ++ record { uid = row_word i n; low = r.low; high = r.high } ∷ []
numbered_push i k n [] r count =
    let place : k ≡ n = omega (arith, count) in
    ap (λ p. record { uid = row_word i p; low = r.low; high = r.high } ∷ []) place
numbered_push i k n (x ∷ rs) r count =
    ap (λ xs. record { uid = row_word i k; low = x.low; high = x.high } ∷ xs)
    (numbered_push i (suc k) n rs r (omega (arith, count)))
