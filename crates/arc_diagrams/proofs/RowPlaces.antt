-- where rows stand in a level, and the nodes that they have
use Rattle.std.specs.Prelude.{◌≡◌, ℕ, suc, ◌+◌, ◌==◌, ◌&&◌, true, false, cond, List, [], ◌∷◌, ◌++◌, length}
use Rattle.std.proofs.Common.{refl, sym, ◌∙◌, ap, inl, inr, true≢false, arith}
use Rattle.std.proofs.lemmas.Bool.Decides.{nat_tests}
use Rattle.rec_words.specs.declared.node.Node.{Node}
use Rattle.canon_file.specs.declared.row.Row.{Row}
use Rattle.canon_file.specs.Members.{Has, IsAscending}
use Rattle.canon_file.specs.Rows.{row_before, row_word, place_of}
use Rattle.canon_file.specs.Canon.{numbered}
use Rattle.canon_file.proofs.MemberLaws.{either_bit}
pub use Rattle.list_laws.proofs.MemberLaws.{has_left, has_right}
use Rattle.canon_file.proofs.StandLaws.{same_words, words_same}

-- a row that is there has a node, by its place
pub numbered_has : (i k : ℕ) (r : Row) (rs : List Row) → Has r rs
    → (x : Node) × Has x (numbered i k rs) × (x.uid ≡ row_word i (k + place_of r rs)) × (x.low ≡ r.low) × (x.high ≡ r.high)
numbered_has i k r [] m = absurd m
numbered_has i k r (s ∷ rs) m =
    elim (either_bit ((r.low == s.low) && (r.high == s.high))) [
      | inl e ↦
          let same : r ≡ s = same_words r s e in
          let place : k ≡ k + place_of r (s ∷ rs) = omega (arith, ap (λ b. cond b 0 (suc (place_of r rs))) e) in
          (record { uid = row_word i k; low = s.low; high = s.high }, inl refl, ap (row_word i) place, ap (λ (t : Row). t.low) (sym same), ap (λ (t : Row). t.high) (sym same))
      | inr e ↦ elim m [
        | inl same ↦ absurd (true≢false (sym (words_same r) ∙ ap (λ (t : Row). (r.low == t.low) && (r.high == t.high)) (sym same) ∙ e))
        | inr later ↦
            let (x, k', uid, low, high) = numbered_has i (suc k) r rs later in
            let place : suc k + place_of r rs ≡ k + place_of r (s ∷ rs) = omega (arith, ap (λ b. cond b 0 (suc (place_of r rs))) e) in
            (x, inr k', uid ∙ ap (row_word i) place, low, high)
      ]
    ]

-- a node of a level is that of the row which stands there
pub numbered_row : (i k : ℕ) (rs : List Row) (x : Node) → Has x (numbered i k rs)
    → (r : Row) × (front : List Row) × (rest : List Row) × (rs ≡ front ++ r ∷ rest) × (x.uid ≡ row_word i (k + length front)) × (x.low ≡ r.low) × (x.high ≡ r.high)
numbered_row i k [] x m = absurd m
numbered_row i k (r ∷ rs) x (inl e) =
    (r, [], rs, refl, ap (λ (y : Node). y.uid) (sym e) ∙ ap (row_word i) (omega arith), ap (λ (y : Node). y.low) (sym e), ap (λ (y : Node). y.high) (sym e))
numbered_row i k (r ∷ rs) x (inr m) =
    let (s, front, rest, row, uid, low, high) = numbered_row i (suc k) rs x m in
    (s, r ∷ front, rest, ap (λ l. r ∷ l) row, uid ∙ ap (row_word i) (omega arith), low, high)

before_other : (r s : Row) → row_before r s ≡ true → ((s.low == r.low) && (s.high == r.high)) ≡ false
before_other r s e = grind (arith, nat_tests)

-- in an ascending list a row stands at its place
pub place_at : (front : List Row) (r : Row) (rest : List Row) → IsAscending row_before (front ++ r ∷ rest)
    → place_of r (front ++ r ∷ rest) ≡ length front
place_at [] r rest a = ap (λ b. cond b 0 (suc (place_of r rest))) (words_same r)
place_at (s ∷ front) r rest a =
    let other : ((r.low == s.low) && (r.high == s.high)) ≡ false = before_other s r (a.0 r (has_right r front (r ∷ rest) (inl refl))) in
    ap (λ b. cond b 0 (suc (place_of r (front ++ r ∷ rest)))) other ∙ ap suc (place_at front r rest a.1)
