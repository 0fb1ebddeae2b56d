-- the canonical nodes and root can stand in a node file
use Rattle.std.specs.Prelude.{◌≡◌, ℕ, zero, suc, ◌+◌, ◌*◌, ◌^◌, ◌<◌, ◌≤◌, Bool, true, false, List, [], ◌∷◌, ◌++◌, length, get_or, map, cond}
use Rattle.std.proofs.Common.{refl, sym, ◌∙◌, ap, subst, inl, inr, true≢false, arith}
use Rattle.std.proofs.lemmas.List.{append-nil}
use Rattle.bool_tables.specs.Tables.{low_half, high_half}
use Rattle.rec_words.specs.Words.{level_of, terminal, IsTerminal}
use Rattle.rec_words.specs.declared.node.Node.{Node}
use Rattle.canon_file.specs.declared.row.Row.{Row}
use Rattle.list_laws.specs.Members.{Has, SameMembers, ascending}
use Rattle.canon_file.specs.Pieces.{splits, halves}
use Rattle.canon_file.specs.Rows.{row_before, row_word, place_of, row_of, rows_with, pointer, levels, Fits}
use Rattle.canon_file.specs.Canon.{numbered, nodes_of, canon_nodes, canon_root}
use Rattle.canon_file.specs.NodeFiles.{IsProper, IsDescending, EndsAt, IsNodeFile}
use Rattle.std.proofs.lemmas.Bool.{cases_Bool}
use Rattle.canon_file.proofs.PieceLaws.{unsplit, unsplit_same, half_has, has_low, has_high, length-low, length-high}
use Rattle.canon_file.proofs.RowLaws.{row_has, pointer-split, pointer-unsplit, pointer_same, levels_same}
use Rattle.canon_file.proofs.StandLaws.{pointer_deep, injective, nodes_deep, words_same}
use Rattle.list_laws.proofs.MemberLaws.{has_append}
use Rattle.canon_file.proofs.ByteLaws.{nodes_are}

-- the pieces of the next level have half the length
halves_long : (h : ℕ) (ps : List (List Bool)) → ((p : List Bool) → Has p ps → length p ≡ 2 ^ suc h) → (q : List Bool) → Has q (halves h ps) → length q ≡ 2 ^ h
halves_long h ps long q m =
    let (p, k, e) = half_has h q ps m in
    elim e [ inl low ↦ ap length (sym low) ∙ length-low h p (long p k) | inr high ↦ ap length (sym high) ∙ length-high h p (long p k) ]

-- the node of a row, which stands at some place of the level
numbered_row : (i k : ℕ) (rs : List Row) (x : Node) → Has x (numbered i k rs) → (r : Row) × (j : ℕ) × Has r rs × (row_word i j ≡ x.uid) × (r.low ≡ x.low) × (r.high ≡ x.high)
numbered_row i k [] x m = absurd m
numbered_row i k (r ∷ rs) x (inl e) = (r, k, inl refl, ap (λ (y : Node). y.uid) e, ap (λ (y : Node). y.low) e, ap (λ (y : Node). y.high) e)
numbered_row i k (r ∷ rs) x (inr m) = let (s, j, h, uid, low, high) = numbered_row i (suc k) rs x m in (s, j, inr h, uid, low, high)

level-row_word : (i j : ℕ) → level_of (row_word i j) ≡ i
level-row_word i j = omega arith

deep_level : (i w : ℕ) → suc i * 2 ^ 47 ≤ w → i < level_of w
deep_level i w d = omega arith

-- the node of a piece that splits
row_proper : (h i : ℕ) (ps : List (List Bool)) (x : Node) → i + suc h ≤ 65535 → Fits (levels h (suc i) (halves h ps))
    → ((p : List Bool) → Has p ps → length p ≡ 2 ^ suc h) → Has x (nodes_of i (levels (suc h) i ps))
    → Has x (numbered i 0 (rows_with (pointer h (suc i) (halves h ps)) h ps)) → IsProper (i + suc h) x
row_proper h i ps x few fits long whole m =
    let f : List Bool → ℕ = pointer h (suc i) (halves h ps) in
    let (r, j, member, uid, low, high) = numbered_row i 0 (rows_with f h ps) x m in
    let (p, piece, split, e) = row_has f h r ps member in
    let is-low : f (low_half h p) ≡ x.low = ap (λ (s : Row). s.low) e ∙ low in
    let is-high : f (high_half h p) ≡ x.high = ap (λ (s : Row). s.high) e ∙ high in
    let level : level_of x.uid ≡ i = sym (ap level_of uid) ∙ level-row_word i j in
    let below-low : i < level_of x.low = deep_level i x.low (subst (λ w. suc i * 2 ^ 47 ≤ w) is-low (pointer_deep h (suc i) (halves h ps) (low_half h p) (omega arith))) in
    let below-high : i < level_of x.high = deep_level i x.high (subst (λ w. suc i * 2 ^ 47 ≤ w) is-high (pointer_deep h (suc i) (halves h ps) (high_half h p) (omega arith))) in
    record {
      words = nodes_are (suc h) i ps x few whole;
      level = omega arith;
      differ = λ same. true≢false (sym split ∙ unsplit_same h p (injective h (suc i) (halves h ps) (low_half h p) (high_half h p) (omega arith) fits
          (has_low h p ps piece) (has_high h p ps piece) (length-low h p (long p piece)) (length-high h p (long p piece)) (is-low ∙ same ∙ sym is-high)));
      low = omega arith;
      high = omega arith;
    }

-- in a file for more variables it is proper too
proper_more : (m n : ℕ) (x : Node) → m ≡ n → IsProper m x → IsProper n x
proper_more m n x e p = subst (λ k. IsProper k x) e p

pub nodes_proper : (h i : ℕ) (ps : List (List Bool)) (x : Node) → i + h ≤ 65535 → Fits (levels h i ps)
    → ((p : List Bool) → Has p ps → length p ≡ 2 ^ h) → Has x (nodes_of i (levels h i ps)) → IsProper (i + h) x
nodes_proper zero i ps x few fits long m = absurd m
nodes_proper (suc h) i ps x few fits long m =
    elim (has_append x (nodes_of (suc i) (levels h (suc i) (halves h ps))) (numbered i 0 (rows_with (pointer h (suc i) (halves h ps)) h ps)) m) [
      | inl k ↦ proper_more (suc i + h) (i + suc h) x (omega arith) (nodes_proper h (suc i) (halves h ps) x (omega arith) fits.1 (halves_long h ps long) k)
      | inr k ↦ row_proper h i ps x few fits.1 long m k
    ]

-- nodes descend where each part does and the first part is above the second
descending-append : (xs ys : List Node) → IsDescending xs → IsDescending ys → ((x y : Node) → Has x xs → Has y ys → y.uid < x.uid) → IsDescending (xs ++ ys)
descending-append [] ys a b above = b
descending-append (x ∷ xs) ys a b above = (
  (λ y m. elim (has_append y xs ys m) [ inl k ↦ a.0 y k | inr k ↦ above x y (inl refl) k ]),
  descending-append xs ys a.1 b (λ z y h k. above z y (inr h) k),
)

numbered_later : (i k : ℕ) (rs : List Row) (x : Node) → k + length rs ≤ 2 ^ 47 → Has x (numbered i k rs) → (x.uid ≤ row_word i k) × (x.uid < suc i * 2 ^ 47)
numbered_later i k [] x f m = absurd m
numbered_later i k (r ∷ rs) x f (inl e) = let uid : row_word i k ≡ x.uid = ap (λ (y : Node). y.uid) e in (omega arith, omega arith)
numbered_later i k (r ∷ rs) x f (inr m) = let (below, level) = numbered_later i (suc k) rs x (omega arith) m in (omega arith, level)

numbered_descends : (i k : ℕ) (rs : List Row) → k + length rs ≤ 2 ^ 47 → IsDescending (numbered i k rs)
numbered_descends i k [] f = tt
numbered_descends i k (r ∷ []) f = ((λ y m. absurd m), tt)
numbered_descends i k (r ∷ s ∷ rs) f =
    ((λ y m. let (below, level) = numbered_later i (suc k) (s ∷ rs) y (omega arith) m in omega arith), numbered_descends i (suc k) (s ∷ rs) (omega arith))

pub nodes_descend : (i : ℕ) (ls : List (List Row)) → Fits ls → IsDescending (nodes_of i ls)
nodes_descend i [] fits = tt
nodes_descend i (rs ∷ deeper) fits =
    descending-append (nodes_of (suc i) deeper) (numbered i 0 rs) (nodes_descend (suc i) deeper fits.1) (numbered_descends i 0 rs (omega (arith, fits.0)))
    (λ x y h k. let deep : suc i * 2 ^ 47 ≤ x.uid = nodes_deep (suc i) deeper x h in
    let (below, level) = numbered_later i 0 rs y (omega (arith, fits.0)) k in omega arith)

-- a list ends at its last node
ends_last : (xs : List Node) (x : Node) → EndsAt x.uid (xs ++ x ∷ [])
ends_last [] x = refl
ends_last (y ∷ []) x = refl
ends_last (y ∷ z ∷ xs) x = ends_last (z ∷ xs) x

pub terminal_ends : (b : Bool) → IsTerminal (terminal b)
terminal_ends true = inr refl
terminal_ends false = inl refl

once_same : {X : Type 0} (x y : X) → x ≡ y → SameMembers (x ∷ y ∷ []) (x ∷ [])
once_same x y e = record { there = λ z m. elim m [ inl k ↦ inl k | inr k ↦ elim k [ inl l ↦ inl (e ∙ l) | inr n ↦ inr n ] ]; back = λ z m. elim m [ inl k ↦ inl k | inr n ↦ absurd n ] }

-- the pointer of a single piece is where the nodes end
pub nodes_end : (h i : ℕ) (p : List Bool) → EndsAt (pointer h i (p ∷ []) p) (nodes_of i (levels h i (p ∷ [])))
nodes_end zero i p = terminal_ends (get_or p 0 false)
nodes_end (suc h) i p =
    let f : List Bool → ℕ = pointer h (suc i) (halves h (p ∷ [])) in
    let deeper : List Node = nodes_of (suc i) (levels h (suc i) (halves h (p ∷ []))) in
    elim (cases_Bool (splits h p)) [
      | inl e ↦
          let r : Row = row_of f h p in
          let rows : rows_with f h (p ∷ []) ≡ r ∷ [] = ap (ascending row_before) (ap (map (row_of f h)) (λ j. cond (e j) (p ∷ []) [])) in
          let place : place_of r (r ∷ []) ≡ 0 = ap (λ b. cond b 0 1) (words_same r) in
          let uid : pointer (suc h) i (p ∷ []) p ≡ row_word i 0 = pointer-split h i (p ∷ []) p e ∙ (λ j. row_word i (place_of r (rows j))) ∙ ap (row_word i) place in
          let end : EndsAt (row_word i 0) (deeper ++ numbered i 0 (r ∷ [])) = ends_last deeper (record { uid = row_word i 0; low = r.low; high = r.high }) in
          subst (λ w. EndsAt w (deeper ++ numbered i 0 (rows_with f h (p ∷ [])))) (sym uid)
          (subst (λ rs. EndsAt (row_word i 0) (deeper ++ numbered i 0 rs)) (sym rows) end)
      | inr e ↦
          let rows : rows_with f h (p ∷ []) ≡ [] = ap (ascending row_before) (ap (map (row_of f h)) (λ j. cond (e j) (p ∷ []) [])) in
          let members : SameMembers (halves h (p ∷ [])) (low_half h p ∷ []) = once_same (low_half h p) (high_half h p) (unsplit h p e) in
          let down : pointer (suc h) i (p ∷ []) p ≡ pointer h (suc i) (low_half h p ∷ []) (low_half h p) =
          pointer-unsplit h i (p ∷ []) p e ∙ (λ j. pointer_same h (suc i) _ _ members j (low_half h p)) in
          let nodes : deeper ++ numbered i 0 (rows_with f h (p ∷ [])) ≡ nodes_of (suc i) (levels h (suc i) (low_half h p ∷ [])) =
          (λ j. deeper ++ numbered i 0 (rows j)) ∙ append-nil deeper ∙ (λ j. nodes_of (suc i) (levels_same h (suc i) _ _ members j)) in
          subst (λ w. EndsAt w (deeper ++ numbered i 0 (rows_with f h (p ∷ [])))) (sym down)
          (subst (λ ns. EndsAt (pointer h (suc i) (low_half h p ∷ []) (low_half h p)) ns) (sym nodes) (nodes_end h (suc i) (low_half h p)))
    ]

pub is_node_file : (n : ℕ) (t : List Bool) → n ≤ 65535 → length t ≡ 2 ^ n → Fits (levels n 0 (t ∷ [])) → IsNodeFile n t
unfolding canon_nodes canon_root
is_node_file n t few long fits = record {
  proper = λ x m. proper_more (0 + n) n x (omega arith) (nodes_proper n 0 (t ∷ []) x (omega arith) fits (λ p k. elim k [ inl e ↦ ap length (sym e) ∙ long | inr k ↦ absurd k ]) m);
  descend = nodes_descend 0 (levels n 0 (t ∷ [])) fits;
  root = nodes_end n 0 t;
}
