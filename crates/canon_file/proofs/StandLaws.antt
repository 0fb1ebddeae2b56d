-- pointers stand for their pieces
use Rattle.std.specs.Prelude.{◌≡◌, ◌⊎◌, ℕ, zero, suc, ◌+◌, ◌*◌, ◌^◌, ◌<◌, ◌≤◌, ◌==◌, Bool, true, false, cond, ◌&&◌, List, [], ◌∷◌, ◌++◌, length, get_or}
use Rattle.std.proofs.Common.{refl, sym, ◌∙◌, ap, subst, inl, inr, true≢false, arith}
use Rattle.std.proofs.lemmas.List.{append-nil, append_assoc}
use Rattle.std.proofs.lemmas.Bool.Decides.{nat_tests}
use Rattle.bool_tables.specs.Tables.{low_half, high_half}
use Rattle.rec_words.specs.declared.node.Node.{Node}
use Rattle.rec_words.specs.Words.{terminal}
use Rattle.canon_file.specs.declared.row.Row.{Row}
use Rattle.list_laws.specs.Members.{Has}
use Rattle.canon_file.specs.Pieces.{splits, halves}
use Rattle.canon_file.specs.Rows.{row_word, place_of, row_of, rows_with, pointer, levels, Fits}
use Rattle.canon_file.specs.Canon.{numbered, nodes_of, canon_nodes, canon_root}
use Rattle.canon_file.specs.Walks.{is_at, table_of, nowhere, row_at, Agrees}
use Rattle.std.proofs.lemmas.Bool.{cases_Bool}
pub use Rattle.list_laws.proofs.MemberLaws.{has_append}
use Rattle.canon_file.proofs.PieceLaws.{length-low, length-high, joined, unsplit, has_low, has_high}
use Rattle.canon_file.proofs.RowLaws.{same_row, has_row}

pub at_level : (i k : ℕ) → is_at i (row_word i k) ≡ true
at_level i k = grind (arith, nat_tests)

pub deeper_at : (i w : ℕ) → suc i * 2 ^ 47 ≤ w → is_at i w ≡ false
deeper_at i w d = grind (arith, nat_tests)

terminal_deep : (b : Bool) → 2 ^ 63 ≤ terminal b
terminal_deep true = omega arith
terminal_deep false = omega arith

-- the pointer of a piece of level i is of that level or deeper
pub pointer_deep : (h i : ℕ) (ps : List (List Bool)) (p : List Bool) → i + h ≤ 65536 → i * 2 ^ 47 ≤ pointer h i ps p
pointer_deep zero i ps p l = omega (arith, terminal_deep (get_or p 0 false))
pointer_deep (suc h) i ps p l =
    let below : List Bool → ℕ = pointer h (suc i) (halves h ps) in
    let deep : suc i * 2 ^ 47 ≤ below (low_half h p) = pointer_deep h (suc i) (halves h ps) (low_half h p) (omega arith) in
    elim (splits h p) as (λ b. i * 2 ^ 47 ≤ cond b (row_word i (place_of (row_of below h p) (rows_with below h ps))) (below (low_half h p)))
    [ true ↦ omega arith | false ↦ omega arith ]

-- rows that the test finds the same are the same
pub same_words : (r s : Row) → ((r.low == s.low) && (r.high == s.high)) ≡ true → r ≡ s
same_words r s e = same_row r s (grind (arith, nat_tests)) (grind (arith, nat_tests))

pub words_same : (r : Row) → ((r.low == r.low) && (r.high == r.high)) ≡ true
words_same r = grind (arith, nat_tests)

-- a row stands at its place
pub placed : (r : Row) (rs : List Row) (d : Row) → Has r rs → (place_of r rs < length rs) × (get_or rs (place_of r rs) d ≡ r)
placed r [] d h = absurd h
placed r (s ∷ ss) d h = by (placed r ss d) ((r.low == s.low) && (r.high == s.high)) refl h
  where
    by : (Has r ss → (place_of r ss < length ss) × (get_or ss (place_of r ss) d ≡ r)) → (b : Bool) → ((r.low == s.low) && (r.high == s.high)) ≡ b → (s ≡ r) ⊎ Has r ss
        → (cond b 0 (suc (place_of r ss)) < suc (length ss)) × (get_or (s ∷ ss) (cond b 0 (suc (place_of r ss))) d ≡ r)
    by rest true e k = (omega arith, sym (same_words r s e))
    by rest false e (inl same) = absurd (true≢false (sym (words_same r) ∙ ap (λ (t : Row). (r.low == t.low) && (r.high == t.high)) (sym same) ∙ e))
    by rest false e (inr member) = let (below, here) = rest member in (omega arith, here)

-- the pointer of a piece stands for the piece, where the nodes are the rows of its level and of each deeper one
pub pointer_stands : (arcs : ℕ → Row) (h i : ℕ) (ps : List (List Bool)) (p : List Bool) → i + h ≤ 65535
    → Agrees arcs i (levels h i ps) → Fits (levels h i ps) → Has p ps → length p ≡ 2 ^ h → table_of arcs h i (pointer h i ps p) ≡ p
pointer_stands arcs zero i ps [] l a f m n = absurd (omega arith)
pointer_stands arcs zero i ps (true ∷ []) l a f m n = refl
pointer_stands arcs zero i ps (false ∷ []) l a f m n = refl
pointer_stands arcs zero i ps (b ∷ c ∷ p) l a f m n = absurd (omega arith)
pointer_stands arcs (suc h) i ps p l a f m n =
    let below : List Bool → ℕ = pointer h (suc i) (halves h ps) in
    let low : table_of arcs h (suc i) (below (low_half h p)) ≡ low_half h p = pointer_stands arcs h (suc i) (halves h ps) (low_half h p) (omega arith) a.1 f.1 (has_low h p ps m) (length-low h p n) in
    let high : table_of arcs h (suc i) (below (high_half h p)) ≡ high_half h p = pointer_stands arcs h (suc i) (halves h ps) (high_half h p) (omega arith) a.1 f.1 (has_high h p ps m) (length-high h p n) in
    elim (cases_Bool (splits h p)) [
      | inl e ↦
          let r = row_of below h p in
          let at = placed r (rows_with below h ps) nowhere (has_row below h p ps m e) in
          let here : arcs (row_word i (place_of r (rows_with below h ps))) ≡ r = a.0 _ at.0 ∙ at.1 in
          rw (e, at_level i (place_of r (rows_with below h ps)), here, low, high) (joined h p)
      | inr e ↦
          rw (e, deeper_at i (below (low_half h p)) (pointer_deep h (suc i) (halves h ps) (low_half h p) (omega arith)), low) (ap (λ q. low_half h p ++ q) (unsplit h p e) ∙ joined h p)
    ]

-- a look-up passes by the nodes with greater identifiers
row_at-skip : (w : ℕ) (xs ys : List Node) → ((x : Node) → Has x xs → w < x.uid) → row_at (xs ++ ys) w ≡ row_at ys w
row_at-skip w [] ys above = refl
row_at-skip w (x ∷ xs) ys above =
    let greater : w < x.uid = above x (inl refl) in
    let other : (x.uid == w) ≡ false = grind (arith, nat_tests) in
    rw other (row_at-skip w xs ys (λ y m. above y (inr m)))

-- it finds the row at each place
row_at-numbered : (i k j : ℕ) (rs : List Row) (ys : List Node) → j < length rs → k + length rs ≤ 2 ^ 47
    → row_at (numbered i k rs ++ ys) (row_word i (k + j)) ≡ get_or rs j nowhere
row_at-numbered i k j [] ys b f = absurd (omega arith)
row_at-numbered i k zero (r ∷ rs) ys b f =
    let here : (row_word i k == row_word i (k + 0)) ≡ true = grind (arith, nat_tests) in
    rw here refl
row_at-numbered i k (suc j) (r ∷ rs) ys b f =
    let other : (row_word i k == row_word i (k + suc j)) ≡ false = grind (arith, nat_tests) in
    let next : k + suc j ≡ suc k + j = omega arith in
    rw other (ap (λ w. row_at (numbered i (suc k) rs ++ ys) (row_word i w)) next ∙ row_at-numbered i (suc k) j rs ys (omega arith) (omega arith))

numbered_at : (i k : ℕ) (rs : List Row) (x : Node) → Has x (numbered i k rs) → i * 2 ^ 47 ≤ x.uid
numbered_at i k [] x h = absurd h
numbered_at i k (r ∷ rs) x (inl e) = let same : row_word i k ≡ x.uid = ap (λ (y : Node). y.uid) e in omega arith
numbered_at i k (r ∷ rs) x (inr h) = numbered_at i (suc k) rs x h

-- the nodes of level i and of deeper ones are of level i at least
pub nodes_deep : (i : ℕ) (ls : List (List Row)) (x : Node) → Has x (nodes_of i ls) → i * 2 ^ 47 ≤ x.uid
nodes_deep i [] x h = absurd h
nodes_deep i (rs ∷ deeper) x h =
    elim (has_append x (nodes_of (suc i) deeper) (numbered i 0 rs) h) [
      | inl m ↦ (let deep : suc i * 2 ^ 47 ≤ x.uid = nodes_deep (suc i) deeper x m in omega arith)
      | inr m ↦ numbered_at i 0 rs x m
    ]

-- the nodes of the levels have the rows of the levels
pub agrees : (i : ℕ) (ls : List (List Row)) (ys : List Node) → Fits ls → Agrees (row_at (nodes_of i ls ++ ys)) i ls
agrees i [] ys f = tt
agrees i (rs ∷ deeper) ys f =
    subst (λ ns. Agrees (row_at ns) i (rs ∷ deeper)) (sym (append_assoc (nodes_of (suc i) deeper) (numbered i 0 rs) ys)) (
      (λ k b. row_at-skip (row_word i k) (nodes_of (suc i) deeper) (numbered i 0 rs ++ ys)
          (λ x m. let deep : suc i * 2 ^ 47 ≤ x.uid = nodes_deep (suc i) deeper x m in omega (arith, f.0))
          ∙ ap (λ w. row_at (numbered i 0 rs ++ ys) (row_word i w)) (zero_plus k) ∙ row_at-numbered i 0 k rs ys b (omega (arith, f.0))),
      agrees (suc i) deeper (numbered i 0 rs ++ ys) f.1,
    )
  where
    zero_plus : (k : ℕ) → k ≡ 0 + k
    zero_plus k = omega arith

-- the canonical nodes, walked from the root, stand for the table
pub nodes_stand : (n : ℕ) (t : List Bool) → n ≤ 65535 → length t ≡ 2 ^ n → Fits (levels n 0 (t ∷ []))
    → table_of (row_at (canon_nodes n t)) n 0 (canon_root n t) ≡ t
unfolding canon_nodes canon_root
nodes_stand n t few long fits =
    let agree = subst (λ ns. Agrees (row_at ns) 0 (levels n 0 (t ∷ []))) (append-nil (canon_nodes n t)) (agrees 0 (levels n 0 (t ∷ [])) [] fits) in
    pointer_stands (row_at (canon_nodes n t)) n 0 (t ∷ []) t (omega arith) agree fits (inl refl) long

-- equal nodes and roots stand for equal tables
pub tables_unique : (n : ℕ) (t u : List Bool) → n ≤ 65535 → length t ≡ 2 ^ n → length u ≡ 2 ^ n
    → Fits (levels n 0 (t ∷ [])) → Fits (levels n 0 (u ∷ [])) → canon_nodes n t ≡ canon_nodes n u → canon_root n t ≡ canon_root n u → t ≡ u
tables_unique n t u few long-t long-u fits-t fits-u nodes root =
    sym (nodes_stand n t few long-t fits-t) ∙ (λ j. table_of (row_at (nodes j)) n 0 (root j)) ∙ nodes_stand n u few long-u fits-u

-- on one level, different pieces have different pointers
pub injective : (h i : ℕ) (ps : List (List Bool)) (p q : List Bool) → i + h ≤ 65535 → Fits (levels h i ps)
    → Has p ps → Has q ps → length p ≡ 2 ^ h → length q ≡ 2 ^ h → pointer h i ps p ≡ pointer h i ps q → p ≡ q
injective h i ps p q few fits in-p in-q long-p long-q same =
    let arcs : ℕ → Row = row_at (nodes_of i (levels h i ps)) in
    let agree : Agrees arcs i (levels h i ps) = subst (λ ns. Agrees (row_at ns) i (levels h i ps)) (append-nil (nodes_of i (levels h i ps))) (agrees i (levels h i ps) [] fits) in
    sym (pointer_stands arcs h i ps p few agree fits in-p long-p) ∙ ap (table_of arcs h i) same ∙ pointer_stands arcs h i ps q few agree fits in-q long-q
