-- the bytes of nodes and trailers determine them
use Rattle.std.specs.Prelude.{◌≡◌, ℕ, zero, suc, ◌+◌, ◌*◌, ◌^◌, ◌<◌, ◌≤◌, Bool, true, false, cond, List, [], ◌∷◌, ◌++◌, length, get_or, take, drop}
use Rattle.std.specs.Int.{w64, to_be_bytes, from_be_bytes}
use Rattle.std.proofs.Common.{refl, sym, ◌∙◌, ap, subst, inl, inr, arith}
use Rattle.std.proofs.lemmas.Nat.{from_be_bytes-to_be_bytes_8}
use Rattle.std.proofs.lemmas.List.{length-append}
use Rattle.bool_tables.specs.Tables.{low_half, high_half}
use Rattle.rec_words.specs.Words.{terminal, IsNodeWord, IsPointer}
use Rattle.rec_words.specs.Records.{IsNode}
use Rattle.rec_words.specs.RecordLaws.{pointer_fits}
use Rattle.rec_words.specs.declared.node.Node.{Node}
use Rattle.canon_file.specs.declared.row.Row.{Row}
use Rattle.list_laws.specs.Members.{Has}
use Rattle.canon_file.specs.Pieces.{splits, halves}
use Rattle.canon_file.specs.Rows.{row_word, place_of, row_of, rows_with, pointer, levels, Fits}
use Rattle.canon_file.specs.Canon.{numbered, nodes_of, canon_nodes, canon_root, node_bytes, trailer_bytes, canon_bytes}
use Rattle.canon_file.proofs.RowLaws.{row_has}
use Rattle.list_laws.proofs.MemberLaws.{has_append}
use Rattle.canon_file.proofs.StandLaws.{tables_unique}

-- words are read back
word_apart : (x y : ℕ) (a b : List ℕ) → x < 2 ^ 64 → y < 2 ^ 64 → to_be_bytes w64 x ++ a ≡ to_be_bytes w64 y ++ b → (x ≡ y) × (a ≡ b)
word_apart x y a b below-x below-y e =
    let bytes : to_be_bytes w64 x ≡ to_be_bytes w64 y = ap (take 8) e in
    (sym (from_be_bytes-to_be_bytes_8 x below-x) ∙ ap (from_be_bytes w64) bytes ∙ from_be_bytes-to_be_bytes_8 y below-y, ap (drop 8) e)

-- the bytes of nodes that follow others
pub node_bytes-append : (xs ys : List Node) → node_bytes (xs ++ ys) ≡ node_bytes xs ++ node_bytes ys
node_bytes-append [] ys = refl
node_bytes-append (x ∷ xs) ys =
    ap (λ bytes. to_be_bytes w64 x.uid ++ (to_be_bytes w64 x.low ++ (to_be_bytes w64 x.high ++ bytes))) (node_bytes-append xs ys)

pub length-node_bytes : (xs : List Node) → length (node_bytes xs) ≡ 24 * length xs
length-node_bytes [] = refl
length-node_bytes (x ∷ xs) = omega (arith, length-node_bytes xs)

-- the bytes of as many nodes, each of which has the words of a node, are read back
nodes_apart : (xs ys : List Node) (a b : List ℕ) → length xs ≡ length ys → ((x : Node) → Has x xs → IsNode x) → ((y : Node) → Has y ys → IsNode y)
    → node_bytes xs ++ a ≡ node_bytes ys ++ b → (xs ≡ ys) × (a ≡ b)
nodes_apart [] [] a b n f g e = (refl, e)
nodes_apart [] (y ∷ ys) a b n f g e = absurd (omega arith)
nodes_apart (x ∷ xs) [] a b n f g e = absurd (omega arith)
nodes_apart (x ∷ xs) (y ∷ ys) a b n f g e =
    let is-x : IsNode x = f x (inl refl) in
    let is-y : IsNode y = g y (inl refl) in
    let uid = word_apart x.uid y.uid (to_be_bytes w64 x.low ++ (to_be_bytes w64 x.high ++ (node_bytes xs ++ a)))
    (to_be_bytes w64 y.low ++ (to_be_bytes w64 y.high ++ (node_bytes ys ++ b))) (pointer_fits x.uid (inl is-x.uid)) (pointer_fits y.uid (inl is-y.uid)) e in
    let low = word_apart x.low y.low (to_be_bytes w64 x.high ++ (node_bytes xs ++ a)) (to_be_bytes w64 y.high ++ (node_bytes ys ++ b))
    (pointer_fits x.low is-x.low) (pointer_fits y.low is-y.low) uid.1 in
    let high = word_apart x.high y.high (node_bytes xs ++ a) (node_bytes ys ++ b) (pointer_fits x.high is-x.high) (pointer_fits y.high is-y.high) low.1 in
    let rest = nodes_apart xs ys a b (omega arith) (λ z m. f z (inr m)) (λ z m. g z (inr m)) high.1 in
    ((λ j. record { uid = uid.0 j; low = low.0 j; high = high.0 j } ∷ rest.0 j), rest.1)

terminal_is : (b : Bool) → IsPointer (terminal b)
terminal_is true = inr (inr refl)
terminal_is false = inr (inl refl)

row_word_is : (i k : ℕ) → i < 65535 → IsNodeWord (row_word i k)
row_word_is i k l = omega arith

-- the word of a piece is a pointer
pub pointer_is : (h i : ℕ) (ps : List (List Bool)) (p : List Bool) → i + h ≤ 65535 → IsPointer (pointer h i ps p)
pointer_is zero i ps p l = terminal_is (get_or p 0 false)
pointer_is (suc h) i ps p l =
    let below : List Bool → ℕ = pointer h (suc i) (halves h ps) in
    let later : IsPointer (below (low_half h p)) = pointer_is h (suc i) (halves h ps) (low_half h p) (omega arith) in
    elim (splits h p) as (λ b. IsPointer (cond b (row_word i (place_of (row_of below h p) (rows_with below h ps))) (below (low_half h p))))
    [ true ↦ inl (row_word_is i (place_of (row_of below h p) (rows_with below h ps)) (omega arith)) | false ↦ later ]

-- the nodes of rows of pointers are nodes
numbered_is : (i k : ℕ) (rs : List Row) (x : Node) → i < 65535 → ((r : Row) → Has r rs → IsPointer r.low × IsPointer r.high) → Has x (numbered i k rs) → IsNode x
numbered_is i k [] x l f h = absurd h
numbered_is i k (r ∷ rs) x l f (inl e) =
    subst IsNode e (record { uid = row_word_is i k l; low = (f r (inl refl)).0; high = (f r (inl refl)).1 })
numbered_is i k (r ∷ rs) x l f (inr h) = numbered_is i (suc k) rs x l (λ s m. f s (inr m)) h

pub nodes_are : (h i : ℕ) (ps : List (List Bool)) (x : Node) → i + h ≤ 65535 → Has x (nodes_of i (levels h i ps)) → IsNode x
nodes_are zero i ps x l m = absurd m
nodes_are (suc h) i ps x l m =
    let below : List Bool → ℕ = pointer h (suc i) (halves h ps) in
    elim (has_append x (nodes_of (suc i) (levels h (suc i) (halves h ps))) (numbered i 0 (rows_with below h ps)) m) [
      | inl k ↦ nodes_are h (suc i) (halves h ps) x (omega arith) k
      | inr k ↦ numbered_is i 0 (rows_with below h ps) x (omega arith) (λ r d.
          let (p, member, split, e) = row_has below h r ps d in (
            subst IsPointer (ap (λ (s : Row). s.low) e) (pointer_is h (suc i) (halves h ps) (low_half h p) (omega arith)),
            subst IsPointer (ap (λ (s : Row). s.high) e) (pointer_is h (suc i) (halves h ps) (high_half h p) (omega arith)),
          )) k
    ]

length-bytes : (n : ℕ) (t : List Bool) → length (canon_bytes n t) ≡ 24 * length (canon_nodes n t) + 24
unfolding canon_bytes
length-bytes n t =
    length-append (node_bytes (canon_nodes n t)) (trailer_bytes (canon_root n t) (length (canon_nodes n t)) n)
    ∙ ap (λ k. k + 24) (length-node_bytes (canon_nodes n t))

-- equal canonical bytes are those of equal nodes and of equal roots, so of equal tables
pub bytes_unique : (n : ℕ) (t u : List Bool) → n ≤ 65535 → length t ≡ 2 ^ n → length u ≡ 2 ^ n
    → Fits (levels n 0 (t ∷ [])) → Fits (levels n 0 (u ∷ [])) → canon_bytes n t ≡ canon_bytes n u → t ≡ u
unfolding canon_nodes canon_root canon_bytes
bytes_unique n t u few long-t long-u fits-t fits-u e =
    let count : length (canon_nodes n t) ≡ length (canon_nodes n u) = omega (arith, length-bytes n t, length-bytes n u, ap length e) in
    let apart = nodes_apart (canon_nodes n t) (canon_nodes n u) (trailer_bytes (canon_root n t) (length (canon_nodes n t)) n) (trailer_bytes (canon_root n u) (length (canon_nodes n u)) n)
    count (λ x. nodes_are n 0 (t ∷ []) x (omega arith)) (λ x. nodes_are n 0 (u ∷ []) x (omega arith)) e in
    let root = word_apart (canon_root n t) (canon_root n u) (to_be_bytes w64 (length (canon_nodes n t)) ++ to_be_bytes w64 n) (to_be_bytes w64 (length (canon_nodes n u)) ++ to_be_bytes w64 n)
    (pointer_fits (canon_root n t) (pointer_is n 0 (t ∷ []) t (omega arith))) (pointer_fits (canon_root n u) (pointer_is n 0 (u ∷ []) u (omega arith))) apart.1 in
    tables_unique n t u few long-t long-u fits-t fits-u apart.0 root.0
