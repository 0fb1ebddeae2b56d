-- the diagram of a constant
use Rattle.std.specs.Prelude.{◌≡◌, ℕ, zero, suc, ◌^◌, Bool, false, List, [], ◌∷◌, ◌++◌, length, replicate}
use Rattle.std.proofs.Common.{refl, sym, ◌∙◌, ap, inl, inr}
use Rattle.std.proofs.lemmas.List.{append-nil}
use Rattle.bool_tables.proofs.Halves.{low_half-constant, high_half-constant, table_with_one}
use Rattle.rec_words.specs.Words.{terminal}
use Rattle.list_laws.specs.Members.{SameMembers}
use Rattle.canon_file.specs.Pieces.{splits, halves}
use Rattle.canon_file.specs.Rows.{pointer, levels}
use Rattle.canon_file.specs.Canon.{nodes_of, canon_nodes, canon_root, node_bytes, trailer_bytes, canon_bytes}
use Rattle.canon_file.specs.Constants.{const_table, HasNoNode}
use Rattle.canon_file.proofs.PieceLaws.{unsplit_same}
use Rattle.canon_file.proofs.RowLaws.{levels_same}

-- the table of h variables with one value
abbrev pub constant : ℕ → Bool → List Bool
constant h b = replicate (2 ^ h) b

pub constant_unsplit : (h : ℕ) (b : Bool) → splits h (constant (suc h) b) ≡ false
constant_unsplit h b = unsplit_same h (constant (suc h) b) (low_half-constant h b ∙ sym (high_half-constant h b))

-- a constant piece has the word of its value
pub pointer-constant : (h i : ℕ) (ps : List (List Bool)) (b : Bool) → pointer h i ps (constant h b) ≡ terminal b
pointer-constant zero i ps b = refl
pointer-constant (suc h) i ps b =
    rw (constant_unsplit h b) (ap (pointer h (suc i) (halves h ps)) (low_half-constant h b) ∙ pointer-constant h (suc i) (halves h ps) b)

pub once_same : {X : Type 0} (x : X) → SameMembers (x ∷ x ∷ []) (x ∷ [])
once_same x = record { there = λ z m. elim m [ inl e ↦ inl e | inr k ↦ k ]; back = λ z m. inr m }

-- below a constant piece there is no node
nodes_of-constant : (h i : ℕ) (b : Bool) → nodes_of i (levels h i (constant h b ∷ [])) ≡ []
nodes_of-constant zero i b = refl
nodes_of-constant (suc h) i b =
    rw (constant_unsplit h b)
    (append-nil _ ∙
    (λ j. nodes_of (suc i) (levels h (suc i) (low_half-constant h b j ∷ high_half-constant h b j ∷ []))) ∙
    (λ j. nodes_of (suc i) (levels_same h (suc i) _ _ (once_same (constant h b)) j)) ∙
    nodes_of-constant h (suc i) b)

-- the table of a constant has one value
const_is_constant : (n : ℕ) (b : Bool) → const_table n b ≡ constant n b
const_is_constant n b = table_with_one n (λ _. b) b (λ p below. refl)

canon_nodes-const : (n : ℕ) (b : Bool) → canon_nodes n (const_table n b) ≡ []
unfolding canon_nodes
canon_nodes-const n b = ap (λ t. nodes_of 0 (levels n 0 (t ∷ []))) (const_is_constant n b) ∙ nodes_of-constant n 0 b

canon_root-const : (n : ℕ) (b : Bool) → canon_root n (const_table n b) ≡ terminal b
unfolding canon_root
canon_root-const n b = ap (λ t. pointer n 0 (t ∷ []) t) (const_is_constant n b) ∙ pointer-constant n 0 (constant n b ∷ []) b

canon_bytes-const : (n : ℕ) (b : Bool) → canon_bytes n (const_table n b) ≡ trailer_bytes (terminal b) 0 n
unfolding canon_bytes
canon_bytes-const n b =
    λ j. node_bytes (canon_nodes-const n b j) ++ trailer_bytes (canon_root-const n b j) (length (canon_nodes-const n b j)) n

-- the diagram of a constant has no node
pub no_node-const : (n : ℕ) (b : Bool) → HasNoNode n b
no_node-const n b = record { nodes = canon_nodes-const n b; root = canon_root-const n b; bytes = canon_bytes-const n b }
