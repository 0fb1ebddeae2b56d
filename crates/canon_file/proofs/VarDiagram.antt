-- the diagram of a single variable
use Rattle.std.specs.Prelude.{◌≡◌, ℕ, zero, suc, ◌+◌, ◌^◌, ◌<◌, Bool, true, false, List, [], ◌∷◌, ◌++◌, length, get_or}
use Rattle.std.proofs.Common.{refl, sym, ◌∙◌, ap, inl, inr, true≢false, arith}
use Rattle.std.proofs.lemmas.Nat.{pow_pos}
use Rattle.std.proofs.lemmas.List.{get_or-replicate, append-nil}
use Rattle.bool_tables.specs.Tables.{low_half, high_half}
use Rattle.bool_tables.specs.Steps.{step_table}
use Rattle.bool_tables.specs.declared.steps.Step.TheVariants.{Var}
use Rattle.bool_tables.proofs.Halves.{low_half-var, high_half-var, low_half-first, high_half-first, low_half-constant, high_half-constant}
use Rattle.rec_words.specs.Words.{terminal}
use Rattle.list_laws.specs.Members.{SameMembers}
use Rattle.canon_file.specs.Pieces.{splits, halves}
use Rattle.canon_file.specs.declared.row.Row.{Row}
use Rattle.canon_file.specs.Rows.{row_word, place_of, row_of, rows_with, pointer, levels}
use Rattle.canon_file.specs.Canon.{numbered, nodes_of, canon_nodes, canon_root, node_bytes, trailer_bytes, canon_bytes}
use Rattle.canon_file.specs.Variables.{var_node, var_bytes, IsOneNode}
use Rattle.canon_file.proofs.PieceLaws.{unsplit_same, split_differ}
use Rattle.canon_file.proofs.RowLaws.{pointer-split, pointer-unsplit, pointer_same, levels_same}
use Rattle.canon_file.proofs.ConstDiagram.{constant, constant_unsplit, pointer-constant, once_same}

twice_same : {X : Type 0} (x y : X) → SameMembers (x ∷ x ∷ y ∷ y ∷ []) (x ∷ y ∷ [])
twice_same x y = record {
  there = λ z m. elim m [ inl e ↦ inl e | inr k ↦ elim k [ inl e ↦ inl e | inr l ↦ elim l [ inl e ↦ inr (inl e) | inr n ↦ inr n ] ] ];
  back = λ z m. elim m [ inl e ↦ inl e | inr k ↦ inr (inr (inr k)) ];
}

-- below two constant pieces there is no node
nodes_of-constants : (h i : ℕ) → nodes_of i (levels h i (constant h false ∷ constant h true ∷ [])) ≡ []
nodes_of-constants zero i = refl
nodes_of-constants (suc h) i =
    let zeros : splits h (constant (suc h) false) ≡ false = constant_unsplit h false in
    let ones : splits h (constant (suc h) true) ≡ false = constant_unsplit h true in
    rw (zeros, ones)
    (append-nil _ ∙
    (λ j. nodes_of (suc i) (levels h (suc i) (low_half-constant h false j ∷ high_half-constant h false j ∷ low_half-constant h true j ∷ high_half-constant h true j ∷ []))) ∙
    (λ j. nodes_of (suc i) (levels_same h (suc i) _ _ (twice_same (constant h false) (constant h true)) j)) ∙
    nodes_of-constants h (suc i))

-- the table of one variable among h
abbrev variable : ℕ → ℕ → List Bool
variable h level = step_table h [] (Var level)

-- it splits exactly at its level
deeper_unsplit : (h level : ℕ) → level < h → splits h (variable (suc h) (suc level)) ≡ false
deeper_unsplit h level b = unsplit_same h (variable (suc h) (suc level)) (low_half-var h level b ∙ sym (high_half-var h level b))

constants_differ : (h : ℕ) → constant h false ≡ constant h true → ⊥
constants_differ h e =
    true≢false (sym (get_or-replicate (2 ^ h) 0 true true (pow_pos h)) ∙ ap (λ t. get_or t 0 true) (sym e) ∙ get_or-replicate (2 ^ h) 0 false true (pow_pos h))

first_splits : (h : ℕ) → splits h (variable (suc h) 0) ≡ true
first_splits h = split_differ h (variable (suc h) 0) (λ e. constants_differ h (sym (low_half-first h) ∙ e ∙ high_half-first h))

-- the row of a variable
abbrev var_row : Row
var_row = record { low = terminal false; high = terminal true }

first_row : (h i : ℕ) → row_of (pointer h i (halves h (variable (suc h) 0 ∷ []))) h (variable (suc h) 0) ≡ var_row
first_row h i =
    let f : List Bool → ℕ = pointer h i (halves h (variable (suc h) 0 ∷ [])) in
    let low : f (low_half h (variable (suc h) 0)) ≡ terminal false = ap f (low_half-first h) ∙ pointer-constant h i (halves h (variable (suc h) 0 ∷ [])) false in
    let high : f (high_half h (variable (suc h) 0)) ≡ terminal true = ap f (high_half-first h) ∙ pointer-constant h i (halves h (variable (suc h) 0 ∷ [])) true in
    λ j. record { low = low j; high = high j }

rows_first : (h i : ℕ) → rows_with (pointer h i (halves h (variable (suc h) 0 ∷ []))) h (variable (suc h) 0 ∷ []) ≡ var_row ∷ []
rows_first h i = rw (first_splits h) (λ j. first_row h i j ∷ [])

nodes_below : (h i : ℕ) → nodes_of (suc i) (levels h (suc i) (halves h (variable (suc h) 0 ∷ []))) ≡ []
nodes_below h i =
    (λ j. nodes_of (suc i) (levels h (suc i) (low_half-first h j ∷ high_half-first h j ∷ []))) ∙ nodes_of-constants h (suc i)

-- above its level, a variable's diagram is that of the same variable among those that follow
rows_none : (h level i : ℕ) → level < h
    → rows_with (pointer h i (halves h (variable (suc h) (suc level) ∷ []))) h (variable (suc h) (suc level) ∷ []) ≡ []
rows_none h level i b = rw (deeper_unsplit h level b) refl

halves_deeper : (h level : ℕ) → level < h → halves h (variable (suc h) (suc level) ∷ []) ≡ variable h level ∷ variable h level ∷ []
halves_deeper h level b = λ j. low_half-var h level b j ∷ high_half-var h level b j ∷ []

levels_deeper : (h i level : ℕ) → level < h → levels h i (halves h (variable (suc h) (suc level) ∷ [])) ≡ levels h i (variable h level ∷ [])
levels_deeper h i level b =
    (λ j. levels h i (halves_deeper h level b j)) ∙ levels_same h i _ _ (once_same (variable h level))

pointer_deeper : (h i level : ℕ) → level < h → pointer h i (halves h (variable (suc h) (suc level) ∷ [])) ≡ pointer h i (variable h level ∷ [])
pointer_deeper h i level b =
    (λ j. pointer h i (halves_deeper h level b j)) ∙ pointer_same h i _ _ (once_same (variable h level))

pub nodes_of-var : (h i level : ℕ) → level < h → nodes_of i (levels h i (variable h level ∷ [])) ≡ var_node (i + level) ∷ []
nodes_of-var zero i level b = absurd (omega arith)
nodes_of-var (suc h) i zero b =
    let here : i ≡ i + 0 = omega arith in
    (λ j. nodes_below h i j ++ numbered i 0 (rows_first h (suc i) j)) ∙ (λ j. var_node (here j) ∷ [])
nodes_of-var (suc h) i (suc level) b =
    let deeper : level < h = omega arith in
    let there : suc i + level ≡ i + suc level = omega arith in
    (λ j. nodes_of (suc i) (levels_deeper h (suc i) level deeper j) ++ numbered i 0 (rows_none h level (suc i) deeper j))
    ∙ append-nil _ ∙ nodes_of-var h (suc i) level deeper ∙ (λ j. var_node (there j) ∷ [])

pub pointer-var : (h i level : ℕ) → level < h → pointer h i (variable h level ∷ []) (variable h level) ≡ row_word (i + level) 0
pointer-var zero i level b = absurd (omega arith)
pointer-var (suc h) i zero b =
    let here : i ≡ i + 0 = omega arith in
    pointer-split h i (variable (suc h) 0 ∷ []) (variable (suc h) 0) (first_splits h)
    ∙ (λ j. row_word i (place_of (first_row h (suc i) j) (rows_first h (suc i) j))) ∙ (λ j. row_word (here j) 0)
pointer-var (suc h) i (suc level) b =
    let deeper : level < h = omega arith in
    let there : suc i + level ≡ i + suc level = omega arith in
    pointer-unsplit h i (variable (suc h) (suc level) ∷ []) (variable (suc h) (suc level)) (deeper_unsplit h level deeper)
    ∙ (λ j. pointer_deeper h (suc i) level deeper j (low_half-var h level deeper j)) ∙ pointer-var h (suc i) level deeper ∙ (λ j. row_word (there j) 0)

-- the diagram of one variable is one node
pub canon_nodes-var : (n level : ℕ) → level < n → canon_nodes n (step_table n [] (Var level)) ≡ var_node level ∷ []
unfolding canon_nodes
canon_nodes-var n level b = let here : 0 + level ≡ level = omega arith in nodes_of-var n 0 level b ∙ (λ j. var_node (here j) ∷ [])

pub canon_root-var : (n level : ℕ) → level < n → canon_root n (step_table n [] (Var level)) ≡ row_word level 0
unfolding canon_root
canon_root-var n level b = let here : 0 + level ≡ level = omega arith in pointer-var n 0 level b ∙ (λ j. row_word (here j) 0)

pub canon_bytes-var : (n level : ℕ) → level < n → canon_bytes n (step_table n [] (Var level)) ≡ var_bytes n level
unfolding canon_bytes
canon_bytes-var n level b =
    λ j. node_bytes (canon_nodes-var n level b j) ++ trailer_bytes (canon_root-var n level b j) (length (canon_nodes-var n level b j)) n

pub one_node-var : (n level : ℕ) → level < n → IsOneNode n level
one_node-var n level b = record {
  nodes = canon_nodes-var n level b;
  root = canon_root-var n level b;
  bytes = canon_bytes-var n level b;
  size = ap length (canon_bytes-var n level b);
}
