-- The table of an operator's result, where it gives the value of one operand.
use Rattle.std.proofs.Common.{◌≡◌, ◌≢◌, ◌∙◌, ℕ, zero, suc, ◌+◌, ◌*◌, ◌^◌, ◌<◌, ◌≤◌, Bool, true, false, not, List, [], ◌∷◌, ◌++◌, replicate, refl, sym, ap, subst, arith}
use Rattle.std.specs.Prelude.{IsTrue, length, map}
use Rattle.std.specs.List.{range_with_len}
use Rattle.std.proofs.lemmas.List.{get_or-replicate, replicate-append-replicate}
use Rattle.bool_tables.specs.Steps.{op_value}
use Rattle.bool_tables.specs.Tables.{value_at, table_with}
use Rattle.bool_tables.specs.declared.steps.Bin.{Bin}
use Rattle.bool_tables.proofs.Halves.{twice, table_with_same, table_with_one, length-table_with, low_half-constant, high_half-constant}
use Rattle.bool_tables.proofs.StepHalves.{table_with-values}
use Rattle.rec_words.specs.Words.{terminal}
use Rattle.canon_file.specs.declared.row.Row.{Row}
use Rattle.canon_file.specs.Canon.{canon_nodes, canon_root}
use Rattle.canon_file.specs.Constants.{const_table}
use Rattle.canon_file.specs.Laws.{HasForm}
use Rattle.canon_file.specs.Pieces.{halves}
use Rattle.canon_file.specs.Rows.{levels, Fits}
use Rattle.canon_file.specs.Walks.{table_of, row_at}
use Rattle.canon_file.proofs.ConstDiagram.{constant, constant_unsplit, once_same}
use Rattle.canon_file.proofs.RowLaws.{levels_same}
use Rattle.canon_file.proofs.StandLaws.{deeper_at, nodes_stand}
use Rattle.canon_file.proofs.WalkLaws.{parts_by}
use Rattle.copied_diagrams.specs.declared.operand.Operand.{Operand}
use Rattle.copied_diagrams.specs.declared.operand.Operand.TheVariants.{Left, Right}
use Rattle.copied_diagrams.specs.declared.operand.Choice.TheVariants.{Constant, Copy, Complement}
use Rattle.room_reduction.specs.Complements.{complement}
use Rattle.copied_diagrams.specs.Operands.{pair_table, MayMeet, IsResult}
use Rattle.copied_diagrams.specs.Pairs.{of_operand}

-- a truth value stands for the table that has it everywhere
deep : (v : Bool) (i : ℕ) → suc i ≤ 65536 → suc i * 2 ^ 47 ≤ terminal v
deep true i low = omega arith
deep false i low = omega arith

table_of-terminal : (arcs : ℕ → Row) (h i : ℕ) (v : Bool) → i + h ≤ 65536 → table_of arcs h i (terminal v) ≡ replicate (2 ^ h) v
table_of-terminal arcs zero i true low = refl
table_of-terminal arcs zero i false low = refl
table_of-terminal arcs (suc h) i v low =
    let below : table_of arcs h (suc i) (terminal v) ≡ replicate (2 ^ h) v = table_of-terminal arcs h (suc i) v (omega arith) in
    ap (parts_by arcs h i (terminal v)) (deeper_at i (terminal v) (deep v i (omega arith)))
    ∙ (λ j. below j ++ below j) ∙ replicate-append-replicate (2 ^ h) (2 ^ h) v
    ∙ ap (λ k. replicate k v) (sym (twice h))

-- so where a root is a truth value, that is the table's value at each place
pub value_of_root : (n : ℕ) (t : List Bool) (v : Bool) (p : ℕ) → HasForm n t → canon_root n t ≡ terminal v → p < 2 ^ n → value_at t p ≡ v
value_of_root n t v p form root below =
    let whole : t ≡ replicate (2 ^ n) v =
    sym (nodes_stand n t form.few form.whole form.fits) ∙ ap (table_of (row_at (canon_nodes n t)) n 0) root
    ∙ table_of-terminal (row_at (canon_nodes n t)) n 0 v (omega (arith, form.few)) in
    ap (λ u. value_at u p) whole ∙ get_or-replicate (2 ^ n) p v false below

-- so the other value stands nowhere
root_may : (n : ℕ) (t : List Bool) (p : ℕ) → HasForm n t → p < 2 ^ n → canon_root n t ≢ terminal (not (value_at t p))
root_may n t p form below root = differ (value_at t p) (value_of_root n t (not (value_at t p)) p form root below)
  where
    differ : (b : Bool) → b ≡ not b → ⊥
    differ true e = cc
    differ false e = cc

-- the values at a place may meet
pub values_meet : (n : ℕ) (same : Bool) (t u : List Bool) (p : ℕ) → HasForm n t → HasForm n u → (IsTrue same → t ≡ u) → p < 2 ^ n
    → MayMeet same (canon_root n t) (canon_root n u) (value_at t p) (value_at u p)
values_meet n same t u p first second equal below = record {
  left_may = root_may n t p first below;
  right_may = root_may n u p second below;
  same_is = λ is. ap (λ x. value_at x p) (equal is);
}

-- the table of that operand is that of the result
pub copy_is : (n : ℕ) (op : Bin) (same : Bool) (t u : List Bool) (o : Operand) → HasForm n t → HasForm n u → (IsTrue same → t ≡ u)
    → IsResult op same (canon_root n t) (canon_root n u) (Copy o) → pair_table n op t u ≡ of_operand o t u
copy_is n op same t u Left first second equal is =
    table_with_same n (λ p. op_value op (value_at t p) (value_at u p)) (value_at t)
    (λ p below. is (value_at t p) (value_at u p) (values_meet n same t u p first second equal below))
    ∙ table_with-values n t first.whole
copy_is n op same t u Right first second equal is =
    table_with_same n (λ p. op_value op (value_at t p) (value_at u p)) (value_at u)
    (λ p below. is (value_at t p) (value_at u p) (values_meet n same t u p first second equal below))
    ∙ table_with-values n u second.whole

-- the table that has the other value at each place is the complement
others_at : (n : ℕ) (t : List Bool) → length t ≡ 2 ^ n → table_with n (λ p. not (value_at t p)) ≡ complement t
others_at n t whole = others (range_with_len 0 (2 ^ n)) ∙ ap complement (table_with-values n t whole)
  where
    others : (places : List ℕ) → map (λ p. not (value_at t p)) places ≡ map not (map (value_at t) places)
    others [] = refl
    others (p ∷ places) = ap (λ bs. not (value_at t p) ∷ bs) (others places)

-- so where it gives the other value of one operand, it is the complement of that one's table
pub complement_is : (n : ℕ) (op : Bin) (same : Bool) (t u : List Bool) (o : Operand) → HasForm n t → HasForm n u → (IsTrue same → t ≡ u)
    → IsResult op same (canon_root n t) (canon_root n u) (Complement o) → pair_table n op t u ≡ complement (of_operand o t u)
complement_is n op same t u Left first second equal is =
    table_with_same n (λ p. op_value op (value_at t p) (value_at u p)) (λ p. not (value_at t p))
    (λ p below. is (value_at t p) (value_at u p) (values_meet n same t u p first second equal below))
    ∙ others_at n t first.whole
complement_is n op same t u Right first second equal is =
    table_with_same n (λ p. op_value op (value_at t p) (value_at u p)) (λ p. not (value_at u p))
    (λ p below. is (value_at t p) (value_at u p) (values_meet n same t u p first second equal below))
    ∙ others_at n u second.whole

-- and that of a constant
pub constant_is : (n : ℕ) (op : Bin) (same : Bool) (t u : List Bool) (value : Bool) → HasForm n t → HasForm n u → (IsTrue same → t ≡ u)
    → IsResult op same (canon_root n t) (canon_root n u) (Constant value) → pair_table n op t u ≡ const_table n value
constant_is n op same t u value first second equal is =
    table_with_same n (λ p. op_value op (value_at t p) (value_at u p)) (λ p. value)
    (λ p below. is (value_at t p) (value_at u p) (values_meet n same t u p first second equal below))

-- below a constant no level has rows
fits_constant : (h i : ℕ) (b : Bool) → Fits (levels h i (constant h b ∷ []))
fits_constant zero i b = tt
fits_constant (suc h) i b =
    let deeper : levels h (suc i) (halves h (constant (suc h) b ∷ [])) ≡ levels h (suc i) (constant h b ∷ []) =
    (λ j. levels h (suc i) (low_half-constant h b j ∷ high_half-constant h b j ∷ []))
    ∙ levels_same h (suc i) _ _ (once_same (constant h b)) in
    rw (constant_unsplit h b) (omega arith, subst Fits (sym deeper) (fits_constant h (suc i) b))

-- so its canonical form is defined
pub constant_form : (n : ℕ) (b : Bool) → n ≤ 65535 → HasForm n (const_table n b)
constant_form n b few = record {
  few = few;
  whole = length-table_with n _;
  fits = subst (λ t. Fits (levels n 0 (t ∷ []))) (sym (table_with_one n (λ _. b) b (λ p below. refl))) (fits_constant n 0 b);
}
