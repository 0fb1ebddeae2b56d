-- What the table of "left and not right" says of two tables, and the work that it is.
use Rattle.std.specs.Prelude.{◌≡◌, ◌↔◌, ℕ, zero, suc, ◌+◌, ◌^◌, Bool, true, false, List, [], ◌∷◌, length, map}
use Rattle.std.proofs.Common.{refl, sym, ap, subst, true≢false}
use Rattle.std.specs.List.{range_with_len, flat_map}
use Rattle.list_laws.proofs.MemberLaws.{has_map, map_has}
use Rattle.bool_tables.specs.Tables.{is_leq, value_at}
use Rattle.bool_tables.specs.Steps.{op_value, step_table}
use Rattle.bool_tables.specs.declared.steps.Bin.{Bin}
use Rattle.bool_tables.specs.declared.steps.Step.TheVariants.{Pair, Leq}
use Rattle.canon_file.specs.Members.{Has}
use Rattle.step_work.specs.Tuples.{tuple_count, tuples_from, both_sides, split_tuples}
use Rattle.top_down.specs.Operations.{implies}
use Rattle.top_down.proofs.ImplicationLaws.{implication_answers}
use Rattle.product_sweep.specs.Implications.{and_not}

-- where it is 1 the implication is 0, and the other way round
refuted_at : (b c : Bool) → op_value and_not b c ≡ true → op_value implies b c ≡ false
refuted_at true true e = sym e
refuted_at true false e = refl
refuted_at false true e = absurd (true≢false (sym e))
refuted_at false false e = absurd (true≢false (sym e))

refutes_at : (b c : Bool) → op_value implies b c ≡ false → op_value and_not b c ≡ true
refutes_at true true e = sym e
refutes_at true false e = refl
refutes_at false true e = sym e
refutes_at false false e = sym e

-- a value of one map is somewhere where one of the other is
has_other : (f g : ℕ → Bool) (b c : Bool) (xs : List ℕ) → ((p : ℕ) → f p ≡ b → g p ≡ c) → Has b (map f xs)
    → Has c (map g xs)
has_other f g b c xs follows m =
    let (p, k, e) = map_has f b xs m in
    subst (λ v. Has v (map g xs)) (follows p e) (has_map g p xs k)

-- one table is nowhere above another exactly where that of "left and not right" is nowhere 1
pub leq_nowhere : (n : ℕ) (t u : List Bool) → length t ≡ 2 ^ n → length u ≡ 2 ^ n
    → (is_leq t u ≡ true) ↔ (Has true (step_table n (t ∷ u ∷ []) (Pair and_not 0 1)) → ⊥)
leq_nowhere n t u long_t long_u =
    let answers = implication_answers n t u long_t long_u in (
      λ leq one. answers.0 leq (has_other (value_of and_not) (value_of implies) true false (range_with_len 0 (2 ^ n))
          (λ p. refuted_at (value_at t p) (value_at u p)) one),
      λ none. answers.1 (λ zeros. none (has_other (value_of implies) (value_of and_not) false true
          (range_with_len 0 (2 ^ n)) (λ p. refutes_at (value_at t p) (value_at u p)) zeros)),
    )
  where
    value_of : Bin → ℕ → Bool
    value_of op p = op_value op (value_at t p) (value_at u p)

-- so one 1 decides that it is
pub refuted : (n : ℕ) (t u : List Bool) → length t ≡ 2 ^ n → length u ≡ 2 ^ n
    → Has true (step_table n (t ∷ u ∷ []) (Pair and_not 0 1)) → false ≡ is_leq t u
refuted n t u long_t long_u one = by (is_leq t u) (λ leq. (leq_nowhere n t u long_t long_u).0 leq one)
  where
    by : (b : Bool) → (b ≡ true → ⊥) → false ≡ b
    by true apart = absurd (apart refl)
    by false apart = refl

-- the comparison joins the tuples that an operator joins
tuples_same : (op : Bin) (h i : ℕ) (tuples : List (List (List Bool)))
    → tuples_from (Leq 0 1) i h tuples ≡ tuples_from (Pair op 0 1) i h tuples
tuples_same op zero i tuples = refl
tuples_same op (suc h) i tuples = ap (λ k. split_tuples h tuples + k)
    (tuples_same op h (suc i) (flat_map (λ pieces. both_sides h pieces) tuples))

pub work_same : (op : Bin) (n : ℕ) (tables : List (List Bool))
    → tuple_count n (Leq 0 1) tables ≡ tuple_count n (Pair op 0 1) tables
unfolding tuple_count
work_same op n tables = tuples_same op n 0 (tables ∷ [])
