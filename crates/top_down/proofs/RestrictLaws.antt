-- the rule of a restriction
use Rattle.std.specs.Prelude.{◌≡◌, ◌+◌, ◌-◌, ◌^◌, ◌<◌, ◌≤◌, ◌==◌, ℕ, suc, Bool, true, false, cond, List, [], ◌∷◌, ◌++◌, replicate}
use Rattle.std.proofs.Common.{refl, sym, ◌∙◌, ap, subst, arith}
use Rattle.bool_tables.specs.Tables.{low_half, high_half, half_where}
use Rattle.bool_tables.specs.Steps.{step_table}
use Rattle.bool_tables.specs.declared.steps.Step.{Step}
use Rattle.bool_tables.specs.declared.steps.Step.TheVariants.{Restrict}
use Rattle.bool_tables.proofs.Halves.{low_half-constant, high_half-constant}
use Rattle.bool_tables.proofs.StepHalves.{low_half-restrict, high_half-restrict, low_half-restrict_first, high_half-restrict_first}
use Rattle.rec_words.specs.Words.{level_of}
use Rattle.canon_file.specs.Walks.{table_of}
use Rattle.canon_file.proofs.PieceLaws.{joined}
use Rattle.arc_diagrams.proofs.LevelReduction.{low-met, high-met}
use Rattle.top_down.specs.declared.tuple.Tuple.{Tuple}
use Rattle.top_down.specs.Tuples.{Targets, level_of_tuple, parts, joined_by, AreFrom, AreDeepening}
use Rattle.top_down.specs.declared.tuple.Goal.{Goal}
use Rattle.top_down.specs.declared.tuple.Goal.TheVariants.{End}
use Rattle.top_down.specs.Rules.{Rule, IsAsked, IsRule, table_for, below_on}
use Rattle.top_down.specs.Operations.{ends_or, always, restrict_rule}
use Rattle.top_down.proofs.TupleLaws.{table-end, low_node}
use Rattle.top_down.proofs.PointwiseLaws.{of_members, joined_one, constant_at, parts_from, on_side}
use Rattle.top_down.proofs.GoalLaws.{ends_or-end, ends_or-go}
use Rattle.top_down.proofs.VariableLaws.{place_of_level, At, Above, Below, IsDeepStep, constant_step, constant_table, table-below, table-above, variable_splits, variable_passes}

abbrev first_of_three : Bool → Bool → Bool → Bool
first_of_three b c d = b

abbrev chosen : Bool → Tuple → Tuple → Tuple
chosen value low high = cond value high low

abbrev pub restriction : Bool → ℕ → Step
restriction value k = Restrict 0 k value

abbrev first_ends : Tuple → Goal
first_ends x = ends_or x.first x

-- the half that a constant table has on each side
half-constant : (h : ℕ) (value b : Bool) → half_where h value (replicate (2 ^ suc h) b) ≡ replicate (2 ^ h) b
half-constant h true b = high_half-constant h b
half-constant h false b = low_half-constant h b

-- the values of a table joined with nothing
only-constant : (h : ℕ) (value b : Bool) (u v : List Bool) → joined_by first_of_three h (half_where h value (replicate (2 ^ suc h) b)) u v ≡ replicate (2 ^ h) b
only-constant h value b u v =
    (λ j. joined_by first_of_three h (half-constant h value b j) u v)
    ∙ joined_one first_of_three h (replicate (2 ^ h) b) u v b (λ p below. constant_at h p b below)

restricts_deep : (value : Bool) → IsDeepStep (restriction value)
restricts_deep value = record {
  low = λ h k t below. low_half-restrict h (t ∷ []) 0 k value below;
  high = λ h k t below. high_half-restrict h (t ∷ []) 0 k value below;
  first = λ h b.
      let t : List Bool = replicate (2 ^ suc h) b in
      sym (joined h (step_table (suc h) (t ∷ []) (Restrict 0 0 value)))
      ∙ (λ j. low_half-restrict_first h (t ∷ []) 0 value j ++ high_half-restrict_first h (t ∷ []) 0 value j)
      ∙ (λ j. only-constant h value b [] [] j ++ only-constant h value b [] [] j)
      ∙ constant_table h b;
}

module _ (n variable : ℕ) (value : Bool) (below : variable < n) (top : n ≤ 65535) (targets : Targets) where
  abbrev pub rule : Rule
  rule = restrict_rule variable value

  -- the half in which the variable has the value is what the pointer on that side stands for
  half-met : (h i : ℕ) (x : Tuple)
      → joined_by first_of_three h (half_where h value (table_of targets.first (suc h) i x.first)) [] []
      ≡ of_members (joined_by first_of_three) targets h (suc i) (chosen value (parts targets i false x) (parts targets i true x))
  half-met h i x = by value
    where
      by : (b : Bool)
          → joined_by first_of_three h (half_where h b (table_of targets.first (suc h) i x.first)) [] []
          ≡ of_members (joined_by first_of_three) targets h (suc i) (chosen b (parts targets i false x) (parts targets i true x))
      by true = λ j. joined_by first_of_three h (high-met targets.first h i x.first j) [] []
      by false = λ j. joined_by first_of_three h (low-met targets.first h i x.first j) [] []

  first_low : (h i : ℕ) (x : Tuple) → low_half h (step_table (suc h) (table_of targets.first (suc h) i x.first ∷ []) (restriction value 0))
      ≡ of_members (joined_by first_of_three) targets h (suc i) (chosen value (parts targets i false x) (parts targets i true x))
  first_low h i x = low_half-restrict_first h (table_of targets.first (suc h) i x.first ∷ []) 0 value ∙ half-met h i x

  first_high : (h i : ℕ) (x : Tuple) → high_half h (step_table (suc h) (table_of targets.first (suc h) i x.first ∷ []) (restriction value 0))
      ≡ of_members (joined_by first_of_three) targets h (suc i) (chosen value (parts targets i false x) (parts targets i true x))
  first_high h i x = high_half-restrict_first h (table_of targets.first (suc h) i x.first ∷ []) 0 value ∙ half-met h i x

  either_same : (b : Bool) (h i : ℕ) (x : Tuple) → of_members (joined_by first_of_three) targets h i (chosen b x x) ≡ of_members (joined_by first_of_three) targets h i x
  either_same true h i x = refl
  either_same false h i x = refl

  -- down to the variable the restriction is still to be made
  pub not_below : (h i : ℕ) (x : Tuple) → i ≤ variable → table_for rule targets h i x ≡ step_table h (table_of targets.first h i x.first ∷ []) (restriction value (variable - i))
  not_below h i x most = table-above n variable below first_of_three (restriction value) (chosen value) first_ends always targets (restricts_deep value) h i x most

  -- a truth value is restricted to itself
  restrict_ends : (h i : ℕ) (x : Tuple) (b : Bool) → i + h ≡ n → first_ends x ≡ End b → table_for rule targets h i x ≡ replicate (2 ^ h) b
  restrict_ends h i x b end says =
      let (is_value, which) = ends_or-end x.first x b says in
      let constant : table_of targets.first h i x.first ≡ replicate (2 ^ h) b =
      table-end targets.first h i x.first (omega arith) is_value ∙ ap (λ d. replicate (2 ^ h) d) which in
      elim (place_of_level variable i) [
        | Below more ↦
            table-below n variable below first_of_three (restriction value) (chosen value) first_ends always targets (restricts_deep value) h i x more
            ∙ (λ j. joined_by first_of_three h (constant j) (table_of targets.second h i x.second) (table_of targets.third h i x.third))
            ∙ joined_one first_of_three h (replicate (2 ^ h) b) (table_of targets.second h i x.second) (table_of targets.third h i x.third) b (λ p less. constant_at h p b less)
        | At same ↦
            not_below h i x (omega arith)
            ∙ (λ j. step_table h (constant j ∷ []) (restriction value (variable - i)))
            ∙ constant_step (restriction value) (restricts_deep value) (variable - i) h b (omega arith)
        | Above less ↦
            not_below h i x (omega arith)
            ∙ (λ j. step_table h (constant j ∷ []) (restriction value (variable - i)))
            ∙ constant_step (restriction value) (restricts_deep value) (variable - i) h b (omega arith)
      ]

  -- the tuples on both sides lie deeper
  restrict_from : (x : Tuple) (side : Bool) → AreDeepening n targets → level_of_tuple x < n → AreFrom n (level_of_tuple x) x
      → AreFrom n (suc (level_of_tuple x)) (below_on rule targets side x)
  restrict_from x side deep low from =
      let on_low : AreFrom n (suc (level_of_tuple x)) (parts targets (level_of_tuple x) false x) = parts_from n targets (level_of_tuple x) false x deep low from in
      let on_high : AreFrom n (suc (level_of_tuple x)) (parts targets (level_of_tuple x) true x) = parts_from n targets (level_of_tuple x) true x deep low from in
      on_side (AreFrom n (suc (level_of_tuple x))) (level_of_tuple x == variable)
      (cond side (parts targets (level_of_tuple x) true x) (parts targets (level_of_tuple x) false x))
      (chosen value (parts targets (level_of_tuple x) false x) (parts targets (level_of_tuple x) true x))
      (on_side (AreFrom n (suc (level_of_tuple x))) side (parts targets (level_of_tuple x) false x) (parts targets (level_of_tuple x) true x) on_low on_high)
      (on_side (AreFrom n (suc (level_of_tuple x))) value (parts targets (level_of_tuple x) false x) (parts targets (level_of_tuple x) true x) on_low on_high)

  pub restrict_is_rule : AreDeepening n targets → IsRule n rule targets
  restrict_is_rule deep = record {
    splits = λ h x asked end.
        variable_splits n variable below first_of_three (restriction value) (chosen value) first_ends always targets (restricts_deep value) first_low first_high h x end;
    passes = λ h i x asked end past.
        variable_passes n variable below first_of_three (restriction value) (chosen value) first_ends always targets (restricts_deep value) first_low first_high h i x end past
        (λ same. either_same value h (suc i) x);
    sides_asked = λ x side low asked. record { from = restrict_from x side deep low asked.from; may = refl };
    later = λ i x asked past. refl;
    ends = λ h i x b end asked says. restrict_ends h i x b end says;
    goes = λ h i x y end asked says. ap (table_for rule targets h i) (ends_or-go x.first x y says).1;
    goes_asked = λ i x y within asked says. subst (IsAsked n rule i) (ends_or-go x.first x y says).1 asked;
    goes_low = λ i x y within asked says.
        let (node, same) = ends_or-go x.first x y says in
        let low : level_of x.first < n = low_node n i x.first asked.from.first node in
        subst (λ z. level_of_tuple z < n) same (omega arith);
  }
