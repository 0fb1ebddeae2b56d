-- rules of operations on the variable of one level
use Rattle.std.specs.Prelude.{◌≡◌, ◌+◌, ◌-◌, ◌^◌, ◌<◌, ◌≤◌, ◌==◌, nat_lt, ℕ, zero, suc, Bool, true, false, cond, List, [], ◌∷◌, ◌++◌, replicate}
use Rattle.std.proofs.Common.{refl, sym, ◌∙◌, ap, arith}
use Rattle.std.proofs.lemmas.List.{replicate-append-replicate}
use Rattle.std.proofs.lemmas.Bool.{lt-ltb, le-ltb, eq-eqb, ne_eqb}
use Rattle.std.proofs.lemmas.Bool.Decides.{nat_tests}
use Rattle.bool_tables.specs.Tables.{low_half, high_half}
use Rattle.bool_tables.specs.Steps.{step_table}
use Rattle.bool_tables.specs.declared.steps.Step.{Step}
use Rattle.bool_tables.proofs.Halves.{twice, low_half-constant, high_half-constant}
use Rattle.canon_file.specs.Walks.{table_of}
use Rattle.canon_file.proofs.PieceLaws.{joined}
use Rattle.top_down.specs.declared.tuple.Tuple.{Tuple}
use Rattle.top_down.specs.Tuples.{Targets, level_of_tuple, parts, joined_by}
use Rattle.top_down.specs.declared.tuple.Goal.{Goal}
use Rattle.top_down.specs.Rules.{Rule, table_for, below_on}
use Rattle.top_down.specs.Operations.{variable_rule, same_side}
use Rattle.top_down.proofs.PointwiseLaws.{of_members, low-joined, high-joined, halved, parts-past}

-- where a level stands to the variable
pub data Place (variable i : ℕ) : Type 0 where
  Above : (less : i < variable) → Place variable i
  At : (same : i ≡ variable) → Place variable i
  Below : (more : variable < i) → Place variable i

pub place_of_level : (variable i : ℕ) → Place variable i
place_of_level variable i = by (nat_lt variable i) (i == variable) refl refl
  where
    by : (b c : Bool) → nat_lt variable i ≡ b → (i == variable) ≡ c → Place variable i
    by true c e f = Below (grind (arith, nat_tests))
    by false true e f = At (grind (arith, nat_tests))
    by false false e f = Above (grind (arith, nat_tests))

-- how a step works on the halves of its operand, where its variable isn't the first
pub record IsDeepStep (step : ℕ → Step) : Type 0 where
  pub low : (h k : ℕ) (t : List Bool) → k < h → low_half h (step_table (suc h) (t ∷ []) (step (suc k))) ≡ step_table h (low_half h t ∷ []) (step k)
  pub high : (h k : ℕ) (t : List Bool) → k < h → high_half h (step_table (suc h) (t ∷ []) (step (suc k))) ≡ step_table h (high_half h t ∷ []) (step k)
  -- and what it makes of a constant table
  pub first : (h : ℕ) (value : Bool) → step_table (suc h) (replicate (2 ^ suc h) value ∷ []) (step 0) ≡ replicate (2 ^ suc h) value

pub constant_table : (h : ℕ) (value : Bool) → replicate (2 ^ h) value ++ replicate (2 ^ h) value ≡ replicate (2 ^ suc h) value
constant_table h value = replicate-append-replicate (2 ^ h) (2 ^ h) value ∙ ap (λ k. replicate k value) (sym (twice h))

-- of a constant table it makes that table
pub constant_step : (step : ℕ → Step) → IsDeepStep step → (k h : ℕ) (value : Bool) → k < h
    → step_table h (replicate (2 ^ h) value ∷ []) (step k) ≡ replicate (2 ^ h) value
constant_step step deep k zero value below = absurd (omega arith)
constant_step step deep zero (suc h) value below = deep.first h value
constant_step step deep (suc k) (suc h) value below =
    let t : List Bool = replicate (2 ^ suc h) value in
    let rest : step_table h (replicate (2 ^ h) value ∷ []) (step k) ≡ replicate (2 ^ h) value = constant_step step deep k h value (omega arith) in
    sym (joined h (step_table (suc h) (t ∷ []) (step (suc k))))
    ∙ (λ j. deep.low h k t (omega arith) j ++ deep.high h k t (omega arith) j)
    ∙ (λ j. step_table h (low_half-constant h value j ∷ []) (step k) ++ step_table h (high_half-constant h value j ∷ []) (step k))
    ∙ (λ j. rest j ++ rest j) ∙ constant_table h value

module _ (n variable : ℕ) (below : variable < n) (f : Bool → Bool → Bool → Bool) (step : ℕ → Step) (at_variable : Tuple → Tuple → Tuple)
    (goal : Tuple → Goal) (may_ask : ℕ → Tuple → Bool) (targets : Targets) (deep : IsDeepStep step) where
  abbrev pub rule : Rule
  rule = variable_rule variable f step at_variable goal may_ask

  abbrev pub joined_table : ℕ → ℕ → Tuple → List Bool
  joined_table h i x = of_members (joined_by f) targets h i x

  abbrev pub step_on : ℕ → ℕ → ℕ → Tuple → List Bool
  step_on k h i x = step_table h (table_of targets.first h i x.first ∷ []) (step k)

  -- the table below the variable, and down to it
  pub table-below : (h i : ℕ) (x : Tuple) → variable < i → table_for rule targets h i x ≡ joined_table h i x
  table-below h i x more = ap (λ b. cond b (joined_table h i x) (step_on (variable - i) h i x)) (lt-ltb variable i more)

  pub table-above : (h i : ℕ) (x : Tuple) → i ≤ variable → table_for rule targets h i x ≡ step_on (variable - i) h i x
  table-above h i x most = ap (λ b. cond b (joined_table h i x) (step_on (variable - i) h i x)) (le-ltb variable i most)

  -- the tuples on both sides
  pub below-at : (side : Bool) (x : Tuple) → level_of_tuple x ≡ variable
      → below_on rule targets side x ≡ at_variable (parts targets (level_of_tuple x) false x) (parts targets (level_of_tuple x) true x)
  below-at side x same =
      ap (λ b. cond b (at_variable (parts targets (level_of_tuple x) false x) (parts targets (level_of_tuple x) true x))
      (same_side (level_of_tuple x) side (parts targets (level_of_tuple x) false x) (parts targets (level_of_tuple x) true x)))
      (eq-eqb (level_of_tuple x) variable same)

  pub below-off : (side : Bool) (x : Tuple) → (level_of_tuple x ≡ variable → ⊥)
      → below_on rule targets side x ≡ cond side (parts targets (level_of_tuple x) true x) (parts targets (level_of_tuple x) false x)
  below-off side x other =
      ap (λ b. cond b (at_variable (parts targets (level_of_tuple x) false x) (parts targets (level_of_tuple x) true x))
      (same_side (level_of_tuple x) side (parts targets (level_of_tuple x) false x) (parts targets (level_of_tuple x) true x)))
      (ne_eqb (level_of_tuple x) variable other)

  -- what the first variable's step makes in both halves
  module _ (first_low : (h i : ℕ) (x : Tuple)
      → low_half h (step_on 0 (suc h) i x) ≡ joined_table h (suc i) (at_variable (parts targets i false x) (parts targets i true x)))
      (first_high : (h i : ℕ) (x : Tuple)
      → high_half h (step_on 0 (suc h) i x) ≡ joined_table h (suc i) (at_variable (parts targets i false x) (parts targets i true x))) where
    -- the halves of a table of level i
    halves-above : (h i : ℕ) (x : Tuple) → suc (i + h) ≡ n → i < variable
        → table_for rule targets (suc h) i x ≡ table_for rule targets h (suc i) (parts targets i false x) ++ table_for rule targets h (suc i) (parts targets i true x)
    halves-above h i x end less =
        let k : ℕ = variable - suc i in
        let count : variable - i ≡ suc k = omega arith in
        table-above (suc h) i x (omega arith)
        ∙ ap (λ m. step_on m (suc h) i x) count
        ∙ halved (λ m t u v. step_table m (t ∷ []) (step (suc k))) (λ m t u v. step_table m (t ∷ []) (step k)) targets h i x
        (λ t u v. deep.low h k t (omega arith)) (λ t u v. deep.high h k t (omega arith))
        ∙ (λ j. sym (table-above h (suc i) (parts targets i false x) (omega arith)) j ++ sym (table-above h (suc i) (parts targets i true x) (omega arith)) j)

    halves-below : (h i : ℕ) (x : Tuple) → variable < i
        → table_for rule targets (suc h) i x ≡ table_for rule targets h (suc i) (parts targets i false x) ++ table_for rule targets h (suc i) (parts targets i true x)
    halves-below h i x more =
        table-below (suc h) i x more
        ∙ halved (joined_by f) (joined_by f) targets h i x (low-joined f h) (high-joined f h)
        ∙ (λ j. sym (table-below h (suc i) (parts targets i false x) (omega arith)) j ++ sym (table-below h (suc i) (parts targets i true x) (omega arith)) j)

    halves-at : (h i : ℕ) (x : Tuple) → i ≡ variable
        → table_for rule targets (suc h) i x
        ≡ table_for rule targets h (suc i) (at_variable (parts targets i false x) (parts targets i true x))
        ++ table_for rule targets h (suc i) (at_variable (parts targets i false x) (parts targets i true x))
    halves-at h i x same =
        let count : variable - i ≡ 0 = omega arith in
        let y : Tuple = at_variable (parts targets i false x) (parts targets i true x) in
        table-above (suc h) i x (omega arith)
        ∙ ap (λ m. step_on m (suc h) i x) count
        ∙ sym (joined h (step_on 0 (suc h) i x))
        ∙ (λ j. first_low h i x j ++ first_high h i x j)
        ∙ (λ j. sym (table-below h (suc i) y (omega arith)) j ++ sym (table-below h (suc i) y (omega arith)) j)

    pub variable_splits : (h : ℕ) (x : Tuple) → suc (level_of_tuple x + h) ≡ n
        → table_for rule targets (suc h) (level_of_tuple x) x
        ≡ table_for rule targets h (suc (level_of_tuple x)) (below_on rule targets false x)
        ++ table_for rule targets h (suc (level_of_tuple x)) (below_on rule targets true x)
    variable_splits h x end = by (place_of_level variable (level_of_tuple x))
      where
        off : (level_of_tuple x ≡ variable → ⊥)
            → table_for rule targets (suc h) (level_of_tuple x) x
            ≡ table_for rule targets h (suc (level_of_tuple x)) (parts targets (level_of_tuple x) false x)
            ++ table_for rule targets h (suc (level_of_tuple x)) (parts targets (level_of_tuple x) true x)
            → table_for rule targets (suc h) (level_of_tuple x) x
            ≡ table_for rule targets h (suc (level_of_tuple x)) (below_on rule targets false x)
            ++ table_for rule targets h (suc (level_of_tuple x)) (below_on rule targets true x)
        off other halves =
            halves ∙ (λ j. table_for rule targets h (suc (level_of_tuple x)) (sym (below-off false x other) j)
            ++ table_for rule targets h (suc (level_of_tuple x)) (sym (below-off true x other) j))

        by : Place variable (level_of_tuple x) → table_for rule targets (suc h) (level_of_tuple x) x
            ≡ table_for rule targets h (suc (level_of_tuple x)) (below_on rule targets false x)
            ++ table_for rule targets h (suc (level_of_tuple x)) (below_on rule targets true x)
        by (Above less) = off (λ same. omega arith) (halves-above h (level_of_tuple x) x end less)
        by (Below more) = off (λ same. omega arith) (halves-below h (level_of_tuple x) x more)
        by (At same) =
            halves-at h (level_of_tuple x) x same
            ∙ (λ j. table_for rule targets h (suc (level_of_tuple x)) (sym (below-at false x same) j)
            ++ table_for rule targets h (suc (level_of_tuple x)) (sym (below-at true x same) j))

    -- above a tuple's level the table is the same one twice, where below the variable the tuple is what its two sides become
    pub variable_passes : (h i : ℕ) (x : Tuple) → suc (i + h) ≡ n → i < level_of_tuple x
        → (i ≡ variable → joined_table h (suc i) (at_variable x x) ≡ joined_table h (suc i) x)
        → table_for rule targets (suc h) i x ≡ table_for rule targets h (suc i) x ++ table_for rule targets h (suc i) x
    variable_passes h i x end past settled = by (place_of_level variable i)
      where
        on : (side : Bool) → parts targets i side x ≡ x
        on side = parts-past targets i side x past

        by : Place variable i → table_for rule targets (suc h) i x ≡ table_for rule targets h (suc i) x ++ table_for rule targets h (suc i) x
        by (Above less) = halves-above h i x end less ∙ (λ j. table_for rule targets h (suc i) (on false j) ++ table_for rule targets h (suc i) (on true j))
        by (Below more) = halves-below h i x more ∙ (λ j. table_for rule targets h (suc i) (on false j) ++ table_for rule targets h (suc i) (on true j))
        by (At same) =
            let back : table_for rule targets h (suc i) (at_variable x x) ≡ table_for rule targets h (suc i) x =
            table-below h (suc i) (at_variable x x) (omega arith) ∙ settled same ∙ sym (table-below h (suc i) x (omega arith)) in
            halves-at h i x same
            ∙ (λ j. table_for rule targets h (suc i) (at_variable (on false j) (on true j)) ++ table_for rule targets h (suc i) (at_variable (on false j) (on true j)))
            ∙ (λ j. back j ++ back j)
