-- the rule of a quantifier
use Rattle.std.specs.Prelude.{◌≡◌, ◌+◌, ◌-◌, ◌^◌, ◌<◌, ◌≤◌, ◌==◌, ◌||◌, nat_lt, nat_le, ℕ, suc, Bool, true, false, cond, List, [], ◌∷◌, ◌++◌, replicate}
use Rattle.std.proofs.Common.{refl, sym, ◌∙◌, ap, subst, arith}
use Rattle.std.proofs.Math.Bool.{or-true}
use Rattle.std.proofs.lemmas.Bool.{lt-ltb, le-ltb, eq-eqb}
use Rattle.std.proofs.lemmas.Bool.Decides.{nat_tests}
use Rattle.bool_tables.specs.Tables.{low_half, high_half, value_at, same_bit}
use Rattle.bool_tables.specs.Steps.{quant_value, step_table}
use Rattle.bool_tables.specs.declared.steps.Quant.{Quant}
use Rattle.bool_tables.specs.declared.steps.Quant.TheVariants.{Exists, Forall}
use Rattle.bool_tables.specs.declared.steps.Step.{Step}
use Rattle.bool_tables.specs.declared.steps.Step.TheVariants.{Quantify}
use Rattle.bool_tables.proofs.Halves.{low_half-constant, high_half-constant}
use Rattle.bool_tables.proofs.StepHalves.{low_half-quantify, high_half-quantify, low_half-quantify_first, high_half-quantify_first}
use Rattle.rec_words.specs.Words.{level_of}
use Rattle.canon_file.specs.declared.row.Row.{Row}
use Rattle.canon_file.specs.Walks.{table_of}
use Rattle.canon_file.proofs.PieceLaws.{joined}
use Rattle.arc_diagrams.specs.Arcs.{onward}
use Rattle.arc_diagrams.proofs.TargetLaws.{bit_same}
use Rattle.arc_diagrams.proofs.LevelReduction.{low-met, high-met}
use Rattle.top_down.specs.declared.tuple.Tuple.{Tuple}
use Rattle.top_down.specs.Tuples.{Targets, unused, level_of_tuple, parts, joined_by, IsFrom, AreFrom, AreDeepening}
use Rattle.top_down.specs.declared.tuple.Goal.{Goal}
use Rattle.top_down.specs.declared.tuple.Goal.TheVariants.{End, Go}
use Rattle.top_down.specs.Rules.{Rule, IsAsked, IsRule, table_for, below_on}
use Rattle.top_down.specs.Operations.{is_end, is_one, ends_or, two, strong, sorted, quantify_goal, quantify_rule}
use Rattle.top_down.proofs.TupleLaws.{table-end, low_node, from_terminal}
use Rattle.top_down.proofs.PointwiseLaws.{of_members, joined_same, joined_one, constant_at, parts_from, on_side}
use Rattle.top_down.proofs.GoalLaws.{end_value, go_tuple, end_go, ends_or-end, ends_or-go}
use Rattle.top_down.proofs.VariableLaws.{place_of_level, At, Above, Below, IsDeepStep, constant_step, constant_table, table-below, table-above, below-at, below-off, variable_splits, variable_passes}

abbrev value_of : Quant → Bool → Bool → Bool → Bool
value_of kind b c d = quant_value kind b c

abbrev both : Tuple → Tuple → Tuple
both low high = two low.first high.first

abbrev quantification : Quant → ℕ → Step
quantification kind k = Quantify kind 0 k

abbrev pub may : ℕ → ℕ → Tuple → Bool
may variable i x = nat_lt variable i || (x.first == x.second)

-- a quantifier of two values that are the same, of one that decides it, of one that doesn't, and of two in either order
quant_same : (kind : Quant) (b : Bool) → quant_value kind b b ≡ b
quant_same Exists true = refl
quant_same Exists false = refl
quant_same Forall true = refl
quant_same Forall false = refl

quant_left : (kind : Quant) (b : Bool) → quant_value kind (strong kind) b ≡ strong kind
quant_left Exists b = refl
quant_left Forall b = refl

quant_other : (kind : Quant) (b c : Bool) → same_bit b (strong kind) ≡ false → quant_value kind b c ≡ c
quant_other Exists true c e = absurd (apart e)
  where
    apart : true ≡ false → ⊥
    apart wrong = cc
quant_other Exists false c e = refl
quant_other Forall true c e = refl
quant_other Forall false c e = absurd (apart e)
  where
    apart : true ≡ false → ⊥
    apart wrong = cc

quant_swap : (kind : Quant) (b c : Bool) → quant_value kind b c ≡ quant_value kind c b
quant_swap Exists true true = refl
quant_swap Exists true false = refl
quant_swap Exists false true = refl
quant_swap Exists false false = refl
quant_swap Forall true true = refl
quant_swap Forall true false = refl
quant_swap Forall false true = refl
quant_swap Forall false false = refl

quantifies_deep : (kind : Quant) → IsDeepStep (quantification kind)
quantifies_deep kind = record {
  low = λ h k t below. low_half-quantify h (t ∷ []) kind 0 k below;
  high = λ h k t below. high_half-quantify h (t ∷ []) kind 0 k below;
  first = λ h b.
      let t : List Bool = replicate (2 ^ suc h) b in
      let half : joined_by (value_of kind) h (low_half h t) (high_half h t) [] ≡ replicate (2 ^ h) b =
      (λ j. joined_by (value_of kind) h (low_half-constant h b j) (high_half-constant h b j) [])
      ∙ joined_one (value_of kind) h (replicate (2 ^ h) b) (replicate (2 ^ h) b) [] b
      (λ p below. (λ j. quant_value kind (constant_at h p b below j) (constant_at h p b below j)) ∙ quant_same kind b) in
      sym (joined h (step_table (suc h) (t ∷ []) (Quantify kind 0 0)))
      ∙ (λ j. low_half-quantify_first h (t ∷ []) kind 0 j ++ high_half-quantify_first h (t ∷ []) kind 0 j)
      ∙ (λ j. half j ++ half j) ∙ constant_table h b;
}

-- what the rule says, where the tests are known
abbrev says_of : Quant → Bool → Bool → Bool → Bool → Tuple → Goal
says_of kind b d c e x =
    cond b (cond d (End (strong kind)) (ends_or x.second (two x.second x.second)))
    (cond c (cond e (End (strong kind)) (Go (two x.first x.first))) (Go (sorted x)))

module _ (n variable : ℕ) (kind : Quant) (below : variable < n) (top : n ≤ 65535) (rows third : ℕ → Row) where
  abbrev pub operand : Targets
  operand = record { first = rows; second = rows; third = third }

  abbrev pub rule : Rule
  rule = quantify_rule kind variable

  first_low : (h i : ℕ) (x : Tuple) → low_half h (step_table (suc h) (table_of rows (suc h) i x.first ∷ []) (quantification kind 0))
      ≡ of_members (joined_by (value_of kind)) operand h (suc i) (both (parts operand i false x) (parts operand i true x))
  first_low h i x =
      low_half-quantify_first h (table_of rows (suc h) i x.first ∷ []) kind 0
      ∙ (λ j. joined_by (value_of kind) h (low-met rows h i x.first j) (high-met rows h i x.first j) [])

  first_high : (h i : ℕ) (x : Tuple) → high_half h (step_table (suc h) (table_of rows (suc h) i x.first ∷ []) (quantification kind 0))
      ≡ of_members (joined_by (value_of kind)) operand h (suc i) (both (parts operand i false x) (parts operand i true x))
  first_high h i x =
      high_half-quantify_first h (table_of rows (suc h) i x.first ∷ []) kind 0
      ∙ (λ j. joined_by (value_of kind) h (low-met rows h i x.first j) (high-met rows h i x.first j) [])

  -- down to the variable the two pointers are one
  one_pointer : (i : ℕ) (x : Tuple) → i ≤ variable → may variable i x ≡ true → x.first ≡ x.second
  one_pointer i x most e =
      let same : (x.first == x.second) ≡ true = ap (λ b. b || (x.first == x.second)) (sym (le-ltb variable i most)) ∙ e in
      grind (arith, nat_tests)

  may_below : (i : ℕ) (x : Tuple) → variable < i → may variable i x ≡ true
  may_below i x more = ap (λ b. b || (x.first == x.second)) (lt-ltb variable i more)

  pub may_one : (i : ℕ) (x : Tuple) → x.first ≡ x.second → may variable i x ≡ true
  may_one i x same = ap (λ b. nat_lt variable i || b) (eq-eqb x.first x.second same) ∙ or-true (nat_lt variable i)

  -- the table, by where the level stands to the variable
  deep_is : (h i : ℕ) (x : Tuple) → variable < i → table_for rule operand h i x ≡ of_members (joined_by (value_of kind)) operand h i x
  deep_is h i x more = table-below n variable below (value_of kind) (quantification kind) both (quantify_goal kind) (may variable) operand (quantifies_deep kind) h i x more

  pub above_is : (h i : ℕ) (x : Tuple) → i ≤ variable → table_for rule operand h i x ≡ step_table h (table_of rows h i x.first ∷ []) (quantification kind (variable - i))
  above_is h i x most = table-above n variable below (value_of kind) (quantification kind) both (quantify_goal kind) (may variable) operand (quantifies_deep kind) h i x most

  -- above the variable a truth value is quantified to itself
  above_constant : (h i : ℕ) (x : Tuple) → i + h ≡ n → i ≤ variable → is_end x.first ≡ true → table_for rule operand h i x ≡ replicate (2 ^ h) (is_one x.first)
  above_constant h i x end most is_value =
      above_is h i x most
      ∙ (λ j. step_table h (table-end rows h i x.first (omega arith) is_value j ∷ []) (quantification kind (variable - i)))
      ∙ constant_step (quantification kind) (quantifies_deep kind) (variable - i) h (is_one x.first) (omega arith)

  -- the value of a member that is a truth value
  known : (h i w p : ℕ) → i + h ≡ n → p < 2 ^ h → is_end w ≡ true → value_at (table_of rows h i w) p ≡ is_one w
  known h i w p end less e = (λ j. value_at (table-end rows h i w (omega arith) e j) p) ∙ constant_at h p (is_one w) less

  -- below the variable a table has one value, where the two values at each place give it
  deep_constant : (h i : ℕ) (x : Tuple) (b : Bool) → variable < i
      → ((p : ℕ) → p < 2 ^ h → quant_value kind (value_at (table_of rows h i x.first) p) (value_at (table_of rows h i x.second) p) ≡ b)
      → table_for rule operand h i x ≡ replicate (2 ^ h) b
  deep_constant h i x b more at =
      deep_is h i x more ∙ joined_one (value_of kind) h (table_of rows h i x.first) (table_of rows h i x.second) (table_of third h i x.third) b at

  quantify_ends : (h i : ℕ) (x : Tuple) (b : Bool) → i + h ≡ n → may variable i x ≡ true → quantify_goal kind x ≡ End b → table_for rule operand h i x ≡ replicate (2 ^ h) b
  quantify_ends h i x b end asked says =
      by (is_end x.first) (same_bit (is_one x.first) (strong kind)) (is_end x.second) (same_bit (is_one x.second) (strong kind)) refl refl refl refl says
    where
      t : ℕ → Bool
      t p = value_at (table_of rows h i x.first) p

      u : ℕ → Bool
      u p = value_at (table_of rows h i x.second) p

      -- above the variable the first pointer is a truth value of that value, below it the values at each place give it
      from_both : is_end x.first ≡ true × (is_one x.first ≡ b) → (variable < i → table_for rule operand h i x ≡ replicate (2 ^ h) b) → table_for rule operand h i x ≡ replicate (2 ^ h) b
      from_both (first, one) deep = elim (place_of_level variable i) [
        | Below more ↦ deep more
        | At same ↦ above_constant h i x end (omega arith) first ∙ ap (λ d. replicate (2 ^ h) d) one
        | Above less ↦ above_constant h i x end (omega arith) first ∙ ap (λ d. replicate (2 ^ h) d) one
      ]

      -- the same, where that is known of the second pointer
      from_second : is_end x.second ≡ true × (is_one x.second ≡ b) → (variable < i → table_for rule operand h i x ≡ replicate (2 ^ h) b) → table_for rule operand h i x ≡ replicate (2 ^ h) b
      from_second (second, one) deep = elim (place_of_level variable i) [
        | Below more ↦ deep more
        | At same ↦ above (omega arith)
        | Above less ↦ above (omega arith)
      ]
        where
          above : i ≤ variable → table_for rule operand h i x ≡ replicate (2 ^ h) b
          above most =
              let one_of : x.first ≡ x.second = one_pointer i x most asked in
              above_constant h i x end most (ap is_end one_of ∙ second) ∙ ap (λ d. replicate (2 ^ h) d) (ap is_one one_of ∙ one)

      by : (a d c e : Bool) → is_end x.first ≡ a → same_bit (is_one x.first) (strong kind) ≡ d → is_end x.second ≡ c → same_bit (is_one x.second) (strong kind) ≡ e
          → says_of kind a d c e x ≡ End b → table_for rule operand h i x ≡ replicate (2 ^ h) b
      by true true c e first decides second other says =
          let one : is_one x.first ≡ strong kind = bit_same (is_one x.first) (strong kind) decides in
          let value : strong kind ≡ b = end_value (strong kind) b says in
          from_both (first, one ∙ value) (λ more. deep_constant h i x b more
          (λ p less. (λ j. quant_value kind ((known h i x.first p end less first ∙ one) j) (value_at (table_of rows h i x.second) p))
          ∙ quant_left kind (value_at (table_of rows h i x.second) p) ∙ value))
      by true false c e first decides second other says =
          let (is_value, one) = ends_or-end x.second (two x.second x.second) b says in
          from_second (is_value, one) (λ more. deep_constant h i x b more
          (λ p less. (λ j. quant_value kind (known h i x.first p end less first j) (known h i x.second p end less is_value j))
          ∙ quant_other kind (is_one x.first) (is_one x.second) decides ∙ one))
      by false d true true first decides second other says =
          let one : is_one x.second ≡ strong kind = bit_same (is_one x.second) (strong kind) other in
          let value : strong kind ≡ b = end_value (strong kind) b says in
          from_second (second, one ∙ value) (λ more. deep_constant h i x b more
          (λ p less. (λ j. quant_value kind (value_at (table_of rows h i x.first) p) ((known h i x.second p end less second ∙ one) j))
          ∙ quant_swap kind (value_at (table_of rows h i x.first) p) (strong kind) ∙ quant_left kind (value_at (table_of rows h i x.first) p) ∙ value))
      by false d true false first decides second other says = absurd (end_go b (two x.first x.first) (sym says))
      by false d false e first decides second other says = absurd (end_go b (sorted x) (sym says))

  -- a tuple that is asked for has the same table, may be asked for and has a node
  record Goes (h i : ℕ) (x y : Tuple) : Type 0 where
    same : table_for rule operand h i x ≡ table_for rule operand h i y
    asked : IsAsked n rule i y
    low : level_of_tuple y < n

  two_from : (i a b : ℕ) → i ≤ n → IsFrom n i a → IsFrom n i b → AreFrom n i (two a b)
  two_from i a b within from_a from_b = record { first = from_a; second = from_b; third = from_terminal n i false within top }

  -- below the variable the two tables are the same, where the values at each place are
  deep_same : (h i : ℕ) (x : Tuple) (a b : ℕ) → variable < i
      → ((p : ℕ) → p < 2 ^ h → quant_value kind (value_at (table_of rows h i x.first) p) (value_at (table_of rows h i x.second) p)
      ≡ quant_value kind (value_at (table_of rows h i a) p) (value_at (table_of rows h i b) p))
      → table_for rule operand h i x ≡ table_for rule operand h i (two a b)
  deep_same h i x a b more at =
      deep_is h i x more
      ∙ joined_same (value_of kind) (value_of kind) h (table_of rows h i x.first) (table_of rows h i x.second) (table_of third h i x.third)
      (table_of rows h i a) (table_of rows h i b) (table_of third h i unused) at
      ∙ sym (deep_is h i (two a b) more)

  -- above it they are, where the first pointers are
  above_same : (h i : ℕ) (x : Tuple) (a b : ℕ) → i ≤ variable → x.first ≡ a → table_for rule operand h i x ≡ table_for rule operand h i (two a b)
  above_same h i x a b most same =
      above_is h i x most ∙ (λ j. step_table h (table_of rows h i (same j) ∷ []) (quantification kind (variable - i))) ∙ sym (above_is h i (two a b) most)

  at_places : (h i : ℕ) (x : Tuple) (a b : ℕ) → (i ≤ variable → x.first ≡ a)
      → (variable < i → (p : ℕ) → p < 2 ^ h → quant_value kind (value_at (table_of rows h i x.first) p) (value_at (table_of rows h i x.second) p)
      ≡ quant_value kind (value_at (table_of rows h i a) p) (value_at (table_of rows h i b) p))
      → table_for rule operand h i x ≡ table_for rule operand h i (two a b)
  at_places h i x a b above deep = elim (place_of_level variable i) [
    | Below more ↦ deep_same h i x a b more (deep more)
    | At same ↦ above_same h i x a b (omega arith) (above (omega arith))
    | Above less ↦ above_same h i x a b (omega arith) (above (omega arith))
  ]

  quantify_goes : (h i : ℕ) (x y : Tuple) → i + h ≡ n → IsAsked n rule i x → quantify_goal kind x ≡ Go y → Goes h i x y
  quantify_goes h i x y end asked says =
      by (is_end x.first) (same_bit (is_one x.first) (strong kind)) (is_end x.second) (same_bit (is_one x.second) (strong kind)) refl refl refl refl says
    where
      ordered : (f : Bool) → is_end x.first ≡ false → Goes h i x (cond f (two x.first x.second) (two x.second x.first))
      ordered true first =
          let low : level_of x.first < n = low_node n i x.first asked.from.first first in
          record {
            same = at_places h i x x.first x.second (λ most. refl) (λ more p less. refl);
            asked = record { from = two_from i x.first x.second (omega arith) asked.from.first asked.from.second; may = asked.may };
            low = omega arith;
          }
      ordered false first =
          let low : level_of x.first < n = low_node n i x.first asked.from.first first in
          record {
            same = at_places h i x x.second x.first (λ most. one_pointer i x most asked.may)
                (λ more p less. quant_swap kind (value_at (table_of rows h i x.first) p) (value_at (table_of rows h i x.second) p));
            asked = record { from = two_from i x.second x.first (omega arith) asked.from.second asked.from.first; may = turned };
            low = omega arith;
          }
        where
          turned : may variable i (two x.second x.first) ≡ true
          turned = elim (place_of_level variable i) [
            | Below more ↦ may_below i (two x.second x.first) more
            | At same ↦ may_one i (two x.second x.first) (sym (one_pointer i x (omega arith) asked.may))
            | Above less ↦ may_one i (two x.second x.first) (sym (one_pointer i x (omega arith) asked.may))
          ]

      by : (a d c e : Bool) → is_end x.first ≡ a → same_bit (is_one x.first) (strong kind) ≡ d → is_end x.second ≡ c → same_bit (is_one x.second) (strong kind) ≡ e
          → says_of kind a d c e x ≡ Go y → Goes h i x y
      by true true c e first decides second other says = absurd (end_go (strong kind) y says)
      by true false c e first decides second other says =
          let (node, is_y) = ends_or-go x.second (two x.second x.second) y says in
          let low : level_of x.second < n = low_node n i x.second asked.from.second node in
          subst (Goes h i x) is_y (record {
            same = at_places h i x x.second x.second
                (λ most. one_pointer i x most asked.may)
                (λ more p less. (λ j. quant_value kind (known h i x.first p end less first j) (value_at (table_of rows h i x.second) p))
                ∙ quant_other kind (is_one x.first) (value_at (table_of rows h i x.second) p) decides
                ∙ sym (quant_same kind (value_at (table_of rows h i x.second) p)));
            asked = record { from = two_from i x.second x.second (omega arith) asked.from.second asked.from.second; may = may_one i (two x.second x.second) refl };
            low = omega arith;
          })
      by false d true true first decides second other says = absurd (end_go (strong kind) y says)
      by false d true false first decides second other says =
          let low : level_of x.first < n = low_node n i x.first asked.from.first first in
          subst (Goes h i x) (go_tuple (two x.first x.first) y says) (record {
            same = at_places h i x x.first x.first
                (λ most. refl)
                (λ more p less. (λ j. quant_value kind (value_at (table_of rows h i x.first) p) (known h i x.second p end less second j))
                ∙ quant_swap kind (value_at (table_of rows h i x.first) p) (is_one x.second)
                ∙ quant_other kind (is_one x.second) (value_at (table_of rows h i x.first) p) other
                ∙ sym (quant_same kind (value_at (table_of rows h i x.first) p)));
            asked = record { from = two_from i x.first x.first (omega arith) asked.from.first asked.from.first; may = may_one i (two x.first x.first) refl };
            low = omega arith;
          })
      by false d false e first decides second other says = subst (Goes h i x) (go_tuple (sorted x) y says) (ordered (nat_le x.first x.second) first)

  -- the tuples on both sides may be asked for below
  quantify_sides : (x : Tuple) (side : Bool) → AreDeepening n operand → level_of_tuple x < n → IsAsked n rule (level_of_tuple x) x
      → IsAsked n rule (suc (level_of_tuple x)) (below_on rule operand side x)
  quantify_sides x side deep low asked = elim (place_of_level variable (level_of_tuple x)) [
    | Below more ↦ off (λ same. omega arith) (λ side. may_below (suc (level_of_tuple x)) (parts operand (level_of_tuple x) side x) (omega arith))
    | Above less ↦ off (λ same. omega arith) (λ side. may_one (suc (level_of_tuple x)) (parts operand (level_of_tuple x) side x)
        (ap (onward rows (level_of_tuple x) side) (one_pointer (level_of_tuple x) x (omega arith) asked.may)))
    | At same ↦ subst (IsAsked n rule (suc (level_of_tuple x)))
        (sym (below-at n variable below (value_of kind) (quantification kind) both (quantify_goal kind) (may variable) operand (quantifies_deep kind) side x same))
        (record {
          from = two_from (suc (level_of_tuple x)) (onward rows (level_of_tuple x) false x.first) (onward rows (level_of_tuple x) true x.first) (omega arith) (on false).first (on true).first;
          may = may_below (suc (level_of_tuple x)) (both (parts operand (level_of_tuple x) false x) (parts operand (level_of_tuple x) true x)) (omega arith);
        })
  ]
    where
      on : (side : Bool) → AreFrom n (suc (level_of_tuple x)) (parts operand (level_of_tuple x) side x)
      on side = parts_from n operand (level_of_tuple x) side x deep low asked.from

      off : (level_of_tuple x ≡ variable → ⊥) → ((side : Bool) → may variable (suc (level_of_tuple x)) (parts operand (level_of_tuple x) side x) ≡ true)
          → IsAsked n rule (suc (level_of_tuple x)) (below_on rule operand side x)
      off other may_be =
          subst (IsAsked n rule (suc (level_of_tuple x)))
          (sym (below-off n variable below (value_of kind) (quantification kind) both (quantify_goal kind) (may variable) operand (quantifies_deep kind) side x other))
          (on_side (IsAsked n rule (suc (level_of_tuple x))) side (parts operand (level_of_tuple x) false x) (parts operand (level_of_tuple x) true x)
          (record { from = on false; may = may_be false }) (record { from = on true; may = may_be true }))

  -- one pointer twice is the tuple of it
  settled : (h i : ℕ) (x : Tuple) → x.first ≡ x.second → of_members (joined_by (value_of kind)) operand h i (both x x) ≡ of_members (joined_by (value_of kind)) operand h i x
  settled h i x same = λ j. joined_by (value_of kind) h (table_of rows h i x.first) (table_of rows h i (same j)) []

  pub quantify_is_rule : AreDeepening n operand → IsRule n rule operand
  quantify_is_rule deep = record {
    splits = λ h x asked end.
        variable_splits n variable below (value_of kind) (quantification kind) both (quantify_goal kind) (may variable) operand (quantifies_deep kind) first_low first_high h x end;
    passes = λ h i x asked end past.
        variable_passes n variable below (value_of kind) (quantification kind) both (quantify_goal kind) (may variable) operand (quantifies_deep kind) first_low first_high h i x end past
        (λ same. settled h (suc i) x (one_pointer i x (omega arith) asked.may));
    sides_asked = λ x side low asked. quantify_sides x side deep low asked;
    later = λ i x asked past. elim (place_of_level variable i) [
      | Below more ↦ may_below (suc i) x (omega arith)
      | At same ↦ may_below (suc i) x (omega arith)
      | Above less ↦ may_one (suc i) x (one_pointer i x (omega arith) asked.may)
    ];
    ends = λ h i x b end asked says. quantify_ends h i x b end asked.may says;
    goes = λ h i x y end asked says. (quantify_goes h i x y end asked says).same;
    goes_asked = λ i x y within asked says.
        let more : i + (n - i) ≡ n = omega arith in
        (quantify_goes (n - i) i x y more asked says).asked;
    goes_low = λ i x y within asked says.
        let more : i + (n - i) ≡ n = omega arith in
        (quantify_goes (n - i) i x y more asked says).low;
  }
