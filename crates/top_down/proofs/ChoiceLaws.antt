-- the rule of a choice between two diagrams by a third
use Rattle.std.specs.Prelude.{◌≡◌, ◌+◌, ◌-◌, ◌^◌, ◌<◌, ◌≤◌, ◌==◌, ◌&&◌, ℕ, suc, Bool, true, false, cond, List, ◌++◌, replicate}
use Rattle.std.proofs.Common.{refl, sym, ◌∙◌, ap, subst, arith}
use Rattle.std.proofs.lemmas.Bool.Decides.{nat_tests}
use Rattle.bool_tables.specs.Tables.{value_at}
use Rattle.rec_words.specs.Words.{level_of}
use Rattle.canon_file.specs.declared.row.Row.{Row}
use Rattle.canon_file.specs.Walks.{table_of}
use Rattle.top_down.specs.declared.tuple.Tuple.{Tuple}
use Rattle.top_down.specs.Tuples.{Targets, unused, level_of_tuple, parts, joined_by, AreFrom, AreDeepening}
use Rattle.top_down.specs.declared.tuple.Goal.{Goal}
use Rattle.top_down.specs.declared.tuple.Goal.TheVariants.{End, Go}
use Rattle.top_down.specs.Rules.{IsRule, table_for}
use Rattle.top_down.specs.Operations.{is_end, is_one, ends_or, choice_goal, choice_rule}
use Rattle.top_down.proofs.TupleLaws.{table-end, low_node, from_terminal}
use Rattle.top_down.proofs.PointwiseLaws.{joined_one, joined_same, constant_at, low-joined, high-joined, halved, parts-past, parts_from, on_side}
use Rattle.top_down.proofs.GoalLaws.{end_value, go_tuple, end_go, ends_or-end, ends_or-go}

-- the tuple that a test which is a truth value leaves
abbrev pub left_by : Bool → Tuple → Tuple
left_by value x = cond value (record { first = x.first; second = x.second; third = unused }) (record { first = x.first; second = unused; third = x.third })

-- what the rule says, where it is known whether the test is a truth value, and which, and whether the branches are the same one
abbrev pub says_of : Bool → Bool → Bool → Tuple → Goal
says_of b d s x =
    cond b (cond d (ends_or x.second (left_by true x)) (ends_or x.third (left_by false x)))
    (cond s (End (is_one x.second)) (Go x))

-- the branches are the same truth value
abbrev pub same_ends : Tuple → Bool
same_ends x = is_end x.second && (x.second == x.third)

same_values : (x : Tuple) → same_ends x ≡ true → (is_end x.second ≡ true) × (x.second ≡ x.third)
same_values x e = by (is_end x.second) refl e
  where
    by : (b : Bool) → is_end x.second ≡ b → b && (x.second == x.third) ≡ true → (is_end x.second ≡ true) × (x.second ≡ x.third)
    by true same says = (same, grind (arith, nat_tests))
    by false same says = absurd (wrong says)
      where
        wrong : false ≡ true → ⊥
        wrong e = cc

abbrev choose : Bool → Bool → Bool → Bool
choose b c d = cond b c d

either : (b value : Bool) → cond b value value ≡ value
either true value = refl
either false value = refl

module _ (n : ℕ) (top : n ≤ 65535) (targets : Targets) where
  abbrev table : ℕ → ℕ → Tuple → List Bool
  table h i x = table_for choice_rule targets h i x

  -- the value of a member that is a truth value
  known : (rows : ℕ → Row) (h i w p : ℕ) → i + h ≡ n → p < 2 ^ h → is_end w ≡ true → value_at (table_of rows h i w) p ≡ is_one w
  known rows h i w p end below e = (λ j. value_at (table-end rows h i w (omega arith) e j) p) ∙ constant_at h p (is_one w) below

  choice_ends : (h i : ℕ) (x : Tuple) (value : Bool) → i + h ≡ n → choice_goal x ≡ End value → table h i x ≡ replicate (2 ^ h) value
  choice_ends h i x value end e = by (is_end x.first) (is_one x.first) (same_ends x) refl refl refl e
    where
      t : List Bool
      t = table_of targets.first h i x.first

      u : List Bool
      u = table_of targets.second h i x.second

      v : List Bool
      v = table_of targets.third h i x.third

      by : (b d s : Bool) → is_end x.first ≡ b → is_one x.first ≡ d → same_ends x ≡ s → says_of b d s x ≡ End value
          → joined_by choose h t u v ≡ replicate (2 ^ h) value
      by true true s first one same says =
          let (is_value, which) = ends_or-end x.second (left_by true x) value says in
          joined_one choose h t u v value (λ p below.
          (λ j. cond ((known targets.first h i x.first p end below first ∙ one) j) (value_at u p) (value_at v p))
          ∙ known targets.second h i x.second p end below is_value ∙ which)
      by true false s first one same says =
          let (is_value, which) = ends_or-end x.third (left_by false x) value says in
          joined_one choose h t u v value (λ p below.
          (λ j. cond ((known targets.first h i x.first p end below first ∙ one) j) (value_at u p) (value_at v p))
          ∙ known targets.third h i x.third p end below is_value ∙ which)
      by false d true first one same says =
          let (is_value, equal) = same_values x same in
          joined_one choose h t u v value (λ p below.
          (λ j. cond (value_at t p) (known targets.second h i x.second p end below is_value j)
          (known targets.third h i x.third p end below (ap is_end (sym equal) ∙ is_value) j))
          ∙ (λ j. cond (value_at t p) (is_one x.second) (is_one (sym equal j)))
          ∙ either (value_at t p) (is_one x.second) ∙ end_value (is_one x.second) value says)
      by false d false first one same says = absurd (end_go value x (sym says))

  -- a tuple that is asked for has the same table, may be asked for and has a node
  pub record Goes (h i : ℕ) (x y : Tuple) : Type 0 where
    pub same : table h i x ≡ table h i y
    pub from : AreFrom n i y
    pub low : level_of_tuple y < n

  choice_goes : (h i : ℕ) (x y : Tuple) → i + h ≡ n → AreFrom n i x → choice_goal x ≡ Go y → Goes h i x y
  choice_goes h i x y end from e = by (is_end x.first) (is_one x.first) (same_ends x) refl refl refl e
    where
      t : List Bool
      t = table_of targets.first h i x.first

      u : List Bool
      u = table_of targets.second h i x.second

      v : List Bool
      v = table_of targets.third h i x.third

      none : (rows : ℕ → Row) → List Bool
      none rows = table_of rows h i unused

      by : (b d s : Bool) → is_end x.first ≡ b → is_one x.first ≡ d → same_ends x ≡ s → says_of b d s x ≡ Go y → Goes h i x y
      by true true s first one same says =
          let (node, is_y) = ends_or-go x.second (left_by true x) y says in
          let low : level_of x.second < n = low_node n i x.second from.second node in
          subst (Goes h i x) is_y (record {
            same = joined_same choose choose h t u v t u (none targets.third) (λ p below.
                let test : value_at t p ≡ true = known targets.first h i x.first p end below first ∙ one in
                (λ j. cond (test j) (value_at u p) (value_at v p)) ∙ (λ j. cond (sym test j) (value_at u p) (value_at (none targets.third) p)));
            from = record { first = from.first; second = from.second; third = from_terminal n i false (omega arith) top };
            low = omega arith;
          })
      by true false s first one same says =
          let (node, is_y) = ends_or-go x.third (left_by false x) y says in
          let low : level_of x.third < n = low_node n i x.third from.third node in
          subst (Goes h i x) is_y (record {
            same = joined_same choose choose h t u v t (none targets.second) v (λ p below.
                let test : value_at t p ≡ false = known targets.first h i x.first p end below first ∙ one in
                (λ j. cond (test j) (value_at u p) (value_at v p)) ∙ (λ j. cond (sym test j) (value_at (none targets.second) p) (value_at v p)));
            from = record { first = from.first; second = from_terminal n i false (omega arith) top; third = from.third };
            low = omega arith;
          })
      by false d true first one same says = absurd (end_go (is_one x.second) y says)
      by false d false first one same says =
          let low : level_of x.first < n = low_node n i x.first from.first first in
          subst (Goes h i x) (go_tuple x y says) (record { same = refl; from = from; low = omega arith })

  pub choice_is_rule : AreDeepening n targets → IsRule n choice_rule targets
  choice_is_rule deep = record {
    splits = λ h x asked end. halved (joined_by choose) (joined_by choose) targets h (level_of_tuple x) x (low-joined choose h) (high-joined choose h);
    passes = λ h i x asked end past.
        halved (joined_by choose) (joined_by choose) targets h i x (low-joined choose h) (high-joined choose h)
        ∙ (λ j. table h (suc i) (parts-past targets i false x past j) ++ table h (suc i) (parts-past targets i true x past j));
    sides_asked = λ x side low asked. record {
      from = on_side (AreFrom n (suc (level_of_tuple x))) side (parts targets (level_of_tuple x) false x) (parts targets (level_of_tuple x) true x)
          (parts_from n targets (level_of_tuple x) false x deep low asked.from) (parts_from n targets (level_of_tuple x) true x deep low asked.from);
      may = refl;
    };
    later = λ i x asked past. refl;
    ends = λ h i x value end asked says. choice_ends h i x value end says;
    goes = λ h i x y end asked says. (choice_goes h i x y end asked.from says).same;
    goes_asked = λ i x y within asked says.
        let more : i + (n - i) ≡ n = omega arith in
        record { from = (choice_goes (n - i) i x y more asked.from says).from; may = refl };
    goes_low = λ i x y within asked says.
        let more : i + (n - i) ≡ n = omega arith in
        (choice_goes (n - i) i x y more asked.from says).low;
  }
