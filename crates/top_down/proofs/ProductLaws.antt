-- the rule of an operation on two diagrams
use Rattle.std.specs.Prelude.{◌≡◌, ◌⊎◌, ◌+◌, ◌^◌, ◌<◌, ◌≤◌, ℕ, suc, Bool, true, false, cond, List, ◌++◌, replicate}
use Rattle.std.proofs.Common.{refl, sym, ◌∙◌, ap, subst, inl, inr, arith}
use Rattle.bool_tables.specs.Tables.{value_at}
use Rattle.bool_tables.specs.Steps.{op_value}
use Rattle.bool_tables.specs.declared.steps.Bin.{Bin}
use Rattle.rec_words.specs.Words.{level_of}
use Rattle.canon_file.specs.Walks.{table_of}
use Rattle.top_down.specs.declared.tuple.Tuple.{Tuple}
use Rattle.top_down.specs.Tuples.{Targets, level_of_tuple, parts, joined_by, AreFrom, AreDeepening}
use Rattle.top_down.specs.declared.tuple.Goal.TheVariants.{End, Go}
use Rattle.top_down.specs.Rules.{IsAsked, IsRule, table_for}
use Rattle.top_down.specs.Operations.{is_end, is_one, decides, product_goal, product_rule}
use Rattle.top_down.proofs.TupleLaws.{table-end, low_node}
use Rattle.top_down.proofs.PointwiseLaws.{joined_one, constant_at, low-joined, high-joined, halved, parts-past, parts_from, on_side}
use Rattle.top_down.proofs.GoalLaws.{end_value, go_tuple, end_go, decides-end, decides-go}

-- a value of either kind
either_value : (f : Bool → Bool) (value b : Bool) → f false ≡ value → f true ≡ value → f b ≡ value
either_value f value true for_false for_true = for_true
either_value f value false for_false for_true = for_false

-- a tuple that is asked for is the tuple itself, and has a node
pub product_goes : (op : Bin) (x y : Tuple) → product_goal op x ≡ Go y → (x ≡ y) × ((is_end x.first ≡ false) ⊎ (is_end x.second ≡ false))
product_goes op x y e = by (is_end x.first) (is_end x.second) refl refl e
  where
    by : (b c : Bool) → is_end x.first ≡ b → is_end x.second ≡ c
        → cond b
        (cond c (End (op_value op (is_one x.first) (is_one x.second))) (decides (op_value op (is_one x.first) false) (op_value op (is_one x.first) true) x))
        (cond c (decides (op_value op false (is_one x.second)) (op_value op true (is_one x.second)) x) (Go x)) ≡ Go y
        → (x ≡ y) × ((is_end x.first ≡ false) ⊎ (is_end x.second ≡ false))
    by true true first second says = absurd (end_go (op_value op (is_one x.first) (is_one x.second)) y says)
    by true false first second says = (decides-go (op_value op (is_one x.first) false) (op_value op (is_one x.first) true) x y says, inr second)
    by false true first second says = (decides-go (op_value op false (is_one x.second)) (op_value op true (is_one x.second)) x y says, inl first)
    by false false first second says = (go_tuple x y says, inl first)

-- a tuple of those pointers has a level below n
product_low : (n i : ℕ) (x : Tuple) → AreFrom n i x → (is_end x.first ≡ false) ⊎ (is_end x.second ≡ false) → level_of_tuple x < n
product_low n i x from (inl e) = let low : level_of x.first < n = low_node n i x.first from.first e in omega arith
product_low n i x from (inr e) = let low : level_of x.second < n = low_node n i x.second from.second e in omega arith

module _ (op : Bin) (n : ℕ) (top : n ≤ 65535) (targets : Targets) where
  -- where the rule ends, the table is constant
  product_ends : (h i : ℕ) (x : Tuple) (value : Bool) → i + h ≡ n → product_goal op x ≡ End value
      → table_for (product_rule op) targets h i x ≡ replicate (2 ^ h) value
  product_ends h i x value end e = by (is_end x.first) (is_end x.second) refl refl e
    where
      t : List Bool
      t = table_of targets.first h i x.first

      u : List Bool
      u = table_of targets.second h i x.second

      v : List Bool
      v = table_of targets.third h i x.third

      left : (p : ℕ) → p < 2 ^ h → is_end x.first ≡ true → value_at t p ≡ is_one x.first
      left p below first = (λ j. value_at (table-end targets.first h i x.first (omega arith) first j) p) ∙ constant_at h p (is_one x.first) below

      right : (p : ℕ) → p < 2 ^ h → is_end x.second ≡ true → value_at u p ≡ is_one x.second
      right p below second = (λ j. value_at (table-end targets.second h i x.second (omega arith) second j) p) ∙ constant_at h p (is_one x.second) below

      by : (b c : Bool) → is_end x.first ≡ b → is_end x.second ≡ c
          → cond b
          (cond c (End (op_value op (is_one x.first) (is_one x.second))) (decides (op_value op (is_one x.first) false) (op_value op (is_one x.first) true) x))
          (cond c (decides (op_value op false (is_one x.second)) (op_value op true (is_one x.second)) x) (Go x)) ≡ End value
          → joined_by (λ b c d. op_value op b c) h t u v ≡ replicate (2 ^ h) value
      by true true first second says = joined_one (λ b c d. op_value op b c) h t u v value
          (λ p below. (λ j. op_value op (left p below first j) (right p below second j)) ∙ end_value (op_value op (is_one x.first) (is_one x.second)) value says)
      by true false first second says =
          let (low, high) = decides-end (op_value op (is_one x.first) false) (op_value op (is_one x.first) true) x value says in
          joined_one (λ b c d. op_value op b c) h t u v value
          (λ p below. (λ j. op_value op (left p below first j) (value_at u p)) ∙ either_value (op_value op (is_one x.first)) value (value_at u p) low high)
      by false true first second says =
          let (low, high) = decides-end (op_value op false (is_one x.second)) (op_value op true (is_one x.second)) x value says in
          joined_one (λ b c d. op_value op b c) h t u v value
          (λ p below. (λ j. op_value op (value_at t p) (right p below second j)) ∙ either_value (λ b. op_value op b (is_one x.second)) value (value_at t p) low high)
      by false false first second says = absurd (end_go value x (sym says))

  pub product_is_rule : AreDeepening n targets → IsRule n (product_rule op) targets
  product_is_rule deep = record {
    splits = λ h x asked end. halved (joined_by (λ b c d. op_value op b c)) (joined_by (λ b c d. op_value op b c)) targets h (level_of_tuple x) x
        (low-joined (λ b c d. op_value op b c) h) (high-joined (λ b c d. op_value op b c) h);
    passes = λ h i x asked end past.
        halved (joined_by (λ b c d. op_value op b c)) (joined_by (λ b c d. op_value op b c)) targets h i x
        (low-joined (λ b c d. op_value op b c) h) (high-joined (λ b c d. op_value op b c) h)
        ∙ (λ j. table_for (product_rule op) targets h (suc i) (parts-past targets i false x past j)
        ++ table_for (product_rule op) targets h (suc i) (parts-past targets i true x past j));
    sides_asked = λ x side low asked. record {
      from = on_side (AreFrom n (suc (level_of_tuple x))) side (parts targets (level_of_tuple x) false x) (parts targets (level_of_tuple x) true x)
          (parts_from n targets (level_of_tuple x) false x deep low asked.from) (parts_from n targets (level_of_tuple x) true x deep low asked.from);
      may = refl;
    };
    later = λ i x asked past. refl;
    ends = λ h i x value end asked says. product_ends h i x value end says;
    goes = λ h i x y end asked says. ap (table_for (product_rule op) targets h i) (product_goes op x y says).0;
    goes_asked = λ i x y within asked says. subst (IsAsked n (product_rule op) i) (product_goes op x y says).0 asked;
    goes_low = λ i x y within asked says.
        let (same, node) = product_goes op x y says in
        subst (λ z. level_of_tuple z < n) same (product_low n i x asked.from node);
  }
