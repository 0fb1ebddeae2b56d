-- the rules of the operations go down
use Rattle.std.specs.Prelude.{◌≡◌, ◌<◌, ◌^◌, ◌==◌, nat_le, ◌&&◌, ℕ, Bool, true, false, cond}
use Rattle.std.proofs.Common.{refl, subst, arith}
use Rattle.std.proofs.lemmas.Bool.Decides.{nat_tests}
use Rattle.rec_words.specs.Words.{level_of, terminal_level}
use Rattle.bool_tables.specs.Tables.{same_bit}
use Rattle.bool_tables.specs.Steps.{op_value}
use Rattle.bool_tables.specs.declared.steps.Bin.{Bin}
use Rattle.bool_tables.specs.declared.steps.Quant.{Quant}
use Rattle.top_down.specs.declared.tuple.Tuple.{Tuple}
use Rattle.top_down.specs.declared.tuple.Goal.{Goal}
use Rattle.top_down.specs.declared.tuple.Goal.TheVariants.{End, Go}
use Rattle.top_down.specs.Tuples.{unused, level_of_tuple}
use Rattle.top_down.specs.Operations.{is_end, is_one, decides, ends_or, two, strong, product_goal, product_rule, choice_goal, choice_rule, quantify_goal, quantify_rule, restrict_rule}
use Rattle.sweep_operations.specs.Rules.{Deepens}

-- where a tuple is asked for, it keeps P
abbrev Asks : (Tuple → Type 0) → Goal → Type 0
Asks P (End value) = Unit
Asks P (Go y) = P y

asks : (P : Tuple → Type 0) (g : Goal) (y : Tuple) → Asks P g → g ≡ Go y → P y
asks P g y kept says = subst (Asks P) says kept

-- one of two goals, by a test
either : (P : Tuple → Type 0) (b : Bool) (g h : Goal) → (b ≡ true → Asks P g) → (b ≡ false → Asks P h) →
    Asks P (cond b g h)
either P true g h first second = first refl
either P false g h first second = second refl

decided : (P : Tuple → Type 0) (b c : Bool) (x : Tuple) → P x → Asks P (decides b c x)
decided P b c x kept = either P (same_bit b c) (End b) (Go x) (λ _. tt) (λ _. kept)

ended_or : (P : Tuple → Type 0) (w : ℕ) (x : Tuple) → (is_end w ≡ false → P x) → Asks P (ends_or w x)
ended_or P w x kept = either P (is_end w) (End (is_one w)) (Go x) (λ _. tt) kept

-- a node's level is above that of a truth value
node_level : (w : ℕ) → is_end w ≡ false → level_of w < terminal_level
node_level w node = let below : w < 2 ^ 63 = grind (arith, nat_tests) in omega arith

abbrev HasNode : Tuple → Type 0
HasNode y = level_of_tuple y < terminal_level

abbrev IsBelow : ℕ → Tuple → Type 0
IsBelow level y = level < level_of_tuple y

first_node : (x : Tuple) → is_end x.first ≡ false → HasNode x
first_node x node = let low : level_of x.first < terminal_level = node_level x.first node in omega arith

second_node : (x : Tuple) → is_end x.second ≡ false → HasNode x
second_node x node = let low : level_of x.second < terminal_level = node_level x.second node in omega arith

third_node : (x : Tuple) → is_end x.third ≡ false → HasNode x
third_node x node = let low : level_of x.third < terminal_level = node_level x.third node in omega arith

-- what a product asks for
product_asks : (P : Tuple → Type 0) (op : Bin) (x : Tuple) → (is_end x.first ≡ false → P x) →
    (is_end x.second ≡ false → P x) → Asks P (product_goal op x)
product_asks P op x first second =
    either P (is_end x.first) _ _
    (λ _. either P (is_end x.second) _ _ (λ _. tt)
    (λ node. decided P (op_value op (is_one x.first) false) (op_value op (is_one x.first) true) x (second node)))
    (λ node. either P (is_end x.second) _ _ (λ _. decided P (op_value op false (is_one x.second))
    (op_value op true (is_one x.second)) x (first node)) (λ _. first node))

-- what a choice asks for
choice_asks : (P : Tuple → Type 0) (x : Tuple) → (is_end x.first ≡ false → P x)
    → (is_end x.second ≡ false → P (record { first = x.first; second = x.second; third = unused }))
    → (is_end x.third ≡ false → P (record { first = x.first; second = unused; third = x.third })) →
    Asks P (choice_goal x)
choice_asks P x first second third =
    either P (is_end x.first) _ _
    (λ _. either P (is_one x.first) _ _ (λ _. ended_or P x.second _ second) (λ _. ended_or P x.third _ third))
    (λ node. either P (is_end x.second && (x.second == x.third)) _ _ (λ _. tt) (λ _. first node))

-- what a quantifier asks for
quantify_asks : (P : Tuple → Type 0) (kind : Quant) (x : Tuple) →
    (is_end x.second ≡ false → P (two x.second x.second)) → (is_end x.first ≡ false → P (two x.first x.first))
    → (is_end x.first ≡ false → P (two x.first x.second)) → (is_end x.first ≡ false → P (two x.second x.first)) →
    Asks P (quantify_goal kind x)
quantify_asks P kind x second first both turned =
    either P (is_end x.first) _ _
    (λ _. either P (same_bit (is_one x.first) (strong kind)) _ _ (λ _. tt) (λ _. ended_or P x.second _ second))
    (λ node. either P (is_end x.second) _ _
    (λ _. either P (same_bit (is_one x.second) (strong kind)) _ _ (λ _. tt) (λ _. first node))
    (λ _. ordered (nat_le x.first x.second) node))
  where
    ordered : (f : Bool) → is_end x.first ≡ false → P (cond f (two x.first x.second) (two x.second x.first))
    ordered true node = both node
    ordered false node = turned node

-- the tuple of a side
side_below : (level : ℕ) (side : Bool) (lows highs : Tuple) → IsBelow level lows → IsBelow level highs →
    IsBelow level (cond side highs lows)
side_below level true lows highs low high = high
side_below level false lows highs low high = low

pub product_deepens : (op : Bin) → Deepens (product_rule op)
product_deepens op = record {
  has_node = λ x y says. asks HasNode _ y (product_asks HasNode op x (first_node x) (second_node x)) says;
  deeper = λ level side lows highs y top low high says.
      let below = side_below level side lows highs low high in
      asks (IsBelow level) _ y (product_asks (IsBelow level) op (cond side highs lows) (λ _. below) (λ _. below)) says;
}

pub choice_deepens : Deepens choice_rule
choice_deepens = record {
  has_node = λ x y says. asks HasNode _ y (choice_asks HasNode x (first_node x)
      (second_node (record { first = x.first; second = x.second; third = unused }))
      (third_node (record { first = x.first; second = unused; third = x.third }))) says;
  deeper = λ level side lows highs y top low high says.
      let x : Tuple = cond side highs lows in
      let below : IsBelow level x = side_below level side lows highs low high in
      asks (IsBelow level) _ y (choice_asks (IsBelow level) x (λ _. below) (λ _. third_unused level x top below)
      (λ _. second_unused level x top below)) says;
}
  where
    third_unused : (level : ℕ) (x : Tuple) → level < terminal_level → IsBelow level x →
        IsBelow level (record { first = x.first; second = x.second; third = unused })
    third_unused level x top below = omega (arith, top, below)

    second_unused : (level : ℕ) (x : Tuple) → level < terminal_level → IsBelow level x →
        IsBelow level (record { first = x.first; second = unused; third = x.third })
    second_unused level x top below = omega (arith, top, below)

pub quantify_deepens : (kind : Quant) (variable : ℕ) → Deepens (quantify_rule kind variable)
quantify_deepens kind variable = record {
  has_node = λ x y says. asks HasNode _ y (quantify_asks HasNode kind x (first_node (two x.second x.second))
      (first_node (two x.first x.first))
      (first_node (two x.first x.second)) (second_node (two x.second x.first))) says;
  deeper = λ level side lows highs y top low high says.
      let x : Tuple = cond (level == variable) (two lows.first highs.first) (cond side highs lows) in
      let below : IsBelow level x = by (level == variable) level side lows highs top low high in
      asks (IsBelow level) _ y (quantify_asks (IsBelow level) kind x
      (λ _. pair level x.second x.second top (second level x below) (second level x below))
      (λ _. pair level x.first x.first top (first level x below) (first level x below))
      (λ _. pair level x.first x.second top (first level x below) (second level x below))
      (λ _. pair level x.second x.first top (second level x below) (first level x below))) says;
}
  where
    first : (level : ℕ) (x : Tuple) → IsBelow level x → level < level_of x.first
    first level x below = omega (arith, below)

    second : (level : ℕ) (x : Tuple) → IsBelow level x → level < level_of x.second
    second level x below = omega (arith, below)

    pair : (level a b : ℕ) → level < terminal_level → level < level_of a → level < level_of b → IsBelow level (two a b)
    pair level a b top low high = omega (arith, top, low, high)

    by : (b : Bool) (level : ℕ) (side : Bool) (lows highs : Tuple) → level < terminal_level → IsBelow level lows →
        IsBelow level highs
        → IsBelow level (cond b (two lows.first highs.first) (cond side highs lows))
    by true level side lows highs top low high = pair level lows.first highs.first top (first level lows low)
        (first level highs high)
    by false level side lows highs top low high = side_below level side lows highs low high

pub restrict_deepens : (variable : ℕ) (value : Bool) → Deepens (restrict_rule variable value)
restrict_deepens variable value = record {
  has_node = λ x y says. asks HasNode _ y (ended_or HasNode x.first x (first_node x)) says;
  deeper = λ level side lows highs y top low high says.
      asks (IsBelow level) _ y (ended_or (IsBelow level) _ _
      (λ _. by (level == variable) level side lows highs low high)) says;
}
  where
    by : (b : Bool) (level : ℕ) (side : Bool) (lows highs : Tuple) → IsBelow level lows → IsBelow level highs
        → IsBelow level (cond b (cond value highs lows) (cond side highs lows))
    by true level side lows highs low high = side_below level value lows highs low high
    by false level side lows highs low high = side_below level side lows highs low high
