-- the rules of the operations
use Rattle.std.specs.Prelude.{ℕ, ◌-◌, ◌==◌, nat_lt, nat_le, ◌&&◌, ◌||◌, Bool, true, false, cond, [], ◌∷◌}
use Rattle.rec_words.specs.Words.{terminal}
use Rattle.bool_tables.specs.Tables.{same_bit}
use Rattle.bool_tables.specs.Steps.{op_value, quant_value, step_table}
use Rattle.bool_tables.specs.declared.steps.Bin.{Bin}
use Rattle.bool_tables.specs.declared.steps.Quant.{Quant}
use Rattle.bool_tables.specs.declared.steps.Quant.TheVariants.{Exists, Forall}
use Rattle.bool_tables.specs.declared.steps.Step.{Step}
use Rattle.bool_tables.specs.declared.steps.Step.TheVariants.{Quantify, Restrict}
use Rattle.top_down.specs.declared.tuple.Tuple.{Tuple}
use Rattle.top_down.specs.Tuples.{unused, joined_by}
use Rattle.top_down.specs.declared.tuple.Goal.{Goal}
use Rattle.top_down.specs.declared.tuple.Goal.TheVariants.{End, Go}
use Rattle.top_down.specs.Rules.{Rule}

-- the pointer is a truth value
abbrev pub is_end : ℕ → Bool
is_end w = nat_le (terminal false) w

-- the pointer is the truth value 1
abbrev pub is_one : ℕ → Bool
is_one w = w == terminal true

-- the tuple of one side's pointers
abbrev pub same_side : ℕ → Bool → Tuple → Tuple → Tuple
same_side level side low high = cond side high low

-- the tuple may be asked for on each level
abbrev pub always : ℕ → Tuple → Bool
always i x = true

-- two values that are the same decide, and otherwise the tuple is asked for
abbrev pub decides : Bool → Bool → Tuple → Goal
decides b c x = cond (same_bit b c) (End b) (Go x)

-- an operation on two diagrams: a truth value ends where the operator's value doesn't depend on the other operand
abbrev pub product_goal : Bin → Tuple → Goal
product_goal op x =
    cond (is_end x.first)
    (cond (is_end x.second)
    (End (op_value op (is_one x.first) (is_one x.second)))
    (decides (op_value op (is_one x.first) false) (op_value op (is_one x.first) true) x))
    (cond (is_end x.second)
    (decides (op_value op false (is_one x.second)) (op_value op true (is_one x.second)) x)
    (Go x))

abbrev pub product_rule : Bin → Rule
product_rule op = record {
  below = same_side;
  goal = product_goal op;
  may_ask = always;
  table = λ h i. joined_by (λ b c d. op_value op b c) h;
}

-- a pointer that is a truth value ends, and any other is asked for
abbrev pub ends_or : ℕ → Tuple → Goal
ends_or w x = cond (is_end w) (End (is_one w)) (Go x)

-- a choice: a truth value as test leaves the chosen diagram alone, and two branches that are the same truth value end
abbrev pub choice_goal : Tuple → Goal
choice_goal x =
    cond (is_end x.first)
    (cond (is_one x.first)
    (ends_or x.second (record { first = x.first; second = x.second; third = unused }))
    (ends_or x.third (record { first = x.first; second = unused; third = x.third })))
    (cond (is_end x.second && (x.second == x.third)) (End (is_one x.second)) (Go x))

abbrev pub choice_rule : Rule
choice_rule = record {
  below = same_side;
  goal = choice_goal;
  may_ask = always;
  table = λ h i. joined_by (λ b c d. cond b c d) h;
}

-- an operation on the variable of one level: from that level's nodes on the members' values are joined by f, and
-- above the step is still to be made of the first member
abbrev pub variable_rule : ℕ → (Bool → Bool → Bool → Bool) → (ℕ → Step) → (Tuple → Tuple → Tuple) → (Tuple → Goal)
    → (ℕ → Tuple → Bool) → Rule
variable_rule variable f step at_variable goal may_ask = record {
  below = λ level side low high. cond (level == variable) (at_variable low high) (same_side level side low high);
  goal = goal;
  may_ask = may_ask;
  table = λ h i t u v. cond (nat_lt variable i) (joined_by f h t u v) (step_table h (t ∷ []) (step (variable - i)));
}

-- the tuple of two pointers
abbrev pub two : ℕ → ℕ → Tuple
two a b = record { first = a; second = b; third = unused }

-- the value that decides a quantifier
abbrev pub strong : Quant → Bool
strong Exists = true
strong Forall = false

-- the pointers in ascending order, since a quantifier doesn't tell them apart
abbrev pub sorted : Tuple → Tuple
sorted x = cond (nat_le x.first x.second) (two x.first x.second) (two x.second x.first)

-- a quantifier: the value that decides it ends, the other one leaves the other pointer alone
abbrev pub quantify_goal : Quant → Tuple → Goal
quantify_goal kind x =
    cond (is_end x.first)
    (cond (same_bit (is_one x.first) (strong kind)) (End (strong kind)) (ends_or x.second (two x.second x.second)))
    (cond (is_end x.second)
    (cond (same_bit (is_one x.second) (strong kind)) (End (strong kind)) (Go (two x.first x.first)))
    (Go (sorted x)))

-- down to the variable a tuple is one pointer, which stands twice; a node of the variable leads to both its pointers
abbrev pub quantify_rule : Quant → ℕ → Rule
quantify_rule kind variable =
    variable_rule variable (λ b c d. quant_value kind b c) (λ k. Quantify kind 0 k)
    (λ low high. two low.first high.first)
    (quantify_goal kind) (λ i x. nat_lt variable i || (x.first == x.second))

-- a restriction: a node of the variable leads to its pointer on the side of the value
abbrev pub restrict_rule : ℕ → Bool → Rule
restrict_rule variable value =
    variable_rule variable (λ b c d. b) (λ k. Restrict 0 k value) (λ low high. cond value high low)
    (λ x. ends_or x.first x) always

-- the operator of an implication
abbrev pub implies : Bin
implies = record { v00 = true; v01 = true; v10 = false; v11 = true }
