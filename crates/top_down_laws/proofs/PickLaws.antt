-- What the rules of operations ask for is of the pointers that the tuples are of: of three sets of pointers, one for each
-- member, or of diagrams.
use Rattle.std.proofs.Common.{◌≡◌, ℕ, Bool, true, false, cond, List, refl, subst, inl}
use Rattle.std.specs.Prelude.{◌==◌, nat_le, ◌&&◌}
use Rattle.rec_words.specs.declared.node.Node.{Node}
use Rattle.bool_tables.specs.Tables.{same_bit}
use Rattle.bool_tables.specs.Steps.{op_value}
use Rattle.bool_tables.specs.declared.steps.Bin.{Bin}
use Rattle.bool_tables.specs.declared.steps.Quant.{Quant}
use Rattle.top_down.specs.declared.tuple.Tuple.{Tuple}
use Rattle.top_down.specs.declared.tuple.Goal.{Goal}
use Rattle.top_down.specs.declared.tuple.Goal.TheVariants.{End, Go}
use Rattle.top_down.specs.Tuples.{unused}
use Rattle.top_down.specs.Operations.{is_end, is_one, decides, ends_or, two, strong, product_goal, product_rule, choice_goal, choice_rule, quantify_goal, quantify_rule, restrict_rule}
use Rattle.top_down.specs.Rules.{Rule}
use Rattle.top_down_laws.specs.Readings.{Diagrams, IsIn, AreIn}
use Rattle.top_down_laws.specs.Remains.{Picks}

-- each member of the tuple is of its set
pub record AreOf (P Q R : ℕ → Type 0) (x : Tuple) : Type 0 where
  pub first : P x.first
  pub second : Q x.second
  pub third : R x.third

-- what the rule makes of such tuples are such tuples
pub record PicksOf (P Q R : ℕ → Type 0) (rule : Rule) : Type 0 where
  pub goal : (x y : Tuple) → AreOf P Q R x → rule.goal x ≡ Go y → AreOf P Q R y
  pub below : (level : ℕ) (side : Bool) (lows highs : Tuple) → AreOf P Q R lows → AreOf P Q R highs
      → AreOf P Q R (rule.below level side lows highs)

module _ (P Q R : ℕ → Type 0) where
  -- a tuple that is asked for is of the sets
  abbrev AsksOf : Goal → Type 0
  AsksOf (End value) = Unit {0}
  AsksOf (Go y) = AreOf P Q R y

  asks_of : (g : Goal) (y : Tuple) → AsksOf g → g ≡ Go y → AreOf P Q R y
  asks_of g y is says = subst AsksOf says is

  -- one of two goals, by a test
  either : (b : Bool) (g h : Goal) → AsksOf g → AsksOf h → AsksOf (cond b g h)
  either true g h first second = first
  either false g h first second = second

  decided : (b c : Bool) (x : Tuple) → AreOf P Q R x → AsksOf (decides b c x)
  decided b c x is = either (same_bit b c) (End b) (Go x) tt is

  ended : (w : ℕ) (x : Tuple) → AreOf P Q R x → AsksOf (ends_or w x)
  ended w x is = either (is_end w) (End (is_one w)) (Go x) tt is

  -- one of two tuples, by a test
  one_of : (b : Bool) (x y : Tuple) → AreOf P Q R x → AreOf P Q R y → AreOf P Q R (cond b x y)
  one_of true x y first second = first
  one_of false x y first second = second

  pub product_of : (op : Bin) → PicksOf P Q R (product_rule op)
  product_of op = record {
    goal = λ x y is says. asks_of (product_goal op x) y
        (either (is_end x.first) _ _
        (either (is_end x.second) _ _ tt (decided (op_value op (is_one x.first) false)
        (op_value op (is_one x.first) true) x is))
        (either (is_end x.second) _ _ (decided (op_value op false (is_one x.second))
        (op_value op true (is_one x.second)) x is) is)) says;
    below = λ level side lows highs low high. one_of side highs lows high low;
  }

  -- the second and the third set have the truth value that stands where a branch isn't used
  pub choice_of : Q unused → R unused → PicksOf P Q R choice_rule
  choice_of no_second no_third = record {
    goal = λ x y is says. asks_of (choice_goal x) y
        (either (is_end x.first) _ _
        (either (is_one x.first) _ _
        (ended x.second _ (record { first = is.first; second = is.second; third = no_third }))
        (ended x.third _ (record { first = is.first; second = no_second; third = is.third })))
        (either (is_end x.second && (x.second == x.third)) _ _ tt is)) says;
    below = λ level side lows highs low high. one_of side highs lows high low;
  }

  pub restrict_of : (variable : ℕ) (value : Bool) → PicksOf P Q R (restrict_rule variable value)
  restrict_of variable value = record {
    goal = λ x y is says. asks_of (ends_or x.first x) y (ended x.first x is) says;
    below = λ level side lows highs low high. one_of (level == variable) (cond value highs lows)
        (cond side highs lows) (one_of value highs lows high low) (one_of side highs lows high low);
  }

-- a quantifier's two pointers are of one set
pub quantify_of : (P R : ℕ → Type 0) → R unused → (kind : Quant) (variable : ℕ)
    → PicksOf P P R (quantify_rule kind variable)
quantify_of P R no_third kind variable = record {
  goal = λ x y is says. asks_of P P R (quantify_goal kind x) y
      (either P P R (is_end x.first) _ _
      (either P P R (same_bit (is_one x.first) (strong kind)) _ _ tt
      (ended P P R x.second _ (pair x.second x.second is.second is.second)))
      (either P P R (is_end x.second) _ _
      (either P P R (same_bit (is_one x.second) (strong kind)) _ _ tt
      (pair x.first x.first is.first is.first))
      (one_of P P R (nat_le x.first x.second) _ _ (pair x.first x.second is.first is.second)
      (pair x.second x.first is.second is.first)))) says;
  below = λ level side lows highs low high. one_of P P R (level == variable)
      (two lows.first highs.first) (cond side highs lows)
      (pair lows.first highs.first low.first high.first) (one_of P P R side highs lows high low);
}
  where
    pair : (a b : ℕ) → P a → P b → AreOf P P R (two a b)
    pair a b in_a in_b = record { first = in_a; second = in_b; third = no_third }

-- the pointers of diagrams are such sets
of_diagrams : (d : Diagrams) (x : Tuple) → AreIn d x → AreOf (IsIn d.first) (IsIn d.second) (IsIn d.third) x
of_diagrams d x is = record { first = is.first; second = is.second; third = is.third }

in_diagrams : (d : Diagrams) (x : Tuple) → AreOf (IsIn d.first) (IsIn d.second) (IsIn d.third) x → AreIn d x
in_diagrams d x is = record { first = is.first; second = is.second; third = is.third }

picks_in : (d : Diagrams) (rule : Rule) → PicksOf (IsIn d.first) (IsIn d.second) (IsIn d.third) rule → Picks rule d
picks_in d rule picks = record {
  goal = λ x y is says. in_diagrams d y (picks.goal x y (of_diagrams d x is) says);
  below = λ level side lows highs low high. in_diagrams d _
      (picks.below level side lows highs (of_diagrams d lows low) (of_diagrams d highs high));
}

pub no_member : (nodes : List Node) → IsIn nodes unused
no_member nodes = inl (inl refl)

pub product_picks : (op : Bin) (d : Diagrams) → Picks (product_rule op) d
product_picks op d = picks_in d (product_rule op) (product_of (IsIn d.first) (IsIn d.second) (IsIn d.third) op)

pub choice_picks : (d : Diagrams) → Picks choice_rule d
choice_picks d = picks_in d choice_rule (choice_of (IsIn d.first) (IsIn d.second) (IsIn d.third) (no_member d.second)
    (no_member d.third))

pub quantify_picks : (kind : Quant) (variable : ℕ) (nodes others : List Node)
    → Picks (quantify_rule kind variable) (record { first = nodes; second = nodes; third = others })
quantify_picks kind variable nodes others = picks_in (record { first = nodes; second = nodes; third = others })
    (quantify_rule kind variable) (quantify_of (IsIn nodes) (IsIn others) (no_member others) kind variable)

pub restrict_picks : (variable : ℕ) (value : Bool) (d : Diagrams)
    → Picks (restrict_rule variable value) d
restrict_picks variable value d = picks_in d (restrict_rule variable value)
    (restrict_of (IsIn d.first) (IsIn d.second) (IsIn d.third) variable value)
