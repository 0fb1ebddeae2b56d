-- Of pointers that the operands' files know the operation of a step makes such pointers alone.
use Rattle.std.proofs.Common.{◌≡◌, ℕ, List, refl, subst, sym, inl}
use Rattle.bool_tables.specs.declared.steps.Bin.{Bin}
use Rattle.bool_tables.specs.declared.steps.Quant.{Quant}
use Rattle.node_reading.specs.Missing.{IsKnown}
use Rattle.top_down.specs.declared.tuple.Tuple.{Tuple}
use Rattle.top_down.specs.Operations.{quantify_rule}
use Rattle.top_down.specs.Rules.{Rule}
use Rattle.top_down.specs.Tuples.{unused}
use Rattle.top_down_laws.proofs.PickLaws.{AreOf, PicksOf, product_of, choice_of, quantify_of, restrict_of}
use Rattle.sweep_operations.specs.declared.steps.StepOperation.{StepOperation}
use Rattle.sweep_operations.specs.declared.steps.StepOperation.TheVariants.{Operator, Choice, Quantifier, Restriction}
use Rattle.tuple_asks.specs.Knowing.{FileBytes, KnowsTuple, StaysKnown}
use Rattle.sweep_operations.specs.Operations.{rule_of, begins_of}

-- a quantifier's first two operands are one file; of other operations they may be any
abbrev pub AreTwins : StepOperation → FileBytes → Type 0
AreTwins (Operator op) b = Unit
AreTwins Choice b = Unit
AreTwins (Quantifier kind level) b = b.second ≡ b.first
AreTwins (Restriction level value) b = Unit

-- what stands in a member that isn't used is known
no_member : (bytes : List ℕ) → IsKnown bytes unused
no_member bytes = inl (inl refl)

of_files : (b : FileBytes) (x : Tuple) → KnowsTuple b x → AreOf (IsKnown b.first) (IsKnown b.second) (IsKnown b.third) x
of_files b x is = record { first = is.first; second = is.second; third = is.third }

in_files : (b : FileBytes) (x : Tuple) → AreOf (IsKnown b.first) (IsKnown b.second) (IsKnown b.third) x → KnowsTuple b x
in_files b x is = record { first = is.first; second = is.second; third = is.third }

-- where a rule picks known pointers, the operation does
stays : (rule : Rule) (begins : Tuple → Tuple) (b : FileBytes)
    → PicksOf (IsKnown b.first) (IsKnown b.second) (IsKnown b.third) rule
    → ((x : Tuple) → KnowsTuple b x → KnowsTuple b (begins x)) → StaysKnown rule begins b
stays rule begins b picks begun = record {
  begun = begun;
  goal = λ x y is says. in_files b y (picks.goal x y (of_files b x is) says);
  below = λ level side lows highs low high. in_files b _
      (picks.below level side lows highs (of_files b lows low) (of_files b highs high));
}

pub product_stays : (op : Bin) (b : FileBytes) → StaysKnown (rule_of (Operator op)) (begins_of (Operator op)) b
product_stays op b = stays _ _ b (product_of (IsKnown b.first) (IsKnown b.second) (IsKnown b.third) op)
    (λ x is. record { first = is.first; second = is.second; third = no_member b.third })

choice_stays : (b : FileBytes) → StaysKnown (rule_of Choice) (begins_of Choice) b
choice_stays b = stays _ _ b (choice_of (IsKnown b.first) (IsKnown b.second) (IsKnown b.third) (no_member b.second)
    (no_member b.third)) (λ x is. is)

quantify_stays : (kind : Quant) (level : ℕ) (b : FileBytes) → b.second ≡ b.first
    → StaysKnown (rule_of (Quantifier kind level)) (begins_of (Quantifier kind level)) b
quantify_stays kind level b same = stays _ _ b
    (subst (λ bytes. PicksOf (IsKnown b.first) (IsKnown bytes) (IsKnown b.third) (quantify_rule kind level)) (sym same)
    (quantify_of (IsKnown b.first) (IsKnown b.third) (no_member b.third) kind level))
    (λ x is. record {
      first = is.first;
      second = subst (λ bytes. IsKnown bytes x.first) (sym same) is.first;
      third = no_member b.third;
    })

restrict_stays : (level : ℕ) (value : _) (b : FileBytes)
    → StaysKnown (rule_of (Restriction level value)) (begins_of (Restriction level value)) b
restrict_stays level value b = stays _ _ b
    (restrict_of (IsKnown b.first) (IsKnown b.second) (IsKnown b.third) level value)
    (λ x is. record { first = is.first; second = no_member b.second; third = no_member b.third })

pub step_stays : (operation : StepOperation) (b : FileBytes) → AreTwins operation b
    → StaysKnown (rule_of operation) (begins_of operation) b
step_stays (Operator op) b same = product_stays op b
step_stays Choice b same = choice_stays b
step_stays (Quantifier kind level) b same = quantify_stays kind level b same
step_stays (Restriction level value) b same = restrict_stays level value b
