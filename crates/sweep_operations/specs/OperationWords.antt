-- The words of operations.
use Rattle.std.specs.Prelude.{◌≡◌, ℕ, ◌<◌, ◌^◌, Bool, true, false, [], Option, Some, None, refl}
use Rattle.std.proofs.Common.{ap, sym, ◌∙◌}
use Rattle.std.proofs.lemmas.List.Elements.{All-nil}
use Rattle.bool_tables.specs.declared.steps.Quant.{Quant}
use Rattle.bool_tables.specs.declared.steps.Quant.TheVariants.{Exists, Forall}
use Rattle.sweep_operations.specs.declared.product.Product.{Product}
use Rattle.sweep_operations.specs.declared.choice.Choice.{Choice}
use Rattle.sweep_operations.specs.declared.quantified.Quantified.{Quantified}
use Rattle.sweep_operations.specs.declared.restricted.Restricted.{Restricted}
use Rattle.sweep_operations.specs.declared.steps.StepOperation.{StepOperation}
use Rattle.sweep_operations.specs.declared.steps.StepOperation.TheVariants as steps
use Rattle.sweep_operations.specs.Spellings.{Spelling, bit, half, both, maybe, by_parts}

-- an operator's four values
abbrev pub product_parts : Product → (Bool × Bool) × (Bool × Bool)
product_parts o = ((o.op.v00, o.op.v01), (o.op.v10, o.op.v11))

abbrev pub product_of : (Bool × Bool) × (Bool × Bool) → Product
product_of ((a, b), (c, d)) = record { op = record { v00 = a; v01 = b; v10 = c; v11 = d } }

abbrev pub product_spelling : Spelling Product
product_spelling = by_parts product_parts (λ x y same. ap product_of same) (both (both bit bit) (both bit bit))

-- a choice has no words
abbrev pub choice_spelling : Spelling Choice
choice_spelling = record {
  count = 0;
  words = λ o. [];
  is_value = λ o. Unit;
  long = λ o is. refl;
  fits = λ o is. All-nil (λ word. word < 2 ^ 64);
  differ = λ x y is other same. refl;
}

-- whether there is some value, or each has to be one; and the variable
abbrev pub is_exists : Quant → Bool
is_exists Exists = true
is_exists Forall = false

abbrev pub quantified_parts : Quantified → Bool × ℕ
quantified_parts o = (is_exists o.kind, o.variable)

same_kind : (k l : Quant) → is_exists k ≡ is_exists l → k ≡ l
same_kind Exists Exists same = refl
same_kind Exists Forall same = (cc)
same_kind Forall Exists same = (cc)
same_kind Forall Forall same = refl

pub same_quantified : (x y : Quantified) → quantified_parts x ≡ quantified_parts y → x ≡ y
same_quantified x y same =
    let kind = same_kind x.kind y.kind (ap (λ (p : Bool × ℕ). p.0) same) in
    λ i. record { kind = kind i; variable = (same i).1 }

abbrev pub quantified_spelling : Spelling Quantified
quantified_spelling = by_parts quantified_parts same_quantified (both bit half)

-- the variable, and its value
abbrev pub restricted_parts : Restricted → ℕ × Bool
restricted_parts o = (o.variable, o.value)

abbrev pub restricted_of : ℕ × Bool → Restricted
restricted_of (n, b) = record { variable = n; value = b }

abbrev pub restricted_spelling : Spelling Restricted
restricted_spelling = by_parts restricted_parts (λ x y same. ap restricted_of same) (both half bit)

-- one of three is there, or none where it is a choice
abbrev pub Operations : Type 0
Operations = Option Product × (Option Quantified × Option Restricted)

abbrev pub step_parts : StepOperation → Operations
step_parts (steps.Operator op) = (Some (record { op = op }), (None, None))
step_parts steps.Choice = (None, (None, None))
step_parts (steps.Quantifier kind level) = (None, (Some (record { kind = kind; variable = level }), None))
step_parts (steps.Restriction level value) = (None, (None, Some (record { variable = level; value = value })))

-- the operation that is there, where it is one
abbrev pub step_of_parts : Operations → Option StepOperation
step_of_parts (Some o, (None, None)) = Some (steps.Operator o.op)
step_of_parts (Some o, (None, Some r)) = None
step_of_parts (Some o, (Some q, None)) = None
step_of_parts (Some o, (Some q, Some r)) = None
step_of_parts (None, (Some q, None)) = Some (steps.Quantifier q.kind q.variable)
step_of_parts (None, (Some q, Some r)) = None
step_of_parts (None, (None, Some r)) = Some (steps.Restriction r.variable r.value)
step_of_parts (None, (None, None)) = Some steps.Choice

pub step_again : (x : StepOperation) → step_of_parts (step_parts x) ≡ Some x
step_again (steps.Operator op) = refl
step_again steps.Choice = refl
step_again (steps.Quantifier kind level) = refl
step_again (steps.Restriction level value) = refl

pub same_step : (x y : StepOperation) → step_parts x ≡ step_parts y → x ≡ y
same_step x y same =
    let one : Some x ≡ Some y = sym (step_again x) ∙ ap step_of_parts same ∙ step_again y in
    (cc)

abbrev pub operations_spelling : Spelling Operations
operations_spelling = both (maybe product_spelling) (both (maybe quantified_spelling) (maybe restricted_spelling))

abbrev pub step_spelling : Spelling StepOperation
step_spelling = by_parts step_parts same_step operations_spelling
