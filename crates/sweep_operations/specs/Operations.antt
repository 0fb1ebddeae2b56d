-- The operation that a step is, by its rule, and the step itself.
use Rattle.std.specs.Prelude.{ℕ, ◌<◌}
use Rattle.bool_tables.specs.declared.steps.Step.{Step}
use Rattle.bool_tables.specs.declared.steps.Step.TheVariants.{Pair, Ite, Quantify, Restrict}
use Rattle.top_down.specs.declared.tuple.Tuple.{Tuple}
use Rattle.top_down.specs.Operations.{two, product_rule, choice_rule, quantify_rule, restrict_rule}
use Rattle.top_down.specs.Rules.{Rule}
use Rattle.top_down.specs.Tuples.{unused}
use Rattle.sweep_operations.specs.Deepening.{product_deepens, choice_deepens, quantify_deepens, restrict_deepens}
use Rattle.sweep_operations.specs.Rules.{Deepens}
use Rattle.sweep_operations.specs.declared.steps.StepOperation.{StepOperation}
use Rattle.sweep_operations.specs.declared.steps.StepOperation.TheVariants.{Operator, Choice, Quantifier, Restriction}

-- what the operation says of tuples of pointers
abbrev pub rule_of : StepOperation → Rule
rule_of (Operator op) = product_rule op
rule_of Choice = choice_rule
rule_of (Quantifier kind level) = quantify_rule kind level
rule_of (Restriction level value) = restrict_rule level value

-- the tuple of the whole operation, where these are the operands' roots
abbrev pub begins_of : StepOperation → Tuple → Tuple
begins_of (Operator op) x = record { first = x.first; second = x.second; third = unused }
begins_of Choice x = x
begins_of (Quantifier kind level) x = two x.first x.first
begins_of (Restriction level value) x = record { first = x.first; second = unused; third = unused }

-- it goes down
pub operation_deepens : (operation : StepOperation) → Deepens (rule_of operation)
operation_deepens (Operator op) = product_deepens op
operation_deepens Choice = choice_deepens
operation_deepens (Quantifier kind level) = quantify_deepens kind level
operation_deepens (Restriction level value) = restrict_deepens level value

-- the step that is this operation on the first operands of a list
abbrev pub step_of : StepOperation → Step
step_of (Operator op) = Pair op 0 1
step_of Choice = Ite 0 1 2
step_of (Quantifier kind level) = Quantify kind 0 level
step_of (Restriction level value) = Restrict 0 level value

-- the operation's level is one of n
abbrev pub IsWithin : ℕ → StepOperation → Type 0
IsWithin n (Operator op) = Unit
IsWithin n Choice = Unit
IsWithin n (Quantifier kind level) = level < n
IsWithin n (Restriction level value) = level < n
