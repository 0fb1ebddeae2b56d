-- The operations on canonical diagrams as tasks.
use Rattle.std.specs.Prelude.{◌≡◌, ◌<◌, ℕ, Bool, List, [], ◌∷◌}
use Rattle.bool_tables.specs.Steps.{step_table}
use Rattle.bool_tables.specs.declared.steps.Bin.{Bin}
use Rattle.bool_tables.specs.declared.steps.Quant.{Quant}
use Rattle.bool_tables.specs.declared.steps.Step.TheVariants.{Pair, Ite, Quantify, Restrict}
use Rattle.canon_file.specs.Canon.{canon_nodes}
use Rattle.canon_file.specs.Laws.{HasForm}
use Rattle.top_down.specs.declared.tuple.Tuple.{Tuple}
use Rattle.top_down.specs.Rules.{Rule}
use Rattle.top_down.specs.Operations.{product_rule, choice_rule, quantify_rule, restrict_rule}
use Rattle.top_down.specs.Laws.{roots_of_one, root_twice, roots_of_two, roots_of_three}
use Rattle.top_down_laws.specs.Readings.{Diagrams}
use Rattle.top_down_laws.specs.Remains.{IsTask}
use Rattle.top_down_laws.specs.Laws.{task_table}

-- the nodes of the canonical diagrams of three tables
abbrev pub canon_diagrams : ℕ → List Bool → List Bool → List Bool → Diagrams
canon_diagrams n t u v = record {
  first = canon_nodes n t;
  second = canon_nodes n u;
  third = canon_nodes n v;
}

-- a task whose table is that one
pub record IsTaskFor (n : ℕ) (rule : Rule) (d : Diagrams) (roots : Tuple)
    (made : List Bool) : Type 0 where
  pub is_task : IsTask n rule d roots
  pub table_is : task_table n rule d roots ≡ made

-- an operation on two canonical diagrams is the task of its table
abbrev pub ProductIsTask : ℕ → Type 0
ProductIsTask n = (op : Bin) (t u : List Bool) → HasForm n t → HasForm n u
    → IsTaskFor n (product_rule op) (canon_diagrams n t u u) (roots_of_two n t u)
    (step_table n (t ∷ u ∷ []) (Pair op 0 1))

-- so is a choice of three
abbrev pub ChoiceIsTask : ℕ → Type 0
ChoiceIsTask n = (t u v : List Bool) → HasForm n t → HasForm n u → HasForm n v
    → IsTaskFor n choice_rule (canon_diagrams n t u v) (roots_of_three n t u v)
    (step_table n (t ∷ u ∷ v ∷ []) (Ite 0 1 2))

-- a quantifier of one
abbrev pub QuantifyIsTask : ℕ → Type 0
QuantifyIsTask n = (kind : Quant) (variable : ℕ) (t : List Bool) → HasForm n t → variable < n
    → IsTaskFor n (quantify_rule kind variable) (canon_diagrams n t t t) (root_twice n t)
    (step_table n (t ∷ []) (Quantify kind 0 variable))

-- and a restriction of one
abbrev pub RestrictIsTask : ℕ → Type 0
RestrictIsTask n = (variable : ℕ) (value : Bool) (t : List Bool) → HasForm n t → variable < n
    → IsTaskFor n (restrict_rule variable value) (canon_diagrams n t t t) (roots_of_one n t)
    (step_table n (t ∷ []) (Restrict 0 variable value))
