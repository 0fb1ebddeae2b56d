-- The operations on canonical diagrams are tasks.
use Rattle.std.proofs.Common.{◌≡◌, ℕ, ◌∙◌, Bool, List, [], ◌∷◌, arith}
use Rattle.std.specs.Prelude.{◌-◌}
use Rattle.bool_tables.specs.Steps.{op_value, step_table}
use Rattle.bool_tables.specs.declared.steps.Step.TheVariants.{Quantify, Restrict}
use Rattle.canon_file.specs.Canon.{canon_nodes}
use Rattle.canon_file.specs.Laws.{HasForm}
use Rattle.top_down.specs.declared.tuple.Tuple.{Tuple}
use Rattle.top_down.specs.Rules.{Rule}
use Rattle.top_down.specs.Tuples.{canon_targets, joined_by}
use Rattle.top_down.specs.Operations.{choice_rule}
use Rattle.top_down.specs.Laws.{Makes, root_twice, roots_of_one, targets_of_one}
use Rattle.top_down.proofs.TupleLaws.{root-table}
use Rattle.top_down.proofs.QuantifyLaws.{above_is}
use Rattle.top_down.proofs.RestrictLaws.{not_below}
use Rattle.top_down.proofs.OperationDiagrams.{product_stands, choice_stands, quantify_stands, restrict_stands}
use Rattle.top_down_laws.specs.Readings.{targets_in, AreIn}
use Rattle.top_down_laws.specs.Remains.{Picks}
use Rattle.top_down_laws.specs.Laws.{task_table}
use Rattle.top_down_laws.specs.Operations.{canon_diagrams, IsTaskFor, ProductIsTask, ChoiceIsTask, QuantifyIsTask, RestrictIsTask}
use Rattle.top_down_laws.proofs.CanonReduced.{root_in, canon_reduced}
use Rattle.top_down_laws.proofs.PickLaws.{no_member, product_picks, choice_picks, quantify_picks, restrict_picks}

-- a rule that makes a table of canonical diagrams is a task
canon_task : (n : ℕ) (t u v : List Bool) → HasForm n t → HasForm n u → HasForm n v
    → (rule : Rule) (roots : Tuple) (made : List Bool)
    → Makes n rule (targets_in (canon_diagrams n t u v)) roots made
    → AreIn (canon_diagrams n t u v) roots → Picks rule (canon_diagrams n t u v)
    → task_table n rule (canon_diagrams n t u v) roots ≡ made
    → IsTaskFor n rule (canon_diagrams n t u v) roots made
canon_task n t u v form_t form_u form_v rule roots made makes roots_in picks table = record {
  is_task = record {
    few = form_t.few;
    is_rule = makes.is_rule;
    asked = makes.asked;
    reduced = record {
      first = canon_reduced n t form_t;
      second = canon_reduced n u form_u;
      third = canon_reduced n v form_v;
    };
    roots_in = roots_in;
    picks = picks;
  };
  table_is = table;
}

pub product_is_task : (n : ℕ) → ProductIsTask n
product_is_task n op t u form_t form_u =
    canon_task n t u u form_t form_u form_u _ _ _ (product_stands n op t u form_t form_u)
    (record {
      first = root_in n t form_t;
      second = root_in n u form_u;
      third = no_member (canon_nodes n u);
    })
    (product_picks op (canon_diagrams n t u u))
    (λ j. joined_by (λ b c d. op_value op b c) n (root-table n t form_t j)
    (root-table n u form_u j) [])

pub choice_is_task : (n : ℕ) → ChoiceIsTask n
choice_is_task n t u v form_t form_u form_v =
    canon_task n t u v form_t form_u form_v _ _ _ (choice_stands n t u v form_t form_u form_v)
    (record {
      first = root_in n t form_t;
      second = root_in n u form_u;
      third = root_in n v form_v;
    })
    (choice_picks (canon_diagrams n t u v))
    (λ j. table_for_three (root-table n t form_t j) (root-table n u form_u j)
    (root-table n v form_v j))
  where
    table_for_three : List Bool → List Bool → List Bool → List Bool
    table_for_three a b c = choice_rule.table n 0 a b c

same_level : (variable : ℕ) → variable - 0 ≡ variable
same_level variable = omega arith

pub quantify_is_task : (n : ℕ) → QuantifyIsTask n
quantify_is_task n kind variable t form low =
    canon_task n t t t form form form _ _ _ (quantify_stands n kind variable t form low)
    (record {
      first = root_in n t form;
      second = root_in n t form;
      third = no_member (canon_nodes n t);
    })
    (quantify_picks kind variable (canon_nodes n t) (canon_nodes n t))
    (above_is n variable kind low form.few (canon_targets n t) (canon_targets n t) n 0
    (root_twice n t) (omega arith)
    ∙ (λ j. step_table n (root-table n t form j ∷ []) (Quantify kind 0 (same_level variable j))))

pub restrict_is_task : (n : ℕ) → RestrictIsTask n
restrict_is_task n variable value t form low =
    canon_task n t t t form form form _ _ _ (restrict_stands n variable value t form low)
    (record {
      first = root_in n t form;
      second = no_member (canon_nodes n t);
      third = no_member (canon_nodes n t);
    })
    (restrict_picks variable value (canon_diagrams n t t t))
    (not_below n variable value low form.few (targets_of_one n t) n 0 (roots_of_one n t)
    (omega arith)
    ∙ (λ j. step_table n (root-table n t form j ∷ []) (Restrict 0 (same_level variable j) value)))
