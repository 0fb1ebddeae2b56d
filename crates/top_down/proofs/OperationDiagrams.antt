-- what the rules make of canonical diagrams
use Rattle.std.specs.Prelude.{◌≡◌, ◌-◌, ◌≤◌, ℕ, Bool, false, List, [], ◌∷◌, ◌++◌}
use Rattle.std.proofs.Common.{refl, sym, ◌∙◌, subst, arith}
use Rattle.bool_tables.specs.Steps.{op_value, step_table}
use Rattle.bool_tables.specs.declared.steps.Step.TheVariants.{Quantify, Restrict}
use Rattle.canon_file.specs.Laws.{HasForm}
use Rattle.arc_diagrams.specs.Arcs.{StandFor}
use Rattle.arc_diagrams.specs.Laws.{IsDiagramOf}
use Rattle.top_down.specs.declared.tuple.Tuple.{Tuple}
use Rattle.top_down.specs.Tuples.{Targets, AreDeepening, canon_targets, joined_by}
use Rattle.top_down.specs.Rules.{Rule, IsAsked, IsRule, table_for}
use Rattle.top_down.specs.Operations.{product_rule, choice_rule, quantify_rule, restrict_rule}
use Rattle.top_down.specs.Laws.{Makes, roots_of_one, root_twice, targets_of_one, roots_of_two, targets_of_two, roots_of_three, targets_of_three, ProductStands, ChoiceStands, QuantifyStands, RestrictStands}
use Rattle.top_down.proofs.TupleLaws.{from_terminal, from_root, canon-deep, root-table}
use Rattle.top_down.proofs.GrownLaws.{open_stands, closed_stands}
use Rattle.top_down.proofs.ProductLaws.{product_is_rule}
use Rattle.top_down.proofs.ChoiceLaws.{choice_is_rule}
use Rattle.top_down.proofs.QuantifyLaws.{above_is, may_one, quantify_is_rule}
use Rattle.top_down.proofs.RestrictLaws.{not_below, restrict_is_rule}

-- a rule makes the table that its roots stand for
pub makes : (n : ℕ) (rule : Rule) (targets : Targets) (roots : Tuple) (made : List Bool) → n ≤ 65535 → IsRule n rule targets → IsAsked n rule 0 roots
    → table_for rule targets n 0 roots ≡ made → Makes n rule targets roots made
makes n rule targets roots made top laws asked table = record {
  is_rule = laws;
  asked = asked;
  closed = λ root inner ends used tuple goes g.
      subst (IsDiagramOf n root (inner ++ ends)) table (closed_stands n root rule targets top laws inner ends used tuple g roots asked goes);
  opened = λ root inner ends asks used tuple whole goes g c.
      subst (StandFor n root whole) table (open_stands n root rule targets top laws inner ends asks used tuple g whole c roots asked goes);
  constant = λ value says. sym table ∙ laws.ends n 0 roots value (omega arith) asked says;
}

pub product_stands : (n : ℕ) → ProductStands n
product_stands n op t u form_t form_u =
    makes n (product_rule op) (targets_of_two n t u) (roots_of_two n t u) _ form_t.few
    (product_is_rule op n form_t.few (targets_of_two n t u) (record { first = canon-deep n t form_t; second = canon-deep n u form_u; third = canon-deep n u form_u }))
    (record { from = record { first = from_root n t form_t; second = from_root n u form_u; third = from_terminal n 0 false (omega arith) form_t.few }; may = refl })
    (λ j. joined_by (λ b c d. op_value op b c) n (root-table n t form_t j) (root-table n u form_u j) [])

pub choice_stands : (n : ℕ) → ChoiceStands n
choice_stands n t u v form_t form_u form_v =
    makes n choice_rule (targets_of_three n t u v) (roots_of_three n t u v) _ form_t.few
    (choice_is_rule n form_t.few (targets_of_three n t u v) (record { first = canon-deep n t form_t; second = canon-deep n u form_u; third = canon-deep n v form_v }))
    (record { from = record { first = from_root n t form_t; second = from_root n u form_u; third = from_root n v form_v }; may = refl })
    (λ j. table_for_three (root-table n t form_t j) (root-table n u form_u j) (root-table n v form_v j))
  where
    table_for_three : List Bool → List Bool → List Bool → List Bool
    table_for_three a b c = choice_rule.table n 0 a b c

one_deep : (n : ℕ) (t : List Bool) → HasForm n t → AreDeepening n (targets_of_one n t)
one_deep n t form = record { first = canon-deep n t form; second = canon-deep n t form; third = canon-deep n t form }

pub quantify_stands : (n : ℕ) → QuantifyStands n
quantify_stands n kind variable t form low =
    makes n (quantify_rule kind variable) (targets_of_one n t) (root_twice n t) _ form.few
    (quantify_is_rule n variable kind low form.few (canon_targets n t) (canon_targets n t) (one_deep n t form))
    (record {
      from = record { first = from_root n t form; second = from_root n t form; third = from_terminal n 0 false (omega arith) form.few };
      may = may_one n variable kind low form.few (canon_targets n t) (canon_targets n t) 0 (root_twice n t) refl;
    })
    (above_is n variable kind low form.few (canon_targets n t) (canon_targets n t) n 0 (root_twice n t) (omega arith)
    ∙ (λ j. step_table n (root-table n t form j ∷ []) (Quantify kind 0 (same j))))
  where
    same : variable - 0 ≡ variable
    same = omega arith

pub restrict_stands : (n : ℕ) → RestrictStands n
restrict_stands n variable value t form low =
    makes n (restrict_rule variable value) (targets_of_one n t) (roots_of_one n t) _ form.few
    (restrict_is_rule n variable value low form.few (targets_of_one n t) (one_deep n t form))
    (record {
      from = record {
        first = from_root n t form;
        second = from_terminal n 0 false (omega arith) form.few;
        third = from_terminal n 0 false (omega arith) form.few;
      };
      may = refl;
    })
    (not_below n variable value low form.few (targets_of_one n t) n 0 (roots_of_one n t) (omega arith)
    ∙ (λ j. step_table n (root-table n t form j ∷ []) (Restrict 0 (same j) value)))
  where
    same : variable - 0 ≡ variable
    same = omega arith
