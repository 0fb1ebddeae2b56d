use Rattle.std.proofs.Common.{refl}
use Rattle.top_down_laws.specs.Operations.{canon_diagrams}
use Rattle.top_down.specs.Laws.{roots_of_one, root_twice, roots_of_two, roots_of_three}
use Rattle.top_down.specs.Operations.{product_rule, choice_rule, quantify_rule, restrict_rule}
use Rattle.top_down_sweep.proofs.TaskLaws.{file_roots, node_files}
use Rattle.top_down_sweep.proofs.laws.operations_on_canonical_files_are_tasks.Goals as goal

pub returns-clause-product : goal.returns-clause-product
returns-clause-product c n op t u files step world canonical apart =
    let is = c.operations_on_canonical_diagrams_are_tasks.ensures.product n op t u
    canonical.first.form canonical.second.form in
    record {
      task = record {
        n = n;
        rule = product_rule op;
        diagrams = canon_diagrams n t u u;
        roots = roots_of_two n t u;
        is_task = is.is_task;
      };
      on_files = record {
        variables_are = refl;
        rule_is = refl;
        roots = file_roots n t u u;
        begins_are = refl;
        nodes_are = node_files n t u u files world (c.canonical_files_are_read.ensures n) canonical;
        apart = apart;
      };
      diagrams_are = refl;
      roots_are = refl;
      table_is = is.table_is;
    }

pub returns-clause-choice : goal.returns-clause-choice
returns-clause-choice c n t u v files step world canonical apart =
    let is = c.operations_on_canonical_diagrams_are_tasks.ensures.choice n t u v
    canonical.first.form canonical.second.form canonical.third.form in
    record {
      task = record {
        n = n;
        rule = choice_rule;
        diagrams = canon_diagrams n t u v;
        roots = roots_of_three n t u v;
        is_task = is.is_task;
      };
      on_files = record {
        variables_are = refl;
        rule_is = refl;
        roots = file_roots n t u v;
        begins_are = refl;
        nodes_are = node_files n t u v files world (c.canonical_files_are_read.ensures n) canonical;
        apart = apart;
      };
      diagrams_are = refl;
      roots_are = refl;
      table_is = is.table_is;
    }

pub returns-clause-quantifier : goal.returns-clause-quantifier
returns-clause-quantifier c n kind variable t files step world canonical within apart =
    let is = c.operations_on_canonical_diagrams_are_tasks.ensures.quantifier n kind variable t
    canonical.first.form within in
    record {
      task = record {
        n = n;
        rule = quantify_rule kind variable;
        diagrams = canon_diagrams n t t t;
        roots = root_twice n t;
        is_task = is.is_task;
      };
      on_files = record {
        variables_are = refl;
        rule_is = refl;
        roots = file_roots n t t t;
        begins_are = refl;
        nodes_are = node_files n t t t files world (c.canonical_files_are_read.ensures n) canonical;
        apart = apart;
      };
      diagrams_are = refl;
      roots_are = refl;
      table_is = is.table_is;
    }

pub returns-clause-restriction : goal.returns-clause-restriction
returns-clause-restriction c n variable value t files step world canonical within apart =
    let is = c.operations_on_canonical_diagrams_are_tasks.ensures.restriction n variable value t
    canonical.first.form within in
    record {
      task = record {
        n = n;
        rule = restrict_rule variable value;
        diagrams = canon_diagrams n t t t;
        roots = roots_of_one n t;
        is_task = is.is_task;
      };
      on_files = record {
        variables_are = refl;
        rule_is = refl;
        roots = file_roots n t t t;
        begins_are = refl;
        nodes_are = node_files n t t t files world (c.canonical_files_are_read.ensures n) canonical;
        apart = apart;
      };
      diagrams_are = refl;
      roots_are = refl;
      table_is = is.table_is;
    }
