-- An operation on canonical files as a task, the tuples that it meets, and the nodes that it reads.
use Rattle.std.proofs.Common.{◌≡◌, ℕ, ◌*◌, ◌≤◌, Bool, List, [], ◌∷◌, subst, sym, arith}
use Rattle.shelf_model.specs.World.{World}
use Rattle.bool_tables.specs.Steps.{step_table}
use Rattle.bool_tables.specs.declared.steps.Step.{Step}
use Rattle.canon_file.specs.Members.{Has}
use Rattle.step_work.specs.Tuples.{tuple_count}
use Rattle.step_work.specs.Works as steps
use Rattle.top_down.specs.declared.tuple.Tuple.{Tuple}
use Rattle.top_down.specs.Rules.{Rule}
use Rattle.top_down_laws.specs.Operations.{canon_diagrams}
use Rattle.top_down_laws.specs.Readings.{Diagrams, targets_in}
use Rattle.top_down_laws.specs.Remains.{IsMet}
use Rattle.tuple_asks.specs.declared.files.Files.{Files}
use Rattle.sweep_operations.specs.declared.steps.StepOperation.TheVariants.{Operator, Choice, Quantifier, Restriction}
use Rattle.node_file.specs.Canonical.{IsCanonicalFile}
use Rattle.top_down_sweep.specs.Tasks.{AreCanonicalFiles, IsTaskFor, ProductOnFiles, ChoiceOnFiles, QuantifyOnFiles, RestrictOnFiles}
use Rattle.top_down_sweep.specs.Turns.{AllMet, nodes_of}
use Rattle.met_tuples.specs.Few.{MeetsFew, ProductMeetsFew, ChoiceMeetsFew, QuantifyMeetsFew, RestrictMeetsFew}
use Rattle.table_work.specs.Given.{Tables}
use Rattle.table_work.specs.Works.{IsWorkOn, GivenIsWork}

-- a task on diagrams of few nodes, from roots on from which few tuples are met
work_on : (rule : Rule) (begins : Tuple → Tuple) (n : ℕ) (files : Files) (number : ℕ) (world : World)
    (d : Diagrams) (roots : Tuple) (step : Step) (tables : List (List Bool))
    → IsTaskFor rule begins n files number world d roots (step_table n tables step)
    → MeetsFew rule d roots (tuple_count n step tables) → nodes_of d ≤ 3 * steps.nodes_of n tables
    → IsWorkOn rule begins n files number world step tables
work_on rule begins n files number world d roots step tables is few within =
    let met : AllMet is.task few.tuples = subst (λ v. v) (λ i. (x : Tuple)
    → IsMet (sym is.on_files.rule_is i) (targets_in (sym is.diagrams_are i)) (sym is.roots_are i) x
    → Has x few.tuples) few.all_met in
    record {
      work = record { task = is.task; tuples = few.tuples; all_met = met };
      on_files = is.on_files;
      table_is = is.table_is;
      few_tuples = few.few;
      few_nodes = subst (λ (x : Diagrams). nodes_of x ≤ 3 * steps.nodes_of n tables) (sym is.diagrams_are) within;
    }

-- the nodes of three diagrams are no more than three times those of the ones that are different
two_nodes : (n : ℕ) (t u : List Bool) → nodes_of (canon_diagrams n t u u) ≤ 3 * steps.nodes_of n (t ∷ u ∷ [])
two_nodes n t u = omega arith

three_nodes : (n : ℕ) (t u v : List Bool)
    → nodes_of (canon_diagrams n t u v) ≤ 3 * steps.nodes_of n (t ∷ u ∷ v ∷ [])
three_nodes n t u v = omega arith

one_nodes : (n : ℕ) (t : List Bool) → nodes_of (canon_diagrams n t t t) ≤ 3 * steps.nodes_of n (t ∷ [])
one_nodes n t = omega arith

-- an operation on canonical files is a task, and the operations meet few tuples
pub record HasLaws : Type 0 where
  pub product : ProductOnFiles
  pub choice : ChoiceOnFiles
  pub quantifier : QuantifyOnFiles
  pub restriction : RestrictOnFiles
  pub product_few : (n : ℕ) → ProductMeetsFew n
  pub choice_few : (n : ℕ) → ChoiceMeetsFew n
  pub quantifier_few : (n : ℕ) → QuantifyMeetsFew n
  pub restriction_few : (n : ℕ) → RestrictMeetsFew n

-- the files are those of one table
all_of_one : (n : ℕ) (files : Files) (world : World) (g : Tables) → IsCanonicalFile n g.first files.first world
    → IsCanonicalFile n g.second files.second world → IsCanonicalFile n g.third files.third world
    → (g.second ≡ g.first) × (g.third ≡ g.first) → AreCanonicalFiles n g.first g.first g.first files world
all_of_one n files world g first second third same = record {
  first = first;
  second = subst (λ t. IsCanonicalFile n t files.second world) same.0 second;
  third = subst (λ t. IsCanonicalFile n t files.third world) same.1 third;
}

-- so an operation on the files that it is given is the task of its table, and meets few tuples
pub given_is_work : HasLaws → GivenIsWork
given_is_work laws (Operator op) n files number world g given within apart =
    work_on _ _ n files number world _ _ _ _ (laws.product n op g.first g.second files number world (record {
      first = given.first;
      second = given.second;
      third = subst (λ t. IsCanonicalFile n t files.third world) given.repeated given.third;
    }) apart)
    (laws.product_few n op g.first g.second given.first.form given.second.form) (two_nodes n g.first g.second)
given_is_work laws Choice n files number world g given within apart =
    work_on _ _ n files number world _ _ _ _ (laws.choice n g.first g.second g.third files number world (record {
      first = given.first;
      second = given.second;
      third = given.third;
    }) apart)
    (laws.choice_few n g.first g.second g.third given.first.form given.second.form given.third.form)
    (three_nodes n g.first g.second g.third)
given_is_work laws (Quantifier kind level) n files number world g given within apart =
    work_on _ _ n files number world _ _ _ _ (laws.quantifier n kind level g.first files number world
    (all_of_one n files world g given.first given.second given.third given.repeated) within apart)
    (laws.quantifier_few n kind level g.first given.first.form within) (one_nodes n g.first)
given_is_work laws (Restriction level value) n files number world g given within apart =
    work_on _ _ n files number world _ _ _ _ (laws.restriction n level value g.first files number world
    (all_of_one n files world g given.first given.second given.third given.repeated) within apart)
    (laws.restriction_few n level value g.first given.first.form within) (one_nodes n g.first)
