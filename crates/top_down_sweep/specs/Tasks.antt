-- The operations on canonical files as tasks, and what is made of a task.
use Rattle.std.specs.Prelude.{◌≡◌, ◌<◌, ℕ, Bool, List, [], ◌∷◌, ◌++◌}
use Rattle.shelf_model.specs.World.{World, file}
use Rattle.bool_tables.specs.Steps.{step_table}
use Rattle.bool_tables.specs.declared.steps.Bin.{Bin}
use Rattle.bool_tables.specs.declared.steps.Quant.{Quant}
use Rattle.bool_tables.specs.declared.steps.Step.TheVariants.{Pair, Ite, Quantify, Restrict}
use Rattle.node_file.specs.Canonical.{IsCanonicalFile}
use Rattle.arc_file.specs.declared.arc.Arc.{Arc}
use Rattle.arc_file.specs.declared.unreduced.Unreduced.{Unreduced}
use Rattle.arc_file.specs.declared.kind.Kind.TheVariants.{Inner, End}
use Rattle.arc_file.specs.Files.{HasArcs}
use Rattle.arc_diagrams.specs.Laws.{IsDiagramOf}
use Rattle.top_down.specs.declared.tuple.Tuple.{Tuple}
use Rattle.top_down.specs.Tuples.{unused}
use Rattle.top_down.specs.Rules.{Rule}
use Rattle.top_down.specs.Laws.{roots_of_one, root_twice, roots_of_two, roots_of_three}
use Rattle.top_down.specs.Operations.{two, product_rule, choice_rule, quantify_rule, restrict_rule}
use Rattle.top_down_laws.specs.Operations.{canon_diagrams}
use Rattle.top_down_laws.specs.Readings.{Diagrams}
use Rattle.tuple_asks.specs.declared.files.Files.{Files}
use Rattle.top_down_sweep.specs.Waiting.{AreApart}
use Rattle.top_down_sweep.specs.Meaning.{Task, table_of, IsTaskOn, IsMadeOf}

-- the operands' files are those of three tables
pub record AreCanonicalFiles (n : ℕ) (t u v : List Bool) (files : Files) (world : World) : Type 0
  where
    pub first : IsCanonicalFile n t files.first world
    pub second : IsCanonicalFile n u files.second world
    pub third : IsCanonicalFile n v files.third world

-- the operation of that rule on these files is a task on those diagrams, from these roots on, whose table is that one
pub record IsTaskFor (rule : Rule) (begins : Tuple → Tuple) (n : ℕ) (files : Files) (step : ℕ)
    (world : World) (d : Diagrams) (roots : Tuple) (made : List Bool) : Type 0 where
  pub task : Task
  pub on_files : IsTaskOn task rule begins n files step world
  pub diagrams_are : task.diagrams ≡ d
  pub roots_are : task.roots ≡ roots
  pub table_is : table_of task ≡ made

-- an operation on two canonical files is the task of its table; the third file is the second one's
abbrev pub ProductOnFiles : Type 0
ProductOnFiles = (n : ℕ) (op : Bin) (t u : List Bool) (files : Files) (step : ℕ) (world : World)
    → AreCanonicalFiles n t u u files world → AreApart files step
    → IsTaskFor (product_rule op)
    (λ x. record { first = x.first; second = x.second; third = unused }) n files step world
    (canon_diagrams n t u u) (roots_of_two n t u) (step_table n (t ∷ u ∷ []) (Pair op 0 1))

-- so is a choice of three
abbrev pub ChoiceOnFiles : Type 0
ChoiceOnFiles = (n : ℕ) (t u v : List Bool) (files : Files) (step : ℕ) (world : World)
    → AreCanonicalFiles n t u v files world → AreApart files step
    → IsTaskFor choice_rule (λ x. x) n files step world
    (canon_diagrams n t u v) (roots_of_three n t u v) (step_table n (t ∷ u ∷ v ∷ []) (Ite 0 1 2))

-- a quantifier of one, which is all three files
abbrev pub QuantifyOnFiles : Type 0
QuantifyOnFiles = (n : ℕ) (kind : Quant) (variable : ℕ) (t : List Bool) (files : Files) (step : ℕ)
    (world : World) → AreCanonicalFiles n t t t files world → variable < n → AreApart files step
    → IsTaskFor (quantify_rule kind variable) (λ x. two x.first x.first) n files step world
    (canon_diagrams n t t t) (root_twice n t) (step_table n (t ∷ []) (Quantify kind 0 variable))

-- and a restriction of one
abbrev pub RestrictOnFiles : Type 0
RestrictOnFiles = (n variable : ℕ) (value : Bool) (t : List Bool) (files : Files) (step : ℕ)
    (world : World) → AreCanonicalFiles n t t t files world → variable < n → AreApart files step
    → IsTaskFor (restrict_rule variable value)
    (λ x. record { first = x.first; second = unused; third = unused }) n files step world
    (canon_diagrams n t t t) (roots_of_one n t) (step_table n (t ∷ []) (Restrict 0 variable value))

-- the two files have arcs, each in the order of its file, which together are a diagram of the table
pub record AreArcFiles (n : ℕ) (table : List Bool) (made : Unreduced) (world : World) : Type 0 where
  pub inner : List Arc
  pub ends : List Arc
  pub inner_has : HasArcs Inner inner made.inner_count (file world made.inner).bytes
  pub ends_has : HasArcs End ends made.ends_count (file world made.ends).bytes
  pub diagram : IsDiagramOf n made.root (inner ++ ends) table

-- so are those that were made of a task, of its table
abbrev pub MadeIsDiagram : Type 0
MadeIsDiagram = (t : Task) (world : World) (made : Unreduced) → IsMadeOf t world made
    → AreArcFiles t.n (table_of t) made world
