-- The operands of an operator, and the way to its diagram.
use Rattle.std.specs.Prelude.{◌≡◌, Bool, IsTrue}
use Rattle.bool_tables.specs.declared.steps.Bin.{Bin}
use Rattle.shelf_model.specs.World.{World}
use Rattle.copied_diagrams.specs.declared.pair.Pair.{Pair}
use Rattle.copied_diagrams.specs.declared.way.Way.{Way}
use Rattle.copied_diagrams.specs.Pairs.{IsOf, AreTrailersOf}
use Rattle.copied_diagrams.specs.Ways.{LeadsTo}
use Rattle.step_sweeps.specs.declared.task.Making.{Making}
use Rattle.sweep_operations.specs.declared.steps.StepOperation.TheVariants.{Operator}
use Rattle.step_sweeps.specs.Given.{Tables}
use Rattle.step_sweeps.specs.Makes.{IsGiven, table_by, nodes_for}

-- these are the two operands of a step's operator, and where their files are canonical the trailers are theirs
pub record IsPairOf {S : Type 0} (tells : S → Bool) (world : S → World) (op : Bin) (making : Making) (pair : Pair)
    (before : S) : Type 0 where
  pub operation_is : making.operation ≡ Operator op
  pub left : IsOf making.n making.operands.first pair.left
  pub right : IsOf making.n making.operands.second pair.right
  pub trailers : IsTrue (tells before) → (g : Tables) → IsGiven making (world before) g
      → AreTrailersOf making.n g.first g.second pair

-- wherever the operands' files are canonical, the way leads to the diagram that the step makes
abbrev pub Leads : {S : Type 0} → (S → Bool) → (S → World) → Making → Way → S → Type 0
Leads tells world making way before = IsTrue (tells before) → (g : Tables) → IsGiven making (world before) g
    → LeadsTo making.n (table_by making g) (nodes_for making g) way (world before)
