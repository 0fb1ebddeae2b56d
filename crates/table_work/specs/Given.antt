-- The diagrams that a step's operation is given: canonical files of tables.
use Rattle.std.specs.Prelude.{◌≡◌, ℕ, Bool, List, [], ◌∷◌}
use Rattle.shelf_model.specs.World.{World}
use Rattle.top_down_sweep.specs.declared.beginning.OperandFiles.{OperandFiles}
use Rattle.sweep_operations.specs.declared.steps.StepOperation.{StepOperation}
use Rattle.sweep_operations.specs.declared.steps.StepOperation.TheVariants.{Operator, Choice, Quantifier, Restriction}
use Rattle.node_file.specs.Canonical.{IsCanonicalFile}

-- the tables of three diagrams
pub record Tables : Type 0 where
  pub first : List Bool
  pub second : List Bool
  pub third : List Bool

-- those that the operation uses
abbrev pub used_by : StepOperation → Tables → List (List Bool)
used_by (Operator op) g = g.first ∷ g.second ∷ []
used_by Choice g = g.first ∷ g.second ∷ g.third ∷ []
used_by (Quantifier kind level) g = g.first ∷ []
used_by (Restriction level value) g = g.first ∷ []

-- where it uses fewer than three, the others are the last one that it uses
abbrev pub AreRepeated : StepOperation → Tables → Type 0
AreRepeated (Operator op) g = g.third ≡ g.second
AreRepeated Choice g = Unit
AreRepeated (Quantifier kind level) g = (g.second ≡ g.first) × (g.third ≡ g.first)
AreRepeated (Restriction level value) g = (g.second ≡ g.first) × (g.third ≡ g.first)

-- the operands' files are the canonical ones of these tables of n variables
pub record AreGiven (operation : StepOperation) (n : ℕ) (operands : OperandFiles) (world : World) (g : Tables)
    : Type 0 where
  pub first : IsCanonicalFile n g.first operands.first world
  pub second : IsCanonicalFile n g.second operands.second world
  pub third : IsCanonicalFile n g.third operands.third world
  pub repeated : AreRepeated operation g
