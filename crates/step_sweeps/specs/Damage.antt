-- Where a step that sweeps finds a file damaged.
use Rattle.std.specs.Prelude.{◌≡◌, ◌⊎◌, ℕ, List}
use Rattle.rec_words.specs.Words.{IsNodeWord}
use Rattle.shelf_model.specs.declared.file_no.FileNo.{FileNo}
use Rattle.shelf_model.specs.declared.sort_fault.SortFault.{SortFault}
use Rattle.shelf_model.specs.declared.sort_fault.SortFault.TheVariants.{Shelf, Damaged, RunsSpent}
use Rattle.shelf_model.specs.World.{World, file}
use Rattle.node_reading.specs.Missing.{IsAbsent, IsKnown, IsMissedAt}
use Rattle.node_reading.specs.Reading.{IsDamagedNode, IsTrailerFault}
use Rattle.top_down_sweep.specs.declared.beginning.OperandFiles.{OperandFiles}
use Rattle.sweep_operations.specs.declared.steps.StepOperation.{StepOperation}
use Rattle.sweep_operations.specs.declared.steps.StepOperation.TheVariants.{Operator, Choice, Quantifier, Restriction}

-- the file has no trailer for n variables where one has to stand, a record is that of no node that may stand there or
-- isn't in order, or its bytes miss a node at that place
abbrev pub IsDamagedBy : (List ℕ → ℕ → Type 0) → ℕ → FileNo → World → FileNo → ℕ → Type 0
IsDamagedBy Misses n read world f at = (f ≡ read) × (IsTrailerFault read n world (Damaged f at)
    ⊎ (IsDamagedNode n (file world read).bytes at ⊎ Misses (file world read).bytes at))

-- whoever reads all nodes in order misses none
abbrev pub MissesNone : List ℕ → ℕ → Type 0
MissesNone bytes at = ⊥

-- whoever follows the pointers from the root on misses a node that another one names
abbrev pub MissesNamed : List ℕ → ℕ → Type 0
MissesNamed = IsMissedAt

-- a sweep misses a node that it asks for and that isn't there; where it asks its files for their own pointers alone,
-- the file knows that pointer
pub record MissesAsked (Own : Type 0) (bytes : List ℕ) (at : ℕ) : Type 0 where
  pub key : ℕ
  pub node : IsNodeWord key
  pub absent : IsAbsent bytes key at
  pub known : Own → IsKnown bytes key

-- of these files the operation asks each for its own pointers alone: a quantifier, whose two pointers are of one
-- diagram, where it is given that one's file twice
abbrev pub AsksOwn : StepOperation → OperandFiles → Type 0
AsksOwn (Operator op) operands = Unit
AsksOwn Choice operands = Unit
AsksOwn (Quantifier kind level) operands = operands.second ≡ operands.first
AsksOwn (Restriction level value) operands = Unit

-- a step that makes a diagram misses a node that another one names; where it asks the file of one diagram for pointers
-- of another one, it misses one that it asks for, which no node may name
pub record MissesIn (operation : StepOperation) (operands : OperandFiles) (bytes : List ℕ) (at : ℕ) : Type 0 where
  pub key : ℕ
  pub absent : IsAbsent bytes key at
  pub named : AsksOwn operation operands → MissesNamed bytes at

-- one of the operands is damaged to a reader that misses nodes in that way
abbrev pub IsDamagedOperand : (List ℕ → ℕ → Type 0) → ℕ → OperandFiles → World → FileNo → ℕ → Type 0
IsDamagedOperand Misses n operands world f at = IsDamagedBy Misses n operands.first world f at
    ⊎ (IsDamagedBy Misses n operands.second world f at ⊎ IsDamagedBy Misses n operands.third world f at)

-- a call of the folder failed, no part number is left, or an operand is damaged
abbrev pub IsOperandsFault : (List ℕ → ℕ → Type 0) → ℕ → OperandFiles → World → SortFault → Type 0
IsOperandsFault Misses n operands world Shelf = Unit
IsOperandsFault Misses n operands world (Damaged f at) = IsDamagedOperand Misses n operands world f at
IsOperandsFault Misses n operands world RunsSpent = Unit

-- a fault as the sweep of an operation finds it
abbrev pub IsFoundFault : StepOperation → ℕ → OperandFiles → World → SortFault → Type 0
IsFoundFault operation n operands = IsOperandsFault (MissesAsked (AsksOwn operation operands)) n operands

-- a fault of a step that makes arcs, or a diagram
abbrev pub IsArcsFault : StepOperation → ℕ → OperandFiles → World → SortFault → Type 0
IsArcsFault operation n operands = IsOperandsFault (MissesIn operation operands) n operands

-- a fault of a step that reads one or two diagrams
abbrev pub IsReadFault : (List ℕ → ℕ → Type 0) → ℕ → FileNo → FileNo → World → SortFault → Type 0
IsReadFault Misses n left right world Shelf = Unit
IsReadFault Misses n left right world (Damaged f at) =
    IsDamagedBy Misses n left world f at ⊎ IsDamagedBy Misses n right world f at
IsReadFault Misses n left right world RunsSpent = ⊥

-- a fault of a step that answers whether one diagram implies another: that of an operand, or it has no part number left
abbrev pub IsImplicationFault : (List ℕ → ℕ → Type 0) → ℕ → FileNo → FileNo → World → SortFault → Type 0
IsImplicationFault Misses n left right world Shelf = Unit
IsImplicationFault Misses n left right world (Damaged f at) =
    IsDamagedBy Misses n left world f at ⊎ IsDamagedBy Misses n right world f at
IsImplicationFault Misses n left right world RunsSpent = Unit
