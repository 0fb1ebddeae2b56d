-- In which way an operator's diagram is made.
use Rattle.std.specs.Prelude.{◌≡◌, ◌⊎◌, ℕ, ◌+◌, ◌*◌, ◌^◌, ◌<◌, ◌≤◌, min, Bool, List}
use Rattle.bool_tables.specs.declared.steps.Bin.{Bin}
use Rattle.shelf_model.specs.World.{World}
use Rattle.canon_file.specs.Constants.{const_table}
use Rattle.room_reduction.specs.Complements.{complement}
use Rattle.copied_diagrams.specs.declared.operand.Operand.{Operand}
use Rattle.copied_diagrams.specs.declared.operand.Choice.{Choice}
use Rattle.copied_diagrams.specs.declared.operand.Choice.TheVariants as choices
use Rattle.copied_diagrams.specs.declared.pair.Pair.{Pair}
use Rattle.copied_diagrams.specs.declared.source.Source.{Source}
use Rattle.copied_diagrams.specs.declared.way.Way.{Way}
use Rattle.copied_diagrams.specs.declared.way.Way.TheVariants.{Constant, Copy, CopyInTurns, Complement, Join}
use Rattle.copied_diagrams.specs.Operands.{pair_table}
use Rattle.copied_diagrams.specs.Pairs.{ArePair, AreTrailersOf, IsSourceOf, nodes_of_both, of_operand}

-- the way leads to the diagram of the table: it is that constant, or that of the operand that is copied, or of which
-- the complement is made, and that one has no more nodes than so many
abbrev pub LeadsTo : ℕ → List Bool → ℕ → Way → World → Type 0
LeadsTo n table most (Constant value) world = table ≡ const_table n value
LeadsTo n table most (Copy source) world = IsSourceOf n table most source world
LeadsTo n table most (CopyInTurns source) world = IsSourceOf n table most source world
LeadsTo n table most (Complement source) world =
    (t : List Bool) × (table ≡ complement t) × IsSourceOf n t most source world
LeadsTo n table most Join world = Unit

-- of canonical files of any two tables, with their trailers, it leads to the diagram of the operator's table
abbrev pub IsWayOf : Bin → Pair → Way → Type 0
IsWayOf op pair way = (n : ℕ) → (t u : List Bool) → (world : World)
    → ArePair n pair.left.from pair.right.from t u world → AreTrailersOf n t u pair
    → LeadsTo n (pair_table n op t u) (nodes_of_both n t u) way world

-- the source is one of the two operands
abbrev pub IsOneOf : Pair → Source → Type 0
IsOneOf pair source = (source ≡ pair.left) ⊎ (source ≡ pair.right)

-- so is the one that is copied, or of which the complement is made
abbrev pub IsOfPair : Pair → Way → Type 0
IsOfPair pair (Constant value) = Unit
IsOfPair pair (Copy source) = IsOneOf pair source
IsOfPair pair (CopyInTurns source) = IsOneOf pair source
IsOfPair pair (Complement source) = IsOneOf pair source
IsOfPair pair Join = Unit

-- a turn for each of so many nodes and one more are fewer than the records of the room, and than a checkpoint's
-- interval has turns
abbrev pub AreFew : ℕ → ℕ → Type 0
AreFew count room = count + 1 < min room 65536

-- what is made in no turns has few nodes, a complement takes no more than the room has, and a file that is copied in
-- turns is within the longest
abbrev pub FitsIn : ℕ → Way → Type 0
FitsIn room (Constant value) = Unit
FitsIn room (Copy source) = AreFew source.trailer.count room
FitsIn room (CopyInTurns source) = source.trailer.count < 2 ^ 40
FitsIn room (Complement source) = AreFew source.trailer.count room × (2 * source.trailer.count + 8 ≤ room)
FitsIn room Join = Unit

-- the way is that of a choice between two operands
abbrev pub IsWayBy : Choice → Pair → Way → Type 0
IsWayBy choice pair (Constant value) = choice ≡ choices.Constant value
IsWayBy choice pair (Copy source) = (operand : Operand) × (choice ≡ choices.Copy operand)
    × (source ≡ of_operand operand pair.left pair.right)
IsWayBy choice pair (CopyInTurns source) = (operand : Operand) × (choice ≡ choices.Copy operand)
    × (source ≡ of_operand operand pair.left pair.right)
IsWayBy choice pair (Complement source) = (operand : Operand) × (choice ≡ choices.Complement operand)
    × (source ≡ of_operand operand pair.left pair.right)
IsWayBy choice pair Join = Unit
