-- Where an operand's file is damaged.
use Rattle.std.specs.Prelude.{◌≡◌, ◌⊎◌, ℕ, true}
use Rattle.shelf_model.specs.declared.file_no.FileNo.{FileNo}
use Rattle.shelf_model.specs.declared.sort_fault.SortFault.{SortFault}
use Rattle.shelf_model.specs.declared.sort_fault.SortFault.TheVariants.{Shelf, Damaged, RunsSpent}
use Rattle.shelf_model.specs.World.{World, file}
use Rattle.node_reading.specs.Missing.{IsAbsent}
use Rattle.node_reading.specs.Reading.{IsDamagedNode, IsTrailerFault}
use Rattle.tuple_asks.specs.declared.ask.Member.{Member}
use Rattle.tuple_asks.specs.declared.operand.Operand.{Operand}
use Rattle.tuple_asks.specs.declared.files.Files.{Files}
use Rattle.tuple_asks.specs.Members.{is_node}

-- the file is damaged where a record isn't that of a node that may stand there, or isn't in order,
-- or where the node of the key isn't there
abbrev pub IsReadDamage : ℕ → FileNo → ℕ → World → SortFault → Type 0
IsReadDamage n read key world Shelf = Unit
IsReadDamage n read key world (Damaged f at) = (f ≡ read)
    × (IsDamagedNode n (file world read).bytes at ⊎ IsAbsent (file world read).bytes key at)
IsReadDamage n read key world RunsSpent = ⊥

-- so the operand is, in which the member is the node of the key
abbrev pub IsOperandDamage : ℕ → Operand → ℕ → Member → World → FileNo → ℕ → Type 0
IsOperandDamage n o key m world f at = (is_node key m ≡ true)
    × IsReadDamage n o.file key world (Damaged f at)

-- a call of the folder failed, or an operand's file has no trailer for n variables where one had to
-- stand
abbrev pub IsStartFault : Files → ℕ → World → SortFault → Type 0
IsStartFault files n world e = IsTrailerFault files.first n world e
    ⊎ (IsTrailerFault files.second n world e ⊎ IsTrailerFault files.third n world e)
