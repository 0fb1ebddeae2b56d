-- The nodes of both operands.
use Rattle.std.specs.Prelude.{List, take}
use Rattle.rec_words.specs.declared.rec.Rec.{Rec}
use Rattle.top_down.specs.Tuples.{Targets}
use Rattle.packed_records.specs.Packed.{packed}
use Rattle.room_products.specs.declared.operands.Nodes.{Nodes}
use Rattle.room_products.specs.declared.operands.Operands.{Operands}
use Rattle.room_products.specs.Goals.{GiveRows}

-- the records of an operand's nodes
abbrev pub nodes_of : Nodes → List Rec
nodes_of x = take x.count (packed x.records.now)

-- those of both operands are the records of nodes that have these pointers
abbrev pub GiveRowsOf : Targets → Operands → Type 0
GiveRowsOf targets x = GiveRows targets (nodes_of x.left) (nodes_of x.right)
