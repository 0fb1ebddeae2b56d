-- Which nodes of an operand are left, where a folder tells its content.
use Rattle.std.specs.Prelude.{◌≡◌, ℕ, List, [], ◌∷◌, Some, None, ◌≤◌, ◌++◌}
use Rattle.rec_words.specs.declared.node.Node.{Node}
use Rattle.shelf_model.specs.declared.file_no.FileNo.{FileNo}
use Rattle.shelf_model.specs.World.{World, file}
use Rattle.node_file.specs.Nodes.{HasNodes}
use Rattle.node_file.specs.Readers.{trailer_of, AreLeft}
use Rattle.node_reading.specs.Reading.{bytes_of, IsReading}
use Rattle.sweep_core.specs.Saving.{reads_of}
use Rattle.top_down.specs.declared.tuple.Tuple.{Tuple}
use Rattle.top_down_laws.specs.Readings.{Diagrams, Reading, Readings}
use Rattle.top_down_laws.specs.Laws.{unread_all}
use Rattle.tuple_asks.specs.declared.operand.Operand.{Operand}
use Rattle.tuple_asks.specs.declared.operand.Operands.{Operands}
use Rattle.tuple_asks.specs.declared.files.Files.{Files}

-- the node at hand is that one, and those of the operand's file weren't read
pub record IsReadOf (o : Operand) (world : World) (r : Reading) : Type 0 where
  pub hand_is : o.hand ≡ r.hand
  pub reads : IsReading o.reader world
  pub left : AreLeft o.reader (bytes_of o.reader world) r.unread

pub record AreRead (o : Operands) (world : World) (r : Readings) : Type 0 where
  pub first : IsReadOf o.first world r.first
  pub second : IsReadOf o.second world r.second
  pub third : IsReadOf o.third world r.third

-- the roots of the operands' files
abbrev pub roots_of : Operands → Tuple
roots_of o = record {
  first = (trailer_of o.first.reader).root;
  second = (trailer_of o.second.reader).root;
  third = (trailer_of o.third.reader).root;
}

-- the file is that of these nodes, with that root
abbrev pub IsNodeFile : FileNo → World → ℕ → ℕ → List Node → Type 0
IsNodeFile f world n root nodes = HasNodes n root nodes (file world f).bytes

-- so are the operands' files, by what they hold, those of the diagrams
pub record HaveNodes (files : Files) (r : FileNo → List ℕ) (n : ℕ) (roots : Tuple) (d : Diagrams) : Type 0
  where
    pub first : HasNodes n roots.first d.first (r files.first)
    pub second : HasNodes n roots.second d.second (r files.second)
    pub third : HasNodes n roots.third d.third (r files.third)

-- so they are in that world
abbrev pub AreNodeFiles : Files → World → ℕ → Tuple → Diagrams → Type 0
AreNodeFiles files world n roots d = HaveNodes files (reads_of world) n roots d

-- nothing was read of an operand that has these nodes, and that root
pub record IsUnread (o : Operand) (world : World) (root : ℕ) (nodes : List Node) : Type 0 where
  pub root_is : (trailer_of o.reader).root ≡ root
  pub read : IsReadOf o world (record { hand = None; unread = nodes })

-- nor of those that have the diagrams' nodes, and these roots
pub record AreUnread (o : Operands) (world : World) (roots : Tuple) (d : Diagrams) : Type 0 where
  pub roots_are : roots_of o ≡ roots
  pub read : AreRead o world (unread_all d)

-- a node no later than the key is the next one
pub record HasNext (key : ℕ) (r : Reading) : Type 0 where
  pub node : Node
  pub unread : List Node
  pub are : r.unread ≡ unread ++ node ∷ []
  pub upto : node.uid ≤ key

-- of the nodes that weren't read the last one was read, and is at hand
abbrev pub ReadsNext : Operand → World → Reading → Type 0
ReadsNext o world r = (x : Node) × (unread : List Node) × (r.unread ≡ unread ++ x ∷ [])
    × IsReadOf o world (record { hand = Some x; unread = unread })
