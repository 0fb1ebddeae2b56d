-- The canonical file of a table, as a reader has come through it.
use Rattle.std.specs.Prelude.{◌≡◌, ℕ, Bool, List, ◌++◌, length}
use Rattle.rec_words.specs.declared.node.Node.{Node}
use Rattle.shelf_model.specs.World.{World}
use Rattle.canon_file.specs.Canon.{canon_nodes, canon_root, canon_bytes}
use Rattle.canon_file.specs.Laws.{HasForm}
use Rattle.node_file.specs.declared.reader.NodeReader.{NodeReader}
use Rattle.node_file.specs.Readers.{trailer_of, AreLeft}
use Rattle.node_reading.specs.Reading.{bytes_of}

-- the file that is read is the canonical one of the table
pub record IsCanonical (n : ℕ) (t : List Bool) (r : NodeReader) (world : World) : Type 0 where
  pub form : HasForm n t
  pub bytes_are : bytes_of r world ≡ canon_bytes n t
  pub trailer_is : trailer_of r ≡ record { root = canon_root n t; count = length (canon_nodes n t); n = n }

-- of the nodes all but these last ones are left
pub record AreLeftBut (r : NodeReader) (bytes : List ℕ) (nodes given : List Node) : Type 0 where
  pub rest : List Node
  pub nodes_are : nodes ≡ rest ++ given
  pub left : AreLeft r bytes rest
