-- What is made of two diagrams in the room.
use Rattle.std.specs.Prelude.{ℕ, Bool, List, map}
use Rattle.rec_words.specs.declared.node.Node.{Node}
use Rattle.rec_words.specs.declared.rec.Rec.{Rec}
use Rattle.shelf_model.specs.World.{World}
use Rattle.arc_file.specs.declared.arc.Arc.{Arc}
use Rattle.arc_diagrams.specs.Arcs.{arcs_of}
use Rattle.arc_diagrams.specs.Laws.{IsDiagramOf}
use Rattle.copied_diagrams.specs.declared.source.Source.{Source}
use Rattle.node_file.specs.Canonical.{IsCanonicalFile}
use Rattle.copied_diagrams.specs.Pairs.{IsTrailerOf}
use Rattle.room_reduction.specs.Records.{uid_in, low_in, high_in}
use Rattle.room_reduction.specs.Sources.{AreSources}

-- the node of a source's record, and the arcs of such records
abbrev pub node_of : Rec → Node
node_of r = record { uid = uid_in r; low = low_in r; high = high_in r }

abbrev pub arcs_in : List Rec → List Arc
arcs_in sources = arcs_of (map node_of sources)

-- the records are the sources of a diagram of the table, with that root
pub record AreOfTable (n root : ℕ) (table : List Bool) (sources : List Rec) : Type 0 where
  pub sources_are : AreSources n root (arcs_in sources) sources
  pub diagram : IsDiagramOf n root (arcs_in sources) table

-- the file is the canonical one of a table, and the trailer is its diagram's
pub record IsOperandOf (n : ℕ) (t : List Bool) (source : Source) (world : World) : Type 0 where
  pub file_of : IsCanonicalFile n t source.from world
  pub trailer_of : IsTrailerOf n t source.trailer
