-- What is seen of a writer of a node file.
use Rattle.std.specs.Prelude.{ℕ, List, length}
use Rattle.shelf_model.specs.World.{World}
use Rattle.block_stream.specs.declared.filling.Filling.{Filling}
use Rattle.block_stream.specs.Writes.{IsWriting, written}
use Rattle.node_file.specs.declared.writer.NodeWriter.{NodeWriter}

-- the file, and how many nodes it has and how many wait
abbrev pub filling_of : NodeWriter → Filling
filling_of w = w.filling

-- how many records the window has room for
abbrev pub room_of : NodeWriter → ℕ
room_of w = length w.window.now

-- what its file is to hold
abbrev pub written_of : NodeWriter → World → List ℕ
written_of w world = written w.filling w.window.now world

-- the writer is in step with its file, which is to hold these bytes
abbrev pub Holds : NodeWriter → World → List ℕ → Type 0
Holds w world bytes = IsWriting w.filling w.window.now world bytes
