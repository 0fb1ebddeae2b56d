-- What the files of a job mean that ran to its end.
use Rattle.std.specs.Prelude.{◌≡◌, ℕ, ◌++◌, Bool, List, length}
use Rattle.rec_words.specs.Words.{terminal}
use Rattle.rec_words.specs.declared.node.Node.{Node}
use Rattle.bool_tables.specs.Tables.{value_at, place_of_bits}
use Rattle.shelf_model.specs.Folder.{Image, IsImage}
use Rattle.shelf_model.specs.World.{Moment, World, now}
use Rattle.canon_file.specs.Canon.{node_bytes, trailer_bytes}
use Rattle.canon_file.specs.Walks.{walk, row_at}
use Rattle.script_reader.specs.declared.plan.LineEnd.{LineEnd}
use Rattle.sound_image.specs.Jobs.{Job}
use Rattle.sound_image.specs.Holds.{AreSound}
use Rattle.script_runner.specs.Entered.{RunsFrom}

-- the bytes are those of nodes and a trailer for n variables, and from the root the low or high side that each bit of
-- an assignment says leads to the truth value that the table has there
pub record IsDiagramOf (n : ℕ) (t : List Bool) (bytes : List ℕ) : Type 0 where
  pub nodes : List Node
  pub root : ℕ
  pub bytes_are : bytes ≡ node_bytes nodes ++ trailer_bytes root (length nodes) n
  pub leads : (bits : List Bool) → length bits ≡ n
      → walk (row_at nodes) 0 bits root ≡ terminal (value_at t (place_of_bits bits))

-- a run of the job ended with 0, in a folder that was sound for it as the run began, and a stop may leave the image
pub record IsFinished (job : Job) (image : Image) : Type 0 where
  pub lines : List LineEnd
  pub start : Moment
  pub old : World
  pub new : World
  pub ran : RunsFrom job lines 0 start old new
  pub sound : AreSound job start.folder
  pub is_image : IsImage (now new).folder image
