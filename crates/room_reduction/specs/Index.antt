-- Where the sources of a diagram stand in the room.
use Rattle.std.specs.Prelude.{ℕ, List}
use Rattle.rec_words.specs.declared.rec.Rec.{Rec}
use Rattle.room_reduction.specs.declared.index.Index.{Index}
use Rattle.room_reduction.specs.Records.{word}
use Rattle.room_reduction.specs.Sources.{sources_in}

-- where the sources of a level begin, as the level's record says
abbrev pub begin_in : Rec → ℕ
begin_in level = word 0 level

-- the sources, as so many packed records of a room
abbrev pub sources_of : Index → List Rec → List Rec
sources_of index room = sources_in index.total room
