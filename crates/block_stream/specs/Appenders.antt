-- What is seen of an appender.
use Rattle.std.specs.Prelude.{◌≡◌, ℕ, ◌*◌, List, length}
use Rattle.shelf_model.specs.World.{World}
use Rattle.block_stream.specs.declared.filling.Filling.{Filling}
use Rattle.block_stream.specs.declared.appender.Appender.{Appender}
use Rattle.block_stream.specs.Writes.{IsWriting, written}
use Rattle.block_stream.specs.Items.{AreItems}

-- the file, and how many records it has and how many wait
abbrev pub filling_of : {T : Type 0} → Appender T → Filling
filling_of a = a.filling

-- how many records the window has room for
abbrev pub room_of : {T : Type 0} → Appender T → ℕ
room_of a = length a.window.now

-- what its file is to hold
abbrev pub written_of : {T : Type 0} → Appender T → World → List ℕ
written_of a world = written a.filling a.window.now world

-- the appender is in step with its file, which is to hold these bytes
abbrev pub Holds : {T : Type 0} → Appender T → World → List ℕ → Type 0
Holds a world bytes = IsWriting a.filling a.window.now world bytes

-- what its file is to hold is whole records, which are those of these values
pub record HoldsItems {T : Type 0} (is_value : T → Type 0) (words : T → List ℕ) (a : Appender T) (world : World)
    (xs : List T) : Type 0 where
  pub items : AreItems is_value words a.filling.words 0 (written_of a world) xs
  pub all : length (written_of a world) ≡ length xs * (8 * a.filling.words)
