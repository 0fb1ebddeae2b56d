-- The present of a station as its events leave it.
use Rattle.std.specs.Prelude.{◌≡◌, ℕ, List}
use Rattle.shelf_model.specs.declared.file_no.FileNo.{FileNo}
use Rattle.shelf_model.specs.File.{File}
use Rattle.shelf_model.specs.Folder.{file_in}
use Rattle.shelf_memory.specs.Events.{first_moment, replayed, calls_in}
use Rattle.shelf_memory.specs.declared.event.Event.{Event}

-- the events make that many calls, and lead to these files and to what was said
pub record Agrees (clock : ℕ) (stored : FileNo → File) (bytes : List ℕ) (events : List Event) : Type 0 where
  pub calls_are : calls_in events ≡ clock
  pub files_are : (f : FileNo) → file_in (replayed first_moment events).folder f ≡ stored f
  pub said_is : (replayed first_moment events).said ≡ bytes
