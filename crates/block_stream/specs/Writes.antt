-- What writing leaves of the folder, and what a writer's file is to hold.
use Rattle.std.specs.Prelude.{◌≡◌, ℕ, ◌+◌, ◌*◌, ◌<◌, ◌≤◌, List, ◌++◌, length, take}
use Rattle.rec_words.specs.declared.rec.Rec.{Rec}
use Rattle.shelf_model.specs.declared.file_no.FileNo.{FileNo}
use Rattle.shelf_model.specs.File.{IsKept}
use Rattle.shelf_model.specs.Folder.{file_in}
use Rattle.shelf_model.specs.World.{Moment, World, now, file}
use Rattle.shelf_model.specs.Calls.{longest, most_piece}
use Rattle.shelf_model.specs.Moments.{Ran, OnlyChanged}
use Rattle.block_stream.specs.declared.filling.Filling.{Filling}
use Rattle.block_stream.specs.Records.{piece_records, records_bytes}

-- at each moment every other file is as it was, and what was sure of this one is sure
pub record DuringWrite (f : FileNo) (old m : Moment) : Type 0 where
  pub others : OnlyChanged (λ q. q ≡ f) old m
  pub kept : (front : List ℕ) → IsKept front (file_in old.folder f) → IsKept front (file_in m.folder f)

-- at each moment every other file is as it was, and up to a length this one reads as it did, and what was sure of it is
-- sure
pub record DuringCut (f : FileNo) (to : ℕ) (old m : Moment) : Type 0 where
  pub others : OnlyChanged (λ q. q ≡ f) old m
  pub reads : (n : ℕ) → n ≤ to → take n (file_in m.folder f).bytes ≡ take n (file_in old.folder f).bytes
  pub kept : (front : List ℕ) → length front ≤ to → IsKept front (file_in old.folder f)
      → IsKept front (file_in m.folder f)

-- a file was written to, by at most n calls
pub record Wrote (n : ℕ) (f : FileNo) (old new : World) : Type 0 where
  pub run : Ran (DuringWrite f (now old)) old new
  pub few : new.clock ≤ old.clock + n

-- a file was cut to a length, by at most n calls
pub record Cut (n : ℕ) (f : FileNo) (to : ℕ) (old new : World) : Type 0 where
  pub run : Ran (DuringCut f to (now old)) old new
  pub few : new.clock ≤ old.clock + n

-- what a writer keeps of its window, of so many records, and of its file
pub record IsFilling (w : Filling) (room : ℕ) : Type 0 where
  pub words_some : 1 ≤ w.words
  pub words_most : w.words ≤ 8
  pub room_some : 8 ≤ room
  pub in_room : w.waiting ≤ room
  pub in_piece : w.waiting * (8 * w.words) ≤ most_piece
  pub fits : w.stored * (8 * w.words) ≤ longest

-- the window and a piece have room for one record more
pub record HasRoom (w : Filling) (room : ℕ) : Type 0 where
  pub in_room : w.waiting + 1 ≤ room
  pub in_piece : (w.waiting + 1) * (8 * w.words) ≤ most_piece

-- where a piece of records waits they are put into the file and one waits after them; else one more waits
pub record Fills (room : ℕ) (old new : Filling) : Type 0 where
  pub more : old.waiting < piece_records old.words room → new.waiting ≡ old.waiting + 1
  pub flushed : piece_records old.words room ≤ old.waiting → new.waiting ≡ 1

-- how many records a writer holds: those in its file, and those that wait
abbrev pub count_of : Filling → ℕ
count_of w = w.stored + w.waiting

-- what the file is to hold: its bytes, and those of the records that wait
abbrev pub written : Filling → List Rec → World → List ℕ
written w window world = (file world w.file).bytes ++ records_bytes w.words (take w.waiting window)

-- the file ends behind the records that the writer has put there
abbrev pub InStep : Filling → World → Type 0
InStep w world = length (file world w.file).bytes ≡ w.stored * (8 * w.words)

-- the writer is in step with its file, which is to hold these bytes
pub record IsWriting (w : Filling) (window : List Rec) (world : World) (bytes : List ℕ) : Type 0 where
  pub in_step : InStep w world
  pub bytes_are : written w window world ≡ bytes

-- the file and the width of its records stay
pub record SameFile (old new : Filling) : Type 0 where
  pub file_is : new.file ≡ old.file
  pub words_are : new.words ≡ old.words
