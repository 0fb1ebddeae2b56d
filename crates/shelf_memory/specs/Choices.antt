-- Which of the bytes that a stop may leave of a file are taken.
use Rattle.std.specs.Prelude.{ℕ, ◌+◌, ◌-◌, ◌%◌, ◌==◌, cond, List, ◌++◌, take, replicate}
use Rattle.shelf_model.specs.declared.file_no.FileNo.{FileNo}
use Rattle.shelf_model.specs.File.{File}
use Rattle.shelf_memory.specs.declared.choice.Choice.{Choice}
use Rattle.shelf_memory.specs.declared.choice.Choice.TheVariants.{Firm, Present, Fill, Mixed}

-- what is sure of a file
abbrev pub sure_of : File → List ℕ
sure_of file = take file.firm file.bytes

-- what is sure of a file, and then one byte as far as the file may reach
abbrev pub filled_of : ℕ → File → List ℕ
filled_of byte file = take file.firm file.bytes ++ replicate (file.reach - file.firm) byte

-- the bytes that the choice takes of the file of that number
abbrev pub chosen_of : Choice → FileNo → File → List ℕ
chosen_of Firm f file = sure_of file
chosen_of Present f file = file.bytes
chosen_of (Fill byte) f file = filled_of byte file
chosen_of (Mixed number) f file =
    cond ((f.step + f.part + number) % 3 == 0) (sure_of file)
    (cond ((f.step + f.part + number) % 3 == 1) file.bytes (filled_of 255 file))
