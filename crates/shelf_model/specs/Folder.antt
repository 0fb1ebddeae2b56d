-- A folder of numbered files, and its images: what a stop may leave of all of them.
use Rattle.std.specs.Prelude.{◌≡◌, ℕ, List, [], unwrap_or}
use Rattle.std.specs.Ordering.{nat_cmp, ordering_then}
use Rattle.std.specs.declared.cmp.Ordering.{Ordering}
use Rattle.std.specs.FinMap.{FinMap, get}
use Rattle.shelf_model.specs.declared.file_no.FileNo.{FileNo}
use Rattle.shelf_model.specs.File.{File, no_file, IsFile, IsLeft}

-- by the step, then by the part
abbrev pub file_cmp : FileNo → FileNo → Ordering
file_cmp a b = ordering_then (nat_cmp a.step b.step) (nat_cmp a.part b.part)

-- the files of a folder; a number that the map doesn't name is an empty file
abbrev pub Folder : Type 0
Folder = FinMap file_cmp File

-- the bytes of a folder's files after a stop
abbrev pub Image : Type 0
Image = FinMap file_cmp (List ℕ)

-- the file of that number
abbrev pub file_in : Folder → FileNo → File
file_in folder f = unwrap_or (get folder f) no_file

-- every file outside these is as it was: where one file may change, `OnlyChanges (λ q. q ≡ f)` says `q ≢ f` of the
-- others
abbrev pub OnlyChanges : (FileNo → Type 0) → Folder → Folder → Type 0
OnlyChanges these old new = (f : FileNo) → ¬ (these f) → file_in new f ≡ file_in old f

-- the bytes of that number in an image
abbrev pub bytes_in : Image → FileNo → List ℕ
bytes_in image f = unwrap_or (get image f) []

-- a stop may leave this image: every file chooses by itself
abbrev pub IsImage : Folder → Image → Type 0
IsImage folder image = (f : FileNo) → IsLeft (file_in folder f) (bytes_in image f)

-- every file of the folder is one that can be
abbrev pub AreFiles : Folder → Type 0
AreFiles folder = (f : FileNo) → IsFile (file_in folder f)
