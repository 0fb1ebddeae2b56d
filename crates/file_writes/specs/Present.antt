-- What reads give of a folder.
use Rattle.std.specs.Prelude.{ℕ, List}
use Rattle.shelf_model.specs.declared.file_no.FileNo.{FileNo}
use Rattle.shelf_model.specs.Folder.{Folder, file_in}

-- what a read gives of each file of a folder
abbrev pub present : Folder → FileNo → List ℕ
present folder f = (file_in folder f).bytes
