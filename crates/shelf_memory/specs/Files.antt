-- The files in memory, read by look-up.
use Rattle.std.specs.Option.{option_map_or}
use Rattle.std.specs.BTreeMap.{BTreeMap, get}
use Rattle.shelf_model.specs.declared.file_no.FileNo.{FileNo}
use Rattle.shelf_model.specs.File.{File, no_file}
use Rattle.shelf_model.specs.Folder.{file_cmp}
use Rattle.shelf_memory.specs.declared.change.Stored.{Stored}
use Rattle.shelf_memory.specs.Changes.{file_of}

-- the file of that number; a number that the map doesn't name is an empty file
abbrev pub stored_in : BTreeMap FileNo Stored → FileNo → File
stored_in files f = option_map_or file_of (get file_cmp files f) no_file
