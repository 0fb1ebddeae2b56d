-- How often the files in memory were read.
use Rattle.std.specs.Prelude.{ℕ}
use Rattle.std.specs.Option.{option_map_or}
use Rattle.std.specs.BTreeMap.{BTreeMap, get}
use Rattle.shelf_model.specs.declared.file_no.FileNo.{FileNo}
use Rattle.shelf_model.specs.Folder.{file_cmp}

-- how often the file of that number was read; a number that the map doesn't name is a file that never was
abbrev pub read_count : BTreeMap FileNo ℕ → FileNo → ℕ
read_count reads f = option_map_or (λ (count : ℕ). count) (get file_cmp reads f) 0
