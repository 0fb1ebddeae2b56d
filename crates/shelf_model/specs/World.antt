-- All that a station tells of its content, its past with it.
use Rattle.std.specs.Prelude.{ℕ, Bool, List, Option}
use Rattle.shelf_model.specs.declared.file_no.FileNo.{FileNo}
use Rattle.shelf_model.specs.File.{File}
use Rattle.shelf_model.specs.Folder.{Folder, file_in}

-- what stands between two calls: the files, and all that was said
pub record Moment : Type 0 where
  pub folder : Folder
  pub said : List ℕ

-- `clock` is the number of calls so far, and `moment k` what stood after the first k of them.
-- `texts` gives the text at a path, where there is one. `home` is the path of the station's folder, `inside` whether
-- that folder was entered, and `strays` counts what was done elsewhere.
pub record World : Type 0 where
  pub clock : ℕ
  pub moment : ℕ → Moment
  pub texts : List ℕ → Option (List ℕ)
  pub home : List ℕ
  pub inside : Bool
  pub strays : ℕ

-- what stands now
abbrev pub now : World → Moment
now w = w.moment w.clock

-- the file of that number, now
abbrev pub file : World → FileNo → File
file w f = file_in (now w).folder f

-- all that was said, up to now
abbrev pub said : World → List ℕ
said w = (now w).said
