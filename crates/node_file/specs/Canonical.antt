-- The canonical file of a table.
use Rattle.std.specs.Prelude.{◌≡◌, ℕ, Bool, List, length}
use Rattle.shelf_model.specs.declared.file_no.FileNo.{FileNo}
use Rattle.shelf_model.specs.File.{firm_file}
use Rattle.shelf_model.specs.World.{World, file}
use Rattle.canon_file.specs.Canon.{canon_nodes, canon_bytes}
use Rattle.canon_file.specs.Laws.{HasForm}

-- the file is the canonical one of the table, which has a form
pub record IsCanonicalFile (n : ℕ) (t : List Bool) (f : FileNo) (world : World) : Type 0 where
  pub form : HasForm n t
  pub bytes_are : (file world f).bytes ≡ canon_bytes n t

-- so it is, whatever a stop leaves, and the nodes are counted
pub record IsMade (n : ℕ) (t : List Bool) (f : FileNo) (nodes : ℕ) (world : World) : Type 0 where
  pub form : HasForm n t
  pub file_is : file world f ≡ firm_file (canon_bytes n t)
  pub nodes_are : nodes ≡ length (canon_nodes n t)
