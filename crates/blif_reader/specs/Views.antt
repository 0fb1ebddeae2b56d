-- What the parts of a netlist in memory stand for.
use Rattle.std.specs.Prelude.{ℕ, zero, suc, List, [], ◌∷◌, take, drop, unwrap_or}
use Rattle.blif_reader.specs.declared.cover.Cover as declared
use Rattle.blif_reader.specs.declared.cover.Rows.{Rows}
use Rattle.blif_reader.specs.declared.names.Names.{Names}
use Rattle.blif_reader.specs.Ends.{words_between}
use Rattle.blif_reader.specs.Netlist.{Cover}
use Rattle.blif_reader.specs.Index.{Index, found_in}

-- names in memory
abbrev pub names_in : Names → List (List ℕ)
names_in n = words_between 0 n.ends.items n.bytes.items

-- so many rows of one width, whose characters stand end to end
unfoldable pub rows_in : ℕ → ℕ → List ℕ → List (List ℕ)
rows_in zero width cells = []
rows_in (suc n) width cells = take width cells ∷ rows_in n width (drop width cells)

-- rows in memory
abbrev pub rows_of : Rows → List (List ℕ)
rows_of r = rows_in r.count r.width r.cells.items

-- a cover
abbrev pub cover_of : declared.Cover → Cover
cover_of c = record { line = c.line; value = c.value; rows = rows_of c.rows }

-- the number of a word, or 0
abbrev pub number_in : Index → List ℕ → ℕ
number_in index word = unwrap_or (found_in index word) 0
