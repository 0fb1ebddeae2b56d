-- the laws of canonical forms
use Rattle.std.specs.Prelude.{◌≡◌, ◌↔◌, ℕ, ◌+◌, ◌^◌, ◌≤◌, Bool, true, List, [], ◌∷◌, length}
use Rattle.bool_tables.specs.Tables.{value_at, place_of_bits}
use Rattle.rec_words.specs.Words.{most_variables, terminal}
use Rattle.canon_file.specs.declared.row.Row.{Row}
use Rattle.list_laws.specs.Members.{Has, IsAscending}
use Rattle.canon_file.specs.Pieces.{splits, pieces, parts}
use Rattle.canon_file.specs.Rows.{row_before, row_of, rows_with, levels, Fits}
use Rattle.canon_file.specs.Canon.{canon_nodes, canon_root, canon_bytes}
use Rattle.canon_file.specs.NodeFiles.{IsNodeFile}
use Rattle.canon_file.specs.Walks.{walk, table_of, row_at}

-- the table has n variables, no more than there are levels, and its canonical form is defined: no level has more rows
-- than numbers
pub record HasForm (n : ℕ) (t : List Bool) : Type 0 where
  pub few : n ≤ most_variables
  pub whole : length t ≡ 2 ^ n
  pub fits : Fits (levels n 0 (t ∷ []))

-- for one n, canonical bytes are equal exactly where the tables are
abbrev pub IsUnique : ℕ → Type 0
IsUnique n = (t u : List Bool) → HasForm n t → HasForm n u → (canon_bytes n t ≡ canon_bytes n u) ↔ (t ≡ u)

-- the canonical root stands for the table
abbrev pub Stands : ℕ → Type 0
Stands n = (t : List Bool) → HasForm n t → table_of (row_at (canon_nodes n t)) n 0 (canon_root n t) ≡ t

-- from the root the sides that the digits of a place name lead to the table's value there
abbrev pub Walks : ℕ → Type 0
Walks n = (t bits : List Bool) → HasForm n t → length bits ≡ n
    → walk (row_at (canon_nodes n t)) 0 bits (canon_root n t) ≡ terminal (value_at t (place_of_bits bits))

-- the canonical nodes and root keep the rules of node files
abbrev pub KeepsRules : ℕ → Type 0
KeepsRules n = (t : List Bool) → HasForm n t → IsNodeFile n t

-- the pieces of level i of a table of i + h variables are its 2 ^ i equal parts, in order
abbrev pub PiecesAreParts : ℕ → ℕ → Type 0
PiecesAreParts i h = (t : List Bool) → length t ≡ 2 ^ (i + h) → pieces i h t ≡ parts h t 0 (2 ^ i)

-- the rows of a level ascend, each before all that follow, and are the pairs of the pieces that split
pub record AreRows (f : List Bool → ℕ) (h : ℕ) (ps : List (List Bool)) : Type 0 where
  pub ascend : IsAscending row_before (rows_with f h ps)
  pub pairs : (r : Row) → Has r (rows_with f h ps) ↔
      ((p : List Bool) × Has p ps × (splits h p ≡ true) × (row_of f h p ≡ r))
