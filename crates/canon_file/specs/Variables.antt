-- the diagram of a single variable
use Rattle.std.specs.Prelude.{◌≡◌, ℕ, Bool, true, false, List, [], ◌∷◌, ◌++◌, length}
use Rattle.bool_tables.specs.Steps.{step_table}
use Rattle.bool_tables.specs.declared.steps.Step.TheVariants.{Var}
use Rattle.rec_words.specs.Words.{terminal}
use Rattle.rec_words.specs.declared.node.Node.{Node}
use Rattle.canon_file.specs.Rows.{row_word}
use Rattle.canon_file.specs.Canon.{canon_nodes, canon_root, node_bytes, trailer_bytes, canon_bytes}

-- the table of the variable of a level among n
abbrev pub var_table : ℕ → ℕ → List Bool
var_table n level = step_table n [] (Var level)

-- the node of a variable: the first of its level, which leads to 0 and to 1
abbrev pub var_node : ℕ → Node
var_node level = record { uid = row_word level 0; low = terminal false; high = terminal true }

-- the bytes of that node, and of the trailer for one node and n variables
abbrev pub var_bytes : ℕ → ℕ → List ℕ
var_bytes n level = node_bytes (var_node level ∷ []) ++ trailer_bytes (row_word level 0) 1 n

-- the canonical form of a variable among n is that one node, and takes 48 bytes
pub record IsOneNode (n level : ℕ) : Type 0 where
  pub nodes : canon_nodes n (var_table n level) ≡ var_node level ∷ []
  pub root : canon_root n (var_table n level) ≡ row_word level 0
  pub bytes : canon_bytes n (var_table n level) ≡ var_bytes n level
  pub size : length (canon_bytes n (var_table n level)) ≡ 48
