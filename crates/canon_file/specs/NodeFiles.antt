-- what holds of the nodes and the root of every node file
use Rattle.std.specs.Prelude.{◌≡◌, ◌≢◌, ℕ, ◌<◌, Bool, List, [], ◌∷◌}
use Rattle.rec_words.specs.Words.{level_of, IsTerminal}
use Rattle.rec_words.specs.Records.{IsNode}
use Rattle.rec_words.specs.declared.node.Node.{Node}
use Rattle.list_laws.specs.Members.{Has}
use Rattle.canon_file.specs.Canon.{canon_nodes, canon_root}

-- the node may stand in a file for n variables: its level is below n, and its two pointers differ, each a truth value
-- or a node of a deeper level
pub record IsProper (n : ℕ) (x : Node) : Type 0 where
  pub words : IsNode x
  pub level : level_of x.uid < n
  pub differ : x.low ≢ x.high
  pub low : level_of x.uid < level_of x.low
  pub high : level_of x.uid < level_of x.high

-- the identifiers descend: each is above all that follow
abbrev pub IsDescending : List Node → Type 0
IsDescending [] = Unit {0}
IsDescending (x ∷ xs) = ((y : Node) → Has y xs → y.uid < x.uid) × IsDescending xs

-- the root is the identifier of the last node, or a truth value where there is no node
abbrev pub EndsAt : ℕ → List Node → Type 0
EndsAt root [] = IsTerminal root
EndsAt root (x ∷ []) = root ≡ x.uid
EndsAt root (x ∷ y ∷ xs) = EndsAt root (y ∷ xs)

-- the canonical nodes and root can stand in a node file
pub record IsNodeFile (n : ℕ) (t : List Bool) : Type 0 where
  pub proper : (x : Node) → Has x (canon_nodes n t) → IsProper n x
  pub descend : IsDescending (canon_nodes n t)
  pub root : EndsAt (canon_root n t) (canon_nodes n t)
