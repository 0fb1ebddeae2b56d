-- the canonical nodes and bytes of a table
use Rattle.std.specs.Prelude.{ℕ, suc, Bool, List, [], ◌∷◌, ◌++◌, length}
use Rattle.std.specs.Int.{w64, to_be_bytes}
use Rattle.rec_words.specs.declared.node.Node.{Node}
use Rattle.canon_file.specs.declared.row.Row.{Row}
use Rattle.canon_file.specs.Rows.{row_word, pointer, levels}

-- the nodes of the rows of level i, the first of which is at place k
abbrev pub numbered : ℕ → ℕ → List Row → List Node
numbered i k [] = []
numbered i k (r ∷ rs) = record { uid = row_word i k; low = r.low; high = r.high } ∷ numbered i (suc k) rs

-- the nodes of level i and of each deeper one: the deepest level first, and the rows of a level ascending
abbrev pub nodes_of : ℕ → List (List Row) → List Node
nodes_of i [] = []
nodes_of i (rs ∷ deeper) = nodes_of (suc i) deeper ++ numbered i 0 rs

-- the nodes of the diagram of a table of n variables
unfoldable pub canon_nodes : ℕ → List Bool → List Node
canon_nodes n t = nodes_of 0 (levels n 0 (t ∷ []))

-- the pointer of the diagram's root
unfoldable pub canon_root : ℕ → List Bool → ℕ
canon_root n t = pointer n 0 (t ∷ []) t

-- the bytes of nodes: of each its identifier, its low and its high pointer, each in eight bytes, the highest first
abbrev pub node_bytes : List Node → List ℕ
node_bytes [] = []
node_bytes (x ∷ xs) = to_be_bytes w64 x.uid ++ (to_be_bytes w64 x.low ++ (to_be_bytes w64 x.high ++ node_bytes xs))

-- the bytes that end a node file: its root, how many nodes it has, and how many variables
abbrev pub trailer_bytes : ℕ → ℕ → ℕ → List ℕ
trailer_bytes root count n = to_be_bytes w64 root ++ (to_be_bytes w64 count ++ to_be_bytes w64 n)

-- the canonical bytes of a table of n variables
unfoldable pub canon_bytes : ℕ → List Bool → List ℕ
canon_bytes n t = node_bytes (canon_nodes n t) ++ trailer_bytes (canon_root n t) (length (canon_nodes n t)) n
