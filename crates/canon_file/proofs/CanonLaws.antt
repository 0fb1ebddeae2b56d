-- what the canonical nodes, root and bytes are made of
use Rattle.std.specs.Prelude.{◌≡◌, ℕ, Bool, List, [], ◌∷◌, ◌++◌, length, refl}
use Rattle.canon_file.specs.Rows.{pointer, levels}
use Rattle.canon_file.specs.Canon.{nodes_of, canon_nodes, canon_root, node_bytes, trailer_bytes, canon_bytes}

pub canon_nodes-is : (n : ℕ) (t : List Bool) → canon_nodes n t ≡ nodes_of 0 (levels n 0 (t ∷ []))
unfolding canon_nodes
canon_nodes-is n t = refl

pub canon_root-is : (n : ℕ) (t : List Bool) → canon_root n t ≡ pointer n 0 (t ∷ []) t
unfolding canon_root
canon_root-is n t = refl

pub canon_bytes-is : (n : ℕ) (t : List Bool) → canon_bytes n t ≡ node_bytes (canon_nodes n t) ++ trailer_bytes (canon_root n t) (length (canon_nodes n t)) n
unfolding canon_bytes
canon_bytes-is n t = refl
