-- worked canonical forms, with the words written out; each is computed
use Rattle.std.specs.Prelude.{◌≡◌, ℕ, true, false, List, [], ◌∷◌, ◌++◌, length}
use Rattle.std.specs.Int.{w64, to_be_bytes}
use Rattle.std.proofs.Common.{refl}
use Rattle.rec_words.specs.declared.node.Node.{Node}
use Rattle.canon_file.specs.Canon.{canon_nodes, canon_root, node_bytes, trailer_bytes, canon_bytes}

-- the bytes of a file with these nodes, this root and this number of variables
abbrev file_of : List Node → ℕ → ℕ → List ℕ
file_of nodes root n = node_bytes nodes ++ (to_be_bytes w64 root ++ (to_be_bytes w64 (length nodes) ++ to_be_bytes w64 n))

-- the second of three variables
second_of_three : canon_bytes 3 (false ∷ false ∷ true ∷ true ∷ false ∷ false ∷ true ∷ true ∷ []) ≡ file_of (record { uid = 0x0000_ffff_ffff_ffff; low = 0x8000_0000_0000_0000; high = 0x8000_0000_0000_0001 } ∷ []) 0x0000_ffff_ffff_ffff 3
unfolding canon_nodes canon_root canon_bytes
second_of_three = refl

-- 0, of two variables
constant_zero : canon_bytes 2 (false ∷ false ∷ false ∷ false ∷ []) ≡ file_of ([]) 0x8000_0000_0000_0000 2
unfolding canon_nodes canon_root canon_bytes
constant_zero = refl

-- both of two variables
conjunction : canon_bytes 2 (false ∷ false ∷ false ∷ true ∷ []) ≡ file_of (record { uid = 0x0000_ffff_ffff_ffff; low = 0x8000_0000_0000_0000; high = 0x8000_0000_0000_0001 } ∷ record { uid = 0x0000_7fff_ffff_ffff; low = 0x8000_0000_0000_0000; high = 0x0000_ffff_ffff_ffff } ∷ []) 0x0000_7fff_ffff_ffff 2
unfolding canon_nodes canon_root canon_bytes
conjunction = refl

-- one of two variables, and not the other
exclusive_or : canon_bytes 2 (false ∷ true ∷ true ∷ false ∷ []) ≡ file_of (record { uid = 0x0000_ffff_ffff_ffff; low = 0x8000_0000_0000_0000; high = 0x8000_0000_0000_0001 } ∷ record { uid = 0x0000_ffff_ffff_fffe; low = 0x8000_0000_0000_0001; high = 0x8000_0000_0000_0000 } ∷ record { uid = 0x0000_7fff_ffff_ffff; low = 0x0000_ffff_ffff_ffff; high = 0x0000_ffff_ffff_fffe } ∷ []) 0x0000_7fff_ffff_ffff 2
unfolding canon_nodes canon_root canon_bytes
exclusive_or = refl

-- not both of two variables
negated_conjunction : canon_bytes 2 (true ∷ true ∷ true ∷ false ∷ []) ≡ file_of (record { uid = 0x0000_ffff_ffff_ffff; low = 0x8000_0000_0000_0001; high = 0x8000_0000_0000_0000 } ∷ record { uid = 0x0000_7fff_ffff_ffff; low = 0x8000_0000_0000_0001; high = 0x0000_ffff_ffff_ffff } ∷ []) 0x0000_7fff_ffff_ffff 2
unfolding canon_nodes canon_root canon_bytes
negated_conjunction = refl

-- the second and the third of three variables
later_conjunction : canon_bytes 3 (false ∷ false ∷ false ∷ true ∷ false ∷ false ∷ false ∷ true ∷ []) ≡ file_of (record { uid = 0x0001_7fff_ffff_ffff; low = 0x8000_0000_0000_0000; high = 0x8000_0000_0000_0001 } ∷ record { uid = 0x0000_ffff_ffff_ffff; low = 0x8000_0000_0000_0000; high = 0x0001_7fff_ffff_ffff } ∷ []) 0x0000_ffff_ffff_ffff 3
unfolding canon_nodes canon_root canon_bytes
later_conjunction = refl

-- if the first of three variables then the second and third, and else the third
choice : canon_bytes 3 (false ∷ true ∷ false ∷ true ∷ false ∷ false ∷ false ∷ true ∷ []) ≡ file_of (record { uid = 0x0001_7fff_ffff_ffff; low = 0x8000_0000_0000_0000; high = 0x8000_0000_0000_0001 } ∷ record { uid = 0x0000_ffff_ffff_ffff; low = 0x8000_0000_0000_0000; high = 0x0001_7fff_ffff_ffff } ∷ record { uid = 0x0000_7fff_ffff_ffff; low = 0x0001_7fff_ffff_ffff; high = 0x0000_ffff_ffff_ffff } ∷ []) 0x0000_7fff_ffff_ffff 3
unfolding canon_nodes canon_root canon_bytes
choice = refl

-- with no variable the file is a trailer
no_variable : canon_bytes 0 (true ∷ []) ≡ file_of [] 0x8000_0000_0000_0001 0
unfolding canon_nodes canon_root canon_bytes
no_variable = refl

-- the bytes of a trailer
trailer : trailer_bytes 0x8000_0000_0000_0001 258 3 ≡
    128 ∷ 0 ∷ 0 ∷ 0 ∷ 0 ∷ 0 ∷ 0 ∷ 1 ∷ 0 ∷ 0 ∷ 0 ∷ 0 ∷ 0 ∷ 0 ∷ 1 ∷ 2 ∷ 0 ∷ 0 ∷ 0 ∷ 0 ∷ 0 ∷ 0 ∷ 0 ∷ 3 ∷ []
trailer = refl
