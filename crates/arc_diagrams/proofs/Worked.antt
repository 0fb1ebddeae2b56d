-- worked reductions of diagrams of two variables, with the words written out; each is computed
use Rattle.std.specs.Prelude.{◌≡◌, true, false, List, [], ◌∷◌, ◌++◌}
use Rattle.std.proofs.Common.{refl}
use Rattle.arc_file.specs.declared.arc.Arc.{Arc}
use Rattle.arc_diagrams.specs.Arcs.{table_of_arcs}
use Rattle.arc_diagrams.specs.Reduction.{final_pointer, final_rows, final_nodes}

-- a root of level 0 that leads to two nodes of level 1
abbrev inner : List Arc
inner =
    record { source = 0x0000_0000_0000_0000; high = false; target = 0x0000_8000_0000_0000 }
    ∷ record { source = 0x0000_0000_0000_0000; high = true; target = 0x0000_8000_0000_0001 } ∷ []

-- the second variable on the low side, and its negation on the high side
abbrev exclusive_or : List Arc
exclusive_or =
    inner
    ++ record { source = 0x0000_8000_0000_0000; high = false; target = 0x8000_0000_0000_0000 }
    ∷ record { source = 0x0000_8000_0000_0000; high = true; target = 0x8000_0000_0000_0001 }
    ∷ record { source = 0x0000_8000_0000_0001; high = false; target = 0x8000_0000_0000_0001 }
    ∷ record { source = 0x0000_8000_0000_0001; high = true; target = 0x8000_0000_0000_0000 } ∷ []

exclusive_or-table : table_of_arcs 2 0 exclusive_or ≡ false ∷ true ∷ true ∷ false ∷ []
exclusive_or-table = refl

exclusive_or-nodes : final_nodes 2 exclusive_or 2 0 ≡
    record { uid = 0x0000_ffff_ffff_ffff; low = 0x8000_0000_0000_0000; high = 0x8000_0000_0000_0001 }
    ∷ record { uid = 0x0000_ffff_ffff_fffe; low = 0x8000_0000_0000_0001; high = 0x8000_0000_0000_0000 }
    ∷ record { uid = 0x0000_7fff_ffff_ffff; low = 0x0000_ffff_ffff_ffff; high = 0x0000_ffff_ffff_fffe } ∷ []
unfolding final_pointer final_rows
exclusive_or-nodes = refl

exclusive_or-root : final_pointer 2 exclusive_or 0 ≡ 0x0000_7fff_ffff_ffff
unfolding final_pointer
exclusive_or-root = refl

-- the second variable on both sides: the root isn't needed
abbrev second_variable : List Arc
second_variable =
    inner
    ++ record { source = 0x0000_8000_0000_0000; high = false; target = 0x8000_0000_0000_0000 }
    ∷ record { source = 0x0000_8000_0000_0000; high = true; target = 0x8000_0000_0000_0001 }
    ∷ record { source = 0x0000_8000_0000_0001; high = false; target = 0x8000_0000_0000_0000 }
    ∷ record { source = 0x0000_8000_0000_0001; high = true; target = 0x8000_0000_0000_0001 } ∷ []

second_variable-nodes : final_nodes 2 second_variable 2 0 ≡
    record { uid = 0x0000_ffff_ffff_ffff; low = 0x8000_0000_0000_0000; high = 0x8000_0000_0000_0001 } ∷ []
unfolding final_pointer final_rows
second_variable-nodes = refl

second_variable-root : final_pointer 2 second_variable 0 ≡ 0x0000_ffff_ffff_ffff
unfolding final_pointer
second_variable-root = refl

-- no arcs, and the root 1
one-nodes : final_nodes 2 [] 2 0 ≡ []
unfolding final_pointer final_rows
one-nodes = refl

one-root : final_pointer 2 [] 0x8000_0000_0000_0001 ≡ 0x8000_0000_0000_0001
unfolding final_pointer
one-root = refl
