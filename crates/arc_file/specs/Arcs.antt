-- Arcs, and the records that they are stored as.
use Rattle.std.specs.Prelude.{ℕ, ◌+◌, ◌^◌, Bool, true, false, List, [], ◌∷◌}
use Rattle.rec_words.specs.Words.{IsNodeWord, IsPointer}
use Rattle.arc_file.specs.declared.arc.Arc.{Arc}

-- the bytes of an arc
abbrev pub arc_size : ℕ
arc_size = 16

-- the word of a source and a side: bit 63 is set on the high one
abbrev pub side_word : Bool → ℕ → ℕ
side_word false source = source
side_word true source = source + 2 ^ 63

-- an arc's two words, and the six that it leaves unused
abbrev pub arc_words : Arc → List ℕ
arc_words a = side_word a.high a.source ∷ a.target ∷ 0 ∷ 0 ∷ 0 ∷ 0 ∷ 0 ∷ 0 ∷ []

-- its words are those of a node and of a pointer
pub record IsArc (a : Arc) : Type 0 where
  pub source_is : IsNodeWord a.source
  pub target_is : IsPointer a.target
