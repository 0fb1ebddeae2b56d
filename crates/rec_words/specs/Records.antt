-- the records that values are stored as
use Rattle.std.specs.Prelude.{◌≡◌, ℕ, ◌<◌, ◌^◌, List, [], ◌∷◌, All, length}
use Rattle.rec_words.specs.Words.{IsNodeWord, IsPointer}
use Rattle.rec_words.specs.declared.rec.Rec.{Rec}
use Rattle.rec_words.specs.declared.node.Node.{Node}

-- it has eight words of 64 bits
pub record IsRec (r : Rec) : Type 0 where
  pub eight : length r.w ≡ 8
  pub fits : All (λ word. word < 2 ^ 64) r.w

-- a node's three words, and the five that it leaves unused
abbrev pub node_words : Node → List ℕ
node_words x = x.uid ∷ x.low ∷ x.high ∷ 0 ∷ 0 ∷ 0 ∷ 0 ∷ 0 ∷ []

-- its words are those of a node and of two pointers
pub record IsNode (x : Node) : Type 0 where
  pub uid : IsNodeWord x.uid
  pub low : IsPointer x.low
  pub high : IsPointer x.high
