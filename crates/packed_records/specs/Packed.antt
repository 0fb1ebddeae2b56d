-- The packed records of a room, four in the place of one.
use Rattle.std.specs.Prelude.{ℕ, List, [], ◌∷◌}
use Rattle.rec_words.specs.declared.rec.Rec.{Rec}
use Rattle.packed_records.specs.Numbers.{widened, in_quarter}

-- the record whose four words stand in a quarter of another one
abbrev pub quarter_of : Rec → ℕ → Rec
quarter_of r q = record {
  w = widened (in_quarter r q 0) ∷ widened (in_quarter r q 1) ∷ widened (in_quarter r q 2)
      ∷ widened (in_quarter r q 3) ∷ 0 ∷ 0 ∷ 0 ∷ 0 ∷ [];
}

-- the packed records of a room
abbrev pub packed : List Rec → List Rec
packed [] = []
packed (r ∷ rs) = quarter_of r 0 ∷ quarter_of r 1 ∷ quarter_of r 2 ∷ quarter_of r 3 ∷ packed rs
