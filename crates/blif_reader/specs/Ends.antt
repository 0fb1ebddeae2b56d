-- Words whose bytes stand end to end.
use Rattle.std.specs.Prelude.{◌≡◌, ℕ, ◌-◌, ◌<◌, ◌≤◌, List, [], ◌∷◌, length, take, drop}
use Rattle.std.specs.List.{slice_index_or}

-- places in ascending order, from one on, of which the last is a text's end
abbrev pub AreEnds : ℕ → List ℕ → ℕ → Type 0
AreEnds from [] size = from ≡ size
AreEnds from (e ∷ es) size = (from ≤ e) × AreEnds e es size

-- each place is behind the one before it, and within a text
pub record AreWithin (ends : List ℕ) (size : ℕ) : Type 0 where
  pub rise : (k : ℕ) → k < length ends → slice_index_or (0 ∷ ends) k 0 ≤ slice_index_or ends k 0
  pub within : (k : ℕ) → k < length ends → slice_index_or ends k 0 ≤ size

-- the words that end at these places, the first of which begins at a place
unfoldable pub words_between : ℕ → List ℕ → List ℕ → List (List ℕ)
words_between from [] bytes = []
words_between from (e ∷ es) bytes = take (e - from) (drop from bytes) ∷ words_between e es bytes

-- places and bytes that hold some words
pub record Holds (ends bytes : List ℕ) (words : List (List ℕ)) : Type 0 where
  pub same : words_between 0 ends bytes ≡ words
  pub placed : AreEnds 0 ends (length bytes)
