-- Where words stand among the names of signals.
use Rattle.std.specs.Prelude.{◌≡◌, ℕ, List, Option, Some, cond, Vec, unwrap_or}
use Rattle.std.specs.List.{position_from}
use Rattle.std.specs.Str.{bytes_eq}
use Rattle.std.specs.BTreeMap.{BTreeMap, get_by}
use Rattle.std.specs.Cmp.Lexicographic.{slice_cmp}
use Rattle.std.specs.Ordering.{nat_cmp}
use Rattle.std.specs.declared.alloc.Global.{Global}

-- an index from words to numbers
abbrev pub Index : Type 0
Index = BTreeMap (Vec ℕ Global) ℕ

-- the number of a word
unfoldable pub found_in : Index → List ℕ → Option ℕ
found_in index word = get_by (λ k. slice_cmp nat_cmp word k.items) index

-- the place of a word among names, counted from 0
abbrev pub place_of : List (List ℕ) → List ℕ → Option ℕ
place_of names word = position_from (bytes_eq word) 0 names

-- the signal of a word is its place among the names
abbrev pub signal_of : List (List ℕ) → List ℕ → ℕ
signal_of names word = unwrap_or (place_of names word) 0

-- the index after a word has got a number
abbrev pub Puts : Index → Index → List ℕ → ℕ → Type 0
Puts old new word n = (q : List ℕ) → found_in new q ≡ cond (bytes_eq word q) (Some n) (found_in old q)
