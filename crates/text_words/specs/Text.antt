-- The lines of a text and the words of a line, with their places.
use Rattle.std.specs.Prelude.{ℕ, suc, ◌+◌, Bool, ◌||◌, not, ◌==◌, List, [], ◌∷◌, length, filter, Option, Some, None}
use Rattle.std.specs.List.{slice_split, before_first}

-- a line feed ends a line
abbrev pub is_feed : ℕ → Bool
is_feed b = b == 10

-- a number sign begins a comment
abbrev pub is_hash : ℕ → Bool
is_hash b = b == 35

-- a blank, a tab or a carriage return separates words
abbrev pub is_blank : ℕ → Bool
is_blank b = (b == 32) || (b == 9) || (b == 13)

-- every other byte belongs to a word
abbrev pub is_inner : ℕ → Bool
is_inner b = not (is_blank b)

-- the number of a line, counted from 1, the place of its first byte, counted from 0, and its bytes
pub record Line : Type 0 where
  pub number : ℕ
  pub at : ℕ
  pub bytes : List ℕ

-- a word: the place of its first byte, and its bytes
pub record Word : Type 0 where
  pub at : ℕ
  pub bytes : List ℕ

-- lines with the numbers from n on, that stand one byte apart, the first at a place
abbrev pub numbered : ℕ → ℕ → List (List ℕ) → List Line
numbered n at [] = []
numbered n at (l ∷ ls) = record { number = n; at = at; bytes = l } ∷ numbered (n + 1) (at + length l + 1) ls

-- the lines of a text are what stands between its line feeds
abbrev pub lines_of : List ℕ → List Line
lines_of text = numbered 1 0 (slice_split is_feed text)

-- a line without its comment
abbrev pub code_of : List ℕ → List ℕ
code_of line = before_first is_hash line

-- pieces that stand one byte apart, the first at a place
abbrev pub placed : ℕ → List (List ℕ) → List Word
placed at [] = []
placed at (p ∷ ps) = record { at = at; bytes = p } ∷ placed (at + length p + 1) ps

-- a word has a byte
abbrev pub has_bytes : Word → Bool
has_bytes w = not (length w.bytes == 0)

-- the words of a text, whose first byte has a place, are what stands between its blanks
abbrev pub words_from : ℕ → List ℕ → List Word
words_from at text = filter has_bytes (placed at (slice_split is_blank text))

-- the words of a line are those in front of its comment
abbrev pub words_in : Line → List Word
words_in l = words_from l.at (code_of l.bytes)

-- the lines of a text, which has none where it is absent
abbrev pub pieces_of : Option (List ℕ) → List (List ℕ)
pieces_of None = []
pieces_of (Some text) = slice_split is_feed text

-- how much is left: one more than the bytes, and nothing where no line is left
abbrev pub rest_len : Option (List ℕ) → ℕ
rest_len None = 0
rest_len (Some text) = suc (length text)
