-- What the reader's lines and words stand for.
use Rattle.std.specs.Prelude.{◌≡◌, ◌<◌, ℕ, ◌+◌, ◌==◌, Bool, List, [], ◌∷◌, ◌++◌, length, map, fold, if◌then◌else◌}
use Rattle.text_words.specs.Text as text
use Rattle.text_words.specs.Left as left
use Rattle.blif_reader.specs.declared.line.Line as declared
use Rattle.blif_reader.specs.declared.lines.JoinedWords.{JoinedWords}
use Rattle.blif_reader.specs.declared.grammar.Shape as shown
use Rattle.blif_reader.specs.Grammar.{Shape, shape_of}
use Rattle.blif_reader.specs.Text.{Line, joined, first_words, words_at}

-- a shape in memory
abbrev pub shape_in : shown.Shape → Shape
shape_in s = record { first = s.first.now; second = s.second.now; count = s.count }

-- the shape of no words
abbrev pub no_shape : Shape
no_shape = record { first = []; second = []; count = 0 }

-- one word more
abbrev pub with_word : Shape → List ℕ → Shape
with_word s w = record {
  first = if s.count == 0 then w else s.first;
  second = if s.count == 1 then w else s.second;
  count = s.count + 1;
}

-- some words more
abbrev pub with_words : Shape → List (List ℕ) → Shape
with_words s ws = fold with_word s ws

-- the words of the lines that are joined to a line, where lines are
abbrev pub words_joined : Bool → List text.Line → List (List ℕ)
words_joined joins ls = if joins then first_words (joined ls) else []

-- the words that are left of a line
abbrev pub words_left : JoinedWords → List (List ℕ)
words_left w = map (λ x. x.bytes) (left.words_left w.words) ++ words_joined w.joins (left.lines_left w.lines)

-- a line as the grammar has it
abbrev pub line_of : declared.Line → Line
line_of l = record { number = l.number; words = words_at l.number l.text.now }

-- a line shows what its words say of its kind
abbrev pub IsShown : declared.Line → Type 0
IsShown l = shape_in l.shape ≡ shape_of (words_at l.number l.text.now)

-- a line was read off lines, and shows what it is
pub record IsNext (old : List text.Line) (l : declared.Line) (new : List text.Line) : Type 0 where
  pub first : joined old ≡ line_of l ∷ joined new
  pub shown : IsShown l
  pub fewer : length new < length old
