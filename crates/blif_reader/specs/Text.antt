-- Joined lines and words of a netlist's bytes.
use Rattle.std.specs.Prelude.{ℕ, ◌-◌, Bool, not, ◌==◌, List, [], ◌∷◌, ◌++◌, length, map, take, filter, slice_index, if◌then◌else◌}
use Rattle.std.specs.List.{slice_split, suffix_len}
use Rattle.text_words.specs.Text as text
use Rattle.text_words.specs.Text.{is_feed, is_blank, numbered, words_from}

-- a text without the blanks at its end
abbrev pub trimmed : List ℕ → List ℕ
trimmed text = take (length text - suffix_len is_blank text) text

-- what is left of a line without its comment and its trailing blanks
abbrev pub code_of : List ℕ → List ℕ
code_of line = trimmed (text.code_of line)

-- the next line is joined to a line whose code ends with a backslash
abbrev pub goes_on : List ℕ → Bool
goes_on code = slice_index code (length code - 1) == 92

-- the words of a text are what stands between its blanks
abbrev pub words_of : List ℕ → List (List ℕ)
words_of text = map (λ w. w.bytes) (words_from 0 text)

-- the code of a line without the backslash that joins the next line to it
abbrev pub text_of : List ℕ → List ℕ
text_of code = if goes_on code then take (length code - 1) code else code

-- the number of a line and its words; a joined line has the number of its first
pub record Line : Type 0 where
  pub number : ℕ
  pub words : List (List ℕ)

-- words of line n, before the words of the lines that are joined to it
abbrev pub onto : ℕ → List (List ℕ) → List Line → List Line
onto n words [] = record { number = n; words = words } ∷ []
onto n words (l ∷ ls) = record { number = n; words = words ++ l.words } ∷ ls

-- lines, joined where a backslash joins them
unfoldable pub joined : List text.Line → List Line
joined [] = []
joined (l ∷ ls) =
    if goes_on (code_of l.bytes) then onto l.number (words_of (text_of (code_of l.bytes))) (joined ls)
    else record { number = l.number; words = words_of (text_of (code_of l.bytes)) } ∷ joined ls

-- the words of the first of some lines
abbrev pub first_words : List Line → List (List ℕ)
first_words [] = []
first_words (l ∷ ls) = l.words

-- the words of the line that a text begins with, where it has the number n
abbrev pub words_at : ℕ → List ℕ → List (List ℕ)
words_at n text = first_words (joined (numbered n 0 (slice_split is_feed text)))

-- a line means something where it has words
abbrev pub has_words : Line → Bool
has_words l = not (length l.words == 0)

-- the lines that have words
abbrev pub lines_of : List ℕ → List Line
lines_of bytes = filter has_words (joined (text.lines_of bytes))
