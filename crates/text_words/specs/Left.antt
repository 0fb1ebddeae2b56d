-- The lines and words that are left to be read.
use Rattle.std.specs.Prelude.{List, option_map}
use Rattle.text_words.specs.declared.lines.Line as shown_line
use Rattle.text_words.specs.declared.words.Word as shown_word
use Rattle.text_words.specs.declared.lines.Lines.{Lines}
use Rattle.text_words.specs.declared.words.Words.{Words}
use Rattle.text_words.specs.Text.{Line, Word, numbered, words_from, pieces_of}

-- a line in memory
abbrev pub line_of : shown_line.Line → Line
line_of l = record { number = l.number; at = l.at; bytes = l.bytes.now }

-- a word in memory
abbrev pub word_of : shown_word.Word → Word
word_of w = record { at = w.at; bytes = w.bytes.now }

-- the lines that are left
abbrev pub lines_left : Lines → List Line
lines_left s = numbered s.number s.at (pieces_of (option_map (λ b. b.now) s.rest))

-- the words that are left
abbrev pub words_left : Words → List Word
words_left s = words_from s.at s.rest.now
