-- What the statements of a netlist say together: who drives and who uses which words, and the blocks.
use Rattle.std.specs.Prelude.{ℕ, ◌-◌, Bool, true, false, not, List, [], ◌∷◌, ◌++◌, length, take, drop, map, Option, Some, None, option_map, find, if◌then◌else◌}
use Rattle.std.specs.List.{list_any, flat_map}
use Rattle.std.specs.Str.{bytes_eq}
use Rattle.blif_reader.specs.declared.grammar.Kind.{Kind}
use Rattle.blif_reader.specs.declared.grammar.Kind.TheVariants as kind
use Rattle.blif_reader.specs.declared.parts.Part.{Part}
use Rattle.blif_reader.specs.declared.parts.Part.TheVariants.{Inputs, Outputs, Blocks, Drivers, Uses}
use Rattle.blif_reader.specs.Statements.{Statement}

-- a word, and the line that it stands on
pub record Use : Type 0 where
  pub line : ℕ
  pub word : List ℕ

-- words of one line
abbrev pub on_each : ℕ → List (List ℕ) → List Use
on_each n words = map (λ w. record { line = n; word = w }) words

-- the words behind the keyword
abbrev pub arguments : List (List ℕ) → List (List ℕ)
arguments words = drop 1 words

-- the last word of a block's line is its output
abbrev pub block_output : List (List ℕ) → List (List ℕ)
block_output words = drop (length words - 1) words

-- those between it and the keyword are its inputs
abbrev pub block_inputs : List (List ℕ) → List (List ℕ)
block_inputs words = take (length words - 2) (drop 1 words)

-- the words that are inputs of the netlist
abbrev pub input_words : Kind → List (List ℕ) → List (List ℕ)
input_words kind.Model words = []
input_words kind.Inputs words = arguments words
input_words kind.Outputs words = []
input_words kind.Names words = []
input_words (kind.Row v) words = []
input_words kind.End words = []

-- the words that are its outputs
abbrev pub output_words : Kind → List (List ℕ) → List (List ℕ)
output_words kind.Model words = []
output_words kind.Inputs words = []
output_words kind.Outputs words = arguments words
output_words kind.Names words = []
output_words (kind.Row v) words = []
output_words kind.End words = []

-- the word that a block drives
abbrev pub block_words : Kind → List (List ℕ) → List (List ℕ)
block_words kind.Model words = []
block_words kind.Inputs words = []
block_words kind.Outputs words = []
block_words kind.Names words = block_output words
block_words (kind.Row v) words = []
block_words kind.End words = []

-- the words that a block reads
abbrev pub read_words : Kind → List (List ℕ) → List (List ℕ)
read_words kind.Model words = []
read_words kind.Inputs words = []
read_words kind.Outputs words = []
read_words kind.Names words = block_inputs words
read_words (kind.Row v) words = []
read_words kind.End words = []

-- an input and a block's output are driven; an output and what a block reads are used
abbrev pub part_words : Part → Kind → List (List ℕ) → List (List ℕ)
part_words Inputs kind words = input_words kind words
part_words Outputs kind words = output_words kind words
part_words Blocks kind words = block_words kind words
part_words Drivers kind words = input_words kind words ++ block_words kind words
part_words Uses kind words = output_words kind words ++ read_words kind words

-- one part of all statements, in the order of the text
abbrev pub part_of : Part → Statement → List Use
part_of part s = on_each s.line (part_words part s.kind s.words)

abbrev pub uses_in : Part → List Statement → List Use
uses_in part ss = flat_map (part_of part) ss

-- its words
abbrev pub words_in : Part → List Statement → List (List ℕ)
words_in part ss = map (λ u. u.word) (uses_in part ss)

-- a line lists inputs
abbrev pub lists_inputs : Statement → Bool
lists_inputs s = is_inputs s.kind where
  is_inputs : Kind → Bool
  is_inputs kind.Model = false
  is_inputs kind.Inputs = true
  is_inputs kind.Outputs = false
  is_inputs kind.Names = false
  is_inputs (kind.Row v) = false
  is_inputs kind.End = false

-- a word is one of some words
abbrev pub is_one : List (List ℕ) → List ℕ → Bool
is_one words w = list_any (bytes_eq w) words

-- the line of the first use whose word stands before it already
unfoldable pub first_again : List (List ℕ) → List Use → Option ℕ
first_again before [] = None
first_again before (u ∷ us) = if is_one before u.word then Some u.line else first_again (before ++ u.word ∷ []) us

-- the line of the first use of a word that isn't one of some words
abbrev pub first_missing : List (List ℕ) → List Use → Option ℕ
first_missing words us = option_map (λ u. u.line) (find (λ u. not (is_one words u.word)) us)
