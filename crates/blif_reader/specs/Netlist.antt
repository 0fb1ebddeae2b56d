-- What an accepted netlist is: named signals, the inputs first, each block's inputs and cover, and the outputs.
use Rattle.std.specs.Prelude.{◌≡◌, ℕ, ◌+◌, ◌-◌, ◌<◌, ◌≤◌, ◌^◌, ◌==◌, Bool, true, false, List, [], ◌∷◌, ◌++◌, length, map, replicate, slice_index, nat_lt, not, Option, Some, None, Result, Ok, Err, if◌then◌else◌}
use Rattle.std.specs.List.{slice_index_or, list_any, list_all, filter, All}
use Rattle.rec_words.specs.Words.{most_variables}
use Rattle.depth_first.specs.Graph.{IsGraph, IsAcyclic, IsFirstOnCycle}
use Rattle.blif_reader.specs.declared.fault.BlifFault.{BlifFault}
use Rattle.blif_reader.specs.declared.fault.BlifKind.{BlifKind}
use Rattle.blif_reader.specs.declared.fault.BlifKind.TheVariants as fault
use Rattle.blif_reader.specs.declared.grammar.Kind.{Kind}
use Rattle.blif_reader.specs.declared.grammar.Kind.TheVariants as kind
use Rattle.blif_reader.specs.declared.parts.Part.TheVariants.{Inputs, Outputs, Blocks, Drivers, Uses}
use Rattle.blif_reader.specs.Grammar.{word_at, is_cell}
use Rattle.blif_reader.specs.Statements.{Statement, ◌>>=◌, parsed}
use Rattle.blif_reader.specs.Parts.{block_inputs, words_in, uses_in, lists_inputs, first_again, first_missing}
use Rattle.blif_reader.specs.Index.{place_of, signal_of}

-- the cover of a block: the line of the block, the output of its rows, and their characters
pub record Cover : Type 0 where
  pub line : ℕ
  pub value : Bool
  pub rows : List (List ℕ)

-- a netlist: the number of inputs, the names of all signals, the signals that each reads, the covers of the blocks, and
-- the outputs
pub record Net : Type 0 where
  pub inputs : ℕ
  pub names : List (List ℕ)
  pub edges : List (List ℕ)
  pub covers : List Cover
  pub outputs : List ℕ

-- the characters of a row; a row of a block without inputs has none
abbrev pub cells_of : List (List ℕ) → List ℕ
cells_of words = if length words == 1 then [] else word_at 0 words

-- a row, where the line is one, before those behind it
abbrev pub row_before : Kind → List (List ℕ) → List (List ℕ) → List (List ℕ)
row_before kind.Model words rows = []
row_before kind.Inputs words rows = []
row_before kind.Outputs words rows = []
row_before kind.Names words rows = []
row_before (kind.Row value) words rows = cells_of words ∷ rows
row_before kind.End words rows = []

-- the rows that stand directly behind a place of the text
abbrev pub rows_behind : List Statement → List (List ℕ)
rows_behind [] = []
rows_behind (s ∷ ss) = row_before s.kind s.words (rows_behind ss)

-- the output of a row
abbrev pub row_output : Kind → Bool
row_output kind.Model = true
row_output kind.Inputs = true
row_output kind.Outputs = true
row_output kind.Names = true
row_output (kind.Row value) = value
row_output kind.End = true

-- the output of those rows, and 1 where there is none
abbrev pub value_behind : List Statement → Bool
value_behind [] = true
value_behind (s ∷ ss) = row_output s.kind

-- a line begins a block
abbrev pub is_names : Kind → Bool
is_names kind.Model = false
is_names kind.Inputs = false
is_names kind.Outputs = false
is_names kind.Names = true
is_names (kind.Row value) = false
is_names kind.End = false

abbrev pub begins_block : Statement → Bool
begins_block s = is_names s.kind

-- the cover of the block that a line begins
abbrev pub block_cover : Statement → List Statement → Cover
block_cover s ss = record { line = s.line; value = value_behind ss; rows = rows_behind ss }

-- it stands before those of the blocks behind it
abbrev pub cover_before : Statement → List Statement → List Cover
cover_before s ss = if begins_block s then block_cover s ss ∷ [] else []

-- the covers of the blocks, in the order of the text
abbrev pub covers_of : List Statement → List Cover
covers_of [] = []
covers_of (s ∷ ss) = cover_before s ss ++ covers_of ss

-- the words that each block reads
abbrev pub reads_of : List Statement → List (List (List ℕ))
reads_of ss = map (λ s. block_inputs s.words) (filter begins_block ss)

-- the names of the signals: the inputs, and then the outputs of the blocks
abbrev pub names_of : List Statement → List (List ℕ)
names_of ss = words_in Inputs ss ++ words_in Blocks ss

-- the netlist of statements
abbrev pub net_of_text : List Statement → Net
net_of_text ss = record {
  inputs = length (words_in Inputs ss);
  names = names_of ss;
  edges = replicate (length (words_in Inputs ss)) [] ++ map (λ words. map (signal_of (names_of ss)) words)
      (reads_of ss);
  covers = covers_of ss;
  outputs = map (signal_of (names_of ss)) (words_in Outputs ss);
}

-- a fault on a line, where there is one, and else what follows
abbrev pub unless_on : {A : Type 0} → Option ℕ → BlifKind → Result A BlifFault → Result A BlifFault
unless_on None kind rest = rest
unless_on (Some line) kind rest = Err (record { line = line; kind = kind })

-- statements whose words are driven once each
abbrev pub driven_once : List Statement → Result (List Statement) BlifFault
driven_once ss =
    unless_on (first_again [] (uses_in Drivers ss)) fault.DrivenTwice
    (unless_on (first_missing (words_in Drivers ss) (uses_in Uses ss)) fault.Undriven (Ok ss))

-- statements that have inputs, not too many, and words that are driven once each
abbrev pub sound : List Statement → Result (List Statement) BlifFault
sound ss =
    if not (list_any lists_inputs ss) then Err (record { line = 0; kind = fault.NoInputs })
    else if nat_lt most_variables (length (words_in Inputs ss)) then Err (record { line = 0; kind = fault.TooManyVariables })
    else driven_once ss

-- the netlist of statements, or their first fault, but for cycles
abbrev pub netlist_of : List Statement → Result Net BlifFault
netlist_of ss = sound ss >>= λ ts. Ok (net_of_text ts)

-- the netlist that a text spells, or its first fault, but for cycles
unfoldable pub reading : List ℕ → Result Net BlifFault
reading bytes =
    if nat_lt 4194304 (length bytes) then Err (record { line = 0; kind = fault.TooLong })
    else parsed bytes >>= netlist_of

-- the line of the block that drives a signal
abbrev pub line_of_signal : Net → ℕ → ℕ
line_of_signal net s = (slice_index_or net.covers (s - net.inputs) (record { line = 0; value = true; rows = [] })).line

-- a netlist without cycles is accepted; the fault of another one is on the line of the first block that lies on a cycle
abbrev pub IsSettled : Net → Result Net BlifFault → Type 0
IsSettled net (Ok accepted) = (accepted ≡ net) × IsAcyclic net.edges
IsSettled net (Err f) = (s : ℕ) × IsFirstOnCycle net.edges s
    × (f ≡ record { line = line_of_signal net s; kind = fault.Cycle })

abbrev pub Settles : Result Net BlifFault → Result Net BlifFault → Type 0
Settles (Err f) result = result ≡ Err f
Settles (Ok net) result = IsSettled net result

-- what reading a text gives: the netlist, or its first fault
abbrev pub IsReading : List ℕ → Result Net BlifFault → Type 0
IsReading bytes result = Settles (reading bytes) result

-- a row has one character for each input of its block, each a 0, a 1 or a hyphen
pub record IsRow (inputs : ℕ) (cells : List ℕ) : Type 0 where
  pub size : length cells ≡ inputs
  pub characters : list_all is_cell cells ≡ true

-- what every netlist keeps, but for cycles: its inputs are few, its names differ, its numbers are those of signals, and
-- its rows have a character for each input
pub record IsTables (net : Net) : Type 0 where
  pub few : length net.names < 4294967294
  pub few_inputs : net.inputs ≤ most_variables
  pub apart : (s : ℕ) → s < length net.names → place_of net.names (slice_index_or net.names s []) ≡ Some s
  pub signals : length net.edges ≡ length net.names
  pub blocks : net.inputs + length net.covers ≡ length net.names
  pub graph : IsGraph net.edges
  pub leaves : (s : ℕ) → s < net.inputs → length (slice_index_or net.edges s []) ≡ 0
  pub outputs : (i : ℕ) → i < length net.outputs → slice_index net.outputs i < length net.names
  pub rows : (k : ℕ) → k < length net.covers
      → length (slice_index_or net.covers k (record { line = 0; value = true; rows = [] })).rows < 2 ^ 32
  pub cells : (k : ℕ) → k < length net.covers
      → All (IsRow (length (slice_index_or net.edges (net.inputs + k) [])))
      (slice_index_or net.covers k (record { line = 0; value = true; rows = [] })).rows

-- a netlist: its signals are numbered, and no block depends on itself
pub record IsNet (net : Net) : Type 0 where
  pub tables : IsTables net
  pub acyclic : IsAcyclic net.edges

-- a signal is the output of a block
pub record IsBlock (net : Net) (s : ℕ) : Type 0 where
  pub behind : net.inputs ≤ s
  pub inside : s < length net.names

-- its cover
abbrev pub cover_at : Net → ℕ → Cover
cover_at net s = slice_index_or net.covers (s - net.inputs) (record { line = 0; value = true; rows = [] })
