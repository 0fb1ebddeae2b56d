-- What the lines of a script ask for that name signals of a netlist, and what its plan has for them.
use Rattle.std.specs.Prelude.{◌≡◌, ℕ, suc, ◌+◌, ◌<◌, false, List, [], ◌∷◌, length, take, drop, codes, slice_index}
use Rattle.std.specs.Prelude.{Some, if◌then◌else◌}
use Rattle.std.specs.List.{All, Any, slice_index_or}
use Rattle.std.specs.Str.{bytes_eq}
use Rattle.bool_tables.specs.Steps.{plan_tables, table_of_step}
use Rattle.bool_tables.specs.declared.steps.Step.TheVariants.{Const}
use Rattle.text_words.specs.Text.{Line, Word, lines_of, words_in}
use Rattle.blif_reader.specs.Index as index
use Rattle.blif_reader.specs.Netlist.{Net}
use Rattle.net_plan.specs.Values.{IsTableOf}
use Rattle.script_reader.specs.declared.plan.LineEnd.{LineEnd}
use Rattle.script_reader.specs.declared.plan.Plan.{Plan}
use Rattle.script_reader.specs.Keywords.{word_at, texts_of}
use Rattle.script_reader.specs.Names.{place_of}
use Rattle.script_reader.specs.Nets.{inputs_of, nameless}
use Rattle.script_reader.specs.Reads.{Reads}

-- a pair of a line: the name that it gives, and the name of the signal
pub record SignalPair : Type 0 where
  pub name : List ℕ
  pub signal : List ℕ

-- names and signals in turn
abbrev pub pairs_of : List Word → List SignalPair
pairs_of [] = []
pairs_of (name ∷ []) = []
pairs_of (name ∷ signal ∷ words) = record { name = name.bytes; signal = signal.bytes } ∷ pairs_of words

-- the pairs of a line that asks for signals stand behind its first word
abbrev pub pairs_in : Line → List SignalPair
pairs_in line = pairs_of (drop 1 (words_in line))

-- a line asks for signals
abbrev pub IsNetLine : Line → Type 0
IsNetLine line = (word_at 0 (words_in line)).bytes ≡ codes "net"

-- some words, or where there are none some others
abbrev pub or_words : List Word → List Word → List Word
or_words [] others = others
or_words (word ∷ words) others = word ∷ words

-- the words of the first line that has some
abbrev pub first_words : List Line → List Word
first_words [] = []
first_words (line ∷ lines) = or_words (words_in line) (first_words lines)

-- the variables that such a line names, or takes from the netlist, in the order of their levels
abbrev pub variables_in : Net → List Word → List (List ℕ)
variables_in net words =
    if bytes_eq (word_at 0 words).bytes (codes "vars") then texts_of (drop 1 words)
    else if bytes_eq (word_at 0 words).bytes (codes "inputs") then inputs_of net
    else []

-- the variables of a script
abbrev pub variables_of : Net → List ℕ → List (List ℕ)
variables_of net text = variables_in net (first_words (lines_of text))

-- the level of each input is the place of the variable with its name
pub record AreLevels (net : Net) (variables : List (List ℕ)) (levels : List ℕ) : Type 0 where
  pub each : length levels ≡ net.inputs
  pub places : (i : ℕ) → i < net.inputs
      → place_of variables (slice_index_or net.names i []) ≡ Some (slice_index levels i)

-- a text up to the end of one of its lines
abbrev pub text_up_to : List ℕ → Line → List ℕ
text_up_to text line = take (line.at + length line.bytes) text

-- the name that a text has for a step of its plan
abbrev pub name_of_step : List ℕ → Plan → ℕ → List ℕ
name_of_step text plan k =
    let it = slice_index_or plan.steps k (nameless (Const false)) in take it.name_len (drop it.name_at text)

-- the table of a step of a script's plan is that of the signal with a name, where each input of the netlist is the
-- variable with the input's name
pub record MakesSignal (net : Net) (text : List ℕ) (plan : Plan) (name : List ℕ) (k : ℕ) : Type 0 where
  pub signal : ℕ
  pub is_signal : index.place_of net.names name ≡ Some signal
  pub levels : List ℕ
  pub are_levels : AreLevels net (variables_of net text) levels
  pub table : IsTableOf plan.n net levels signal (table_of_step (plan_tables plan.n plan.steps) k)

-- a said line is that of a pair of a line: it has the line's number, comes after the last step that the text up to the
-- line's end asks for, and shows a step with the pair's name that makes the pair's signal
pub record IsSignalLine (net : Net) (text : List ℕ) (plan : Plan) (line : Line) (pair : SignalPair) (said : LineEnd)
    : Type 0 where
  pub of_line : said.line ≡ line.number
  pub front : Plan
  pub asked : Reads (Some net) (text_up_to text line) front
  pub last : suc said.last ≡ length front.steps
  pub named : name_of_step text plan said.shows ≡ pair.name
  pub shown : MakesSignal net text plan pair.signal said.shows

-- each pair of each line that asks for signals has its said line in the plan
abbrev pub MakesSignals : Net → List ℕ → Plan → Type 0
MakesSignals net text plan = All (λ line. IsNetLine line
    → All (λ pair. Any (IsSignalLine net text plan line pair) plan.lines) (pairs_in line)) (lines_of text)
