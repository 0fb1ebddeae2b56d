-- The plan of a script, or its first faulty line and the kind of its fault.
use Rattle.std.specs.Prelude.{ℕ, ◌+◌, true, nat_le, List, [], ◌∷◌, length, drop, Option, Result, Ok, Err}
use Rattle.std.specs.Prelude.{if◌then◌else◌}
use Rattle.rec_words.specs.Words.{most_variables}
use Rattle.text_words.specs.Text.{Word, Line, lines_of, words_in}
use Rattle.blif_reader.specs.Netlist as blif
use Rattle.script_reader.specs.declared.fault.ScriptKind.{ScriptKind}
use Rattle.script_reader.specs.declared.fault.ScriptKind.TheVariants as kind
use Rattle.script_reader.specs.declared.fault.ScriptFault.{ScriptFault}
use Rattle.script_reader.specs.declared.keyword.Keyword.{Keyword}
use Rattle.script_reader.specs.declared.keyword.Keyword.TheVariants.{Vars, Inputs, Const, Var, Not, Pair}
use Rattle.script_reader.specs.declared.keyword.Keyword.TheVariants.{Ite, Quantify, Restrict, Net, Drop}
use Rattle.script_reader.specs.declared.keyword.Keyword.TheVariants.{Same, Leq, Eval, Size}
use Rattle.script_reader.specs.declared.plan.Plan.{Plan}
use Rattle.script_reader.specs.Results.{◌>>=◌, check, on_line}
use Rattle.script_reader.specs.Keywords.{word_at, texts_of, keyword_of, is_formed}
use Rattle.script_reader.specs.Names.{State, nothing, all_differ, with_variables}
use Rattle.script_reader.specs.Nets.{plan_inputs, plan_net}
use Rattle.script_reader.specs.Requests.{plan_step}

-- a line that names the variables: all differ, and they are no more than a script may have
abbrev pub plan_vars : State → List Word → Result State ScriptKind
plan_vars s words =
    check kind.Variable (all_differ (texts_of (drop 1 words))) >>= λ _.
    check kind.TooManyVariables (nat_le (length words) (most_variables + 1)) >>= λ _.
    Ok (with_variables s (texts_of (drop 1 words)))

-- a line by its keyword, where its words are as many as they have to be
abbrev pub plan_request : Option blif.Net → State → ℕ → Keyword → List Word → Result State ScriptKind
plan_request netlist s number Vars words = plan_vars s words
plan_request netlist s number Inputs words = plan_inputs netlist s
plan_request netlist s number Net words = plan_net netlist s number words
plan_request netlist s number Const words = plan_step s number Const words
plan_request netlist s number Var words = plan_step s number Var words
plan_request netlist s number Not words = plan_step s number Not words
plan_request netlist s number (Pair op) words = plan_step s number (Pair op) words
plan_request netlist s number Ite words = plan_step s number Ite words
plan_request netlist s number (Quantify kind) words = plan_step s number (Quantify kind) words
plan_request netlist s number Restrict words = plan_step s number Restrict words
plan_request netlist s number Drop words = plan_step s number Drop words
plan_request netlist s number Same words = plan_step s number Same words
plan_request netlist s number Leq words = plan_step s number Leq words
plan_request netlist s number Eval words = plan_step s number Eval words
plan_request netlist s number Size words = plan_step s number Size words

-- what is known once a line with words began
abbrev pub begin : State → State
begin s = record s { begun = true }

-- what the first word of a line asks for, where the line has the words of such a request
abbrev pub keyword_in : List (List ℕ) → State → List Word → Result Keyword ScriptKind
keyword_in known s words =
    keyword_of known (word_at 0 words).bytes >>= λ k. check kind.Word (is_formed s.begun s.n k words) >>= λ _. Ok k

-- a line with words: what is known behind it, or its first fault
abbrev pub plan_words : List (List ℕ) → Option blif.Net → State → ℕ → List Word → Result State ScriptKind
plan_words known netlist s number words = keyword_in known s words >>= λ k. plan_request netlist
    (begin s) number k words

-- a line, by its words; one without words means nothing
abbrev pub plan_line : List (List ℕ) → Option blif.Net → State → ℕ → List Word → Result State ScriptKind
plan_line known netlist s number [] = Ok s
plan_line known netlist s number (word ∷ words) = plan_words known netlist s number (word ∷ words)

-- a line behind others, of which none is at fault
abbrev pub behind : List (List ℕ) → Option blif.Net → Result State ScriptFault → Line → Result State ScriptFault
behind known netlist (Ok s) line = on_line line.number (plan_line known netlist s line.number (words_in line))
behind known netlist (Err fault) line = Err fault

-- lines behind others, up to the first fault
abbrev pub plan_lines : List (List ℕ) → Option blif.Net → Result State ScriptFault → List Line
    → Result State ScriptFault
plan_lines known netlist before [] = before
plan_lines known netlist before (line ∷ lines) = plan_lines known netlist (behind known netlist before line) lines

-- the plan of what is known behind all lines
abbrev pub plan_of : Result State ScriptFault → Result Plan ScriptFault
plan_of (Ok s) = Ok (record { n = s.n; steps = s.steps; lines = s.lines })
plan_of (Err fault) = Err fault

-- the plan of a script of at most 1,048,576 bytes, or its first fault, where a netlist may be given
unfoldable pub read : List (List ℕ) → Option blif.Net → List ℕ → Result Plan ScriptFault
read known netlist bytes =
    if nat_le (length bytes) 1048576 then plan_of (plan_lines known netlist (Ok nothing) (lines_of bytes))
    else Err (record { line = 0; kind = kind.TooLong })
