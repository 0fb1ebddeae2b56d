-- The words with which the lines of a script begin, and the words that stand behind each.
use Rattle.std.specs.Prelude.{ℕ, ◌%◌, Bool, true, false, not, ◌&&◌, ◌||◌, ◌==◌, nat_le, List, [], ◌∷◌, length, map}
use Rattle.std.specs.Prelude.{codes, Option, Some, None, option_map, Result, Ok, Err, if◌then◌else◌}
use Rattle.std.specs.List.{slice_index_or, list_any}
use Rattle.std.specs.Str.{bytes_eq}
use Rattle.bool_tables.specs.declared.steps.Bin.{Bin}
use Rattle.bool_tables.specs.declared.steps.Quant.TheVariants.{Exists, Forall}
use Rattle.text_words.specs.Text.{Word}
use Rattle.script_reader.specs.declared.fault.ScriptKind.{ScriptKind}
use Rattle.script_reader.specs.declared.fault.ScriptKind.TheVariants as kind
use Rattle.script_reader.specs.declared.keyword.Keyword.{Keyword}
use Rattle.script_reader.specs.declared.keyword.Keyword.TheVariants.{Vars, Inputs, Const, Var, Not, Pair}
use Rattle.script_reader.specs.declared.keyword.Keyword.TheVariants.{Ite, Quantify, Restrict, Net, Drop}
use Rattle.script_reader.specs.declared.keyword.Keyword.TheVariants.{Same, Leq, Eval, Size}

-- the word of a line at a place, the keyword's being 0
abbrev pub word_at : ℕ → List Word → Word
word_at k words = slice_index_or words k (record { at = 0; bytes = [] })

-- the bytes of words
abbrev pub texts_of : List Word → List (List ℕ)
texts_of words = map (λ (w : Word). w.bytes) words

-- the operator with these values, for left 0 and right 0, 0 and 1, 1 and 0, 1 and 1
abbrev pub op : Bool → Bool → Bool → Bool → Bin
op v00 v01 v10 v11 = record { v00 = v00; v01 = v01; v10 = v10; v11 = v11 }

-- the operator that a word names
abbrev pub operator_of : List ℕ → Option Bin
operator_of word =
    if bytes_eq word (codes "and") then Some (op false false false true)
    else if bytes_eq word (codes "or") then Some (op false true true true)
    else if bytes_eq word (codes "xor") then Some (op false true true false)
    else if bytes_eq word (codes "nand") then Some (op true true true false)
    else if bytes_eq word (codes "nor") then Some (op true false false false)
    else if bytes_eq word (codes "xnor") then Some (op true false false true)
    else if bytes_eq word (codes "imp") then Some (op true true false true)
    else None

-- what a word asks for that makes a diagram
abbrev pub diagram_of : List ℕ → Option Keyword
diagram_of word =
    if bytes_eq word (codes "const") then Some Const
    else if bytes_eq word (codes "var") then Some Var
    else if bytes_eq word (codes "not") then Some Not
    else if bytes_eq word (codes "ite") then Some Ite
    else if bytes_eq word (codes "exists") then Some (Quantify Exists)
    else if bytes_eq word (codes "forall") then Some (Quantify Forall)
    else if bytes_eq word (codes "restrict") then Some Restrict
    else option_map Pair (operator_of word)

-- what a word asks for
abbrev pub spelled : List ℕ → Option Keyword
spelled word =
    if bytes_eq word (codes "vars") then Some Vars
    else if bytes_eq word (codes "inputs") then Some Inputs
    else if bytes_eq word (codes "net") then Some Net
    else if bytes_eq word (codes "drop") then Some Drop
    else if bytes_eq word (codes "same") then Some Same
    else if bytes_eq word (codes "leq") then Some Leq
    else if bytes_eq word (codes "eval") then Some Eval
    else if bytes_eq word (codes "size") then Some Size
    else diagram_of word

-- it is one of the words that are known
abbrev pub is_known : List (List ℕ) → List ℕ → Bool
is_known known word = list_any (λ (it : List ℕ). bytes_eq it word) known

abbrev pub or_word : Option Keyword → Result Keyword ScriptKind
or_word None = Err kind.Word
or_word (Some k) = Ok k

-- what a word asks for, where it is known
abbrev pub keyword_of : List (List ℕ) → List ℕ → Result Keyword ScriptKind
keyword_of known word = if is_known known word then or_word (spelled word) else Err kind.Word

-- the words of all requests, with which the lines of the program's scripts may begin
abbrev pub built_words : List (List ℕ)
built_words =
    codes "vars" ∷ codes "inputs" ∷ codes "net" ∷ codes "const" ∷ codes "var" ∷ codes "not" ∷ codes "and" ∷ codes "or"
    ∷ codes "xor" ∷ codes "nand" ∷ codes "nor" ∷ codes "xnor" ∷ codes "imp" ∷ codes "ite" ∷ codes "exists"
    ∷ codes "forall" ∷ codes "restrict" ∷ codes "drop" ∷ codes "same" ∷ codes "leq" ∷ codes "eval" ∷ codes "size" ∷ []

-- a word that is 0 or 1
abbrev pub is_one : Word → Bool
is_one word = bytes_eq word.bytes (codes "1")

abbrev pub is_bit_word : Word → Bool
is_bit_word word = bytes_eq word.bytes (codes "0") || is_one word

-- the words of a line, the keyword among them, are as many as its request takes, and those that have to be 0 or 1 are;
-- variables are named on the first line with words; the bits of an evaluation may be left out where no variable is
abbrev pub is_formed : Bool → ℕ → Keyword → List Word → Bool
is_formed begun n Vars words = not begun
is_formed begun n Inputs words = not begun && (length words == 1)
is_formed begun n Const words = (length words == 3) && is_bit_word (word_at 2 words)
is_formed begun n Var words = length words == 3
is_formed begun n Not words = length words == 3
is_formed begun n (Pair op) words = length words == 4
is_formed begun n Ite words = length words == 5
is_formed begun n (Quantify kind) words = length words == 4
is_formed begun n Restrict words = (length words == 5) && is_bit_word (word_at 4 words)
is_formed begun n Net words = nat_le 3 (length words) && (length words % 2 == 1)
is_formed begun n Drop words = length words == 2
is_formed begun n Same words = length words == 3
is_formed begun n Leq words = length words == 3
is_formed begun n Eval words = (length words == 3) || ((length words == 2) && (n == 0))
is_formed begun n Size words = length words == 2

-- as many words has a line at least that begins so
abbrev pub wanted : Keyword → ℕ
wanted Vars = 1
wanted Inputs = 1
wanted Const = 3
wanted Var = 3
wanted Not = 3
wanted (Pair op) = 4
wanted Ite = 5
wanted (Quantify kind) = 4
wanted Restrict = 5
wanted Net = 3
wanted Drop = 2
wanted Same = 3
wanted Leq = 3
wanted Eval = 2
wanted Size = 2

-- the second word is a name that is given to a diagram
abbrev pub gives_name : Keyword → Bool
gives_name Vars = false
gives_name Inputs = false
gives_name Const = true
gives_name Var = true
gives_name Not = true
gives_name (Pair op) = true
gives_name Ite = true
gives_name (Quantify kind) = true
gives_name Restrict = true
gives_name Net = false
gives_name Drop = false
gives_name Same = false
gives_name Leq = false
gives_name Eval = false
gives_name Size = false
