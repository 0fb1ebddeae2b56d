-- What each line of a netlist is, by its words and by what stands before it.
use Rattle.std.specs.Prelude.{ℕ, ◌-◌, ◌==◌, ◌||◌, ◌&&◌, Bool, true, false, List, [], ◌∷◌, length, Option, Some, None, Result, Ok, Err, codes, if◌then◌else◌}
use Rattle.std.specs.List.{slice_index_or, list_all}
use Rattle.std.specs.Str.{bytes_eq}
use Rattle.blif_reader.specs.declared.fault.BlifKind.{BlifKind}
use Rattle.blif_reader.specs.declared.fault.BlifKind.TheVariants as fault
use Rattle.blif_reader.specs.declared.grammar.Kind.{Kind}
use Rattle.blif_reader.specs.declared.grammar.Kind.TheVariants.{Model, Inputs, Outputs, Names, Row, End}
use Rattle.blif_reader.specs.declared.grammar.Context.{Context}
use Rattle.blif_reader.specs.declared.grammar.Context.TheVariants.{Start, Between, Block, Ended}

-- what the words of a line say of its kind: the first two, and how many there are
pub record Shape : Type 0 where
  pub first : List ℕ
  pub second : List ℕ
  pub count : ℕ

-- the word at a place, counted from 0
abbrev pub word_at : ℕ → List (List ℕ) → List ℕ
word_at k words = slice_index_or words k []

-- the shape of words; it has empty words where there are none
abbrev pub shape_of : List (List ℕ) → Shape
shape_of words = record { first = word_at 0 words; second = word_at 1 words; count = length words }

-- a keyword begins with a full stop
abbrev pub is_dotted : List ℕ → Bool
is_dotted [] = false
is_dotted (b ∷ bs) = b == 46

-- what a line is that begins with this keyword and has so many words; a block needs an output
abbrev pub keyword_of : List ℕ → ℕ → Result Kind BlifKind
keyword_of word count =
    if bytes_eq word (codes ".inputs") then Ok Inputs
    else if bytes_eq word (codes ".outputs") then Ok Outputs
    else if bytes_eq word (codes ".names") then (if count == 1 then Err fault.Row else Ok Names)
    else if bytes_eq word (codes ".end") then Ok End
    else Err fault.Keyword

-- a row has a 0, a 1 or a hyphen for each input
abbrev pub is_cell : ℕ → Bool
is_cell b = (b == 48) || (b == 49) || (b == 45)

-- the output of a row is the word 0 or the word 1
abbrev pub digit_of : List ℕ → Option Bool
digit_of word =
    if bytes_eq word (codes "0") then Some false
    else if bytes_eq word (codes "1") then Some true
    else None

-- the output of a row of a block with so many inputs, where the words are such a row
abbrev pub row_value : ℕ → Shape → Option Bool
row_value inputs s =
    if inputs == 0 then (if s.count == 1 then digit_of s.first else None)
    else if (s.count == 2) && (length s.first == inputs) && list_all is_cell s.first then digit_of s.second
    else None

-- the same output
abbrev pub is_same : Bool → Bool → Bool
is_same true b = b
is_same false true = false
is_same false false = true

-- a row has the output of the first row
abbrev pub row_beside : Option Bool → Option Bool → Result Kind BlifKind
row_beside first None = Err fault.Row
row_beside None (Some value) = Ok (Row value)
row_beside (Some other) (Some value) = if is_same other value then Ok (Row value) else Err fault.MixedOutputs

-- what a line is that begins with no keyword: a row of the block at hand
abbrev pub row_of : Context → Shape → Result Kind BlifKind
row_of Start s = Err fault.Row
row_of Between s = Err fault.Row
row_of (Block inputs first) s = row_beside first (row_value inputs s)
row_of Ended s = Err fault.Row

-- what a line is before which a model stands, and no end
abbrev pub inner_kind : Context → Shape → Result Kind BlifKind
inner_kind context s = if is_dotted s.first then keyword_of s.first s.count else row_of context s

-- what a line is: the first is the model's, and none stands after the end
abbrev pub kind_in : Context → Shape → Result Kind BlifKind
kind_in Start s = if bytes_eq s.first (codes ".model") then Ok Model else Err fault.NoModel
kind_in Between s = inner_kind Between s
kind_in (Block inputs first) s = inner_kind (Block inputs first) s
kind_in Ended s = Err fault.Keyword

abbrev pub kind_of : Context → List (List ℕ) → Result Kind BlifKind
kind_of context words = kind_in context (shape_of words)

-- the block at hand has a row with this output
abbrev pub with_row : Context → Bool → Context
with_row Start value = Between
with_row Between value = Between
with_row (Block inputs first) value = Block inputs (Some value)
with_row Ended value = Between

-- what stands before the line behind one of so many words
abbrev pub after : Context → Kind → ℕ → Context
after context Model count = Between
after context Inputs count = Between
after context Outputs count = Between
after context Names count = Block (count - 2) None
after context (Row value) count = with_row context value
after context End count = Ended
