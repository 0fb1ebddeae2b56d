-- A netlist as statements, line by line.
use Rattle.std.specs.Prelude.{◌≡◌, ℕ, List, [], ◌∷◌, length, Result, Ok, Err}
use Rattle.blif_reader.specs.declared.fault.BlifFault.{BlifFault}
use Rattle.blif_reader.specs.declared.fault.BlifKind.{BlifKind}
use Rattle.blif_reader.specs.declared.fault.BlifKind.TheVariants.{NoModel}
use Rattle.blif_reader.specs.declared.fault.Refusal.{Refusal}
use Rattle.blif_reader.specs.declared.fault.Refusal.TheVariants as refusals
use Rattle.blif_reader.specs.declared.grammar.Kind.{Kind}
use Rattle.blif_reader.specs.declared.grammar.Context.{Context}
use Rattle.blif_reader.specs.declared.grammar.Context.TheVariants.{Start, Between, Block, Ended}
use Rattle.blif_reader.specs.declared.statement.Statement as declared
use Rattle.blif_reader.specs.Text.{Line, lines_of, words_at}
use Rattle.blif_reader.specs.Grammar.{kind_of, after}

-- a line with its kind; the words begin with the keyword, where it has one
pub record Statement : Type 0 where
  pub line : ℕ
  pub kind : Kind
  pub words : List (List ℕ)

-- what follows where there is no fault
infixl 10 ◌>>=◌
abbrev pub ◌>>=◌ : {A B : Type 0} → Result A BlifFault → (A → Result B BlifFault) → Result B BlifFault
(Ok x) >>= f = f x
(Err e) >>= f = Err e

-- a kind, or the fault of a line
abbrev pub on_line : {A : Type 0} → ℕ → Result A BlifKind → Result A BlifFault
on_line n (Ok x) = Ok x
on_line n (Err kind) = Err (record { line = n; kind = kind })

-- a line as a statement, behind what stands before it
abbrev pub statement : Context → Line → Result Statement BlifFault
statement context l = on_line l.number (kind_of context l.words) >>= λ kind. Ok
    (record { line = l.number; kind = kind; words = l.words })

-- what stands before the line behind a statement
abbrev pub after_statement : Context → Statement → Context
after_statement context s = after context s.kind (length s.words)

-- the end of the text: a model stands before it
abbrev pub at_end : Context → Result (List Statement) BlifFault
at_end Start = Err (record { line = 0; kind = NoModel })
at_end Between = Ok []
at_end (Block inputs first) = Ok []
at_end Ended = Ok []

-- the statements of the lines, or the fault of the first that has one
unfoldable pub statements : Context → List Line → Result (List Statement) BlifFault
statements context [] = at_end context
statements context (l ∷ ls) = statement context l >>= λ s. statements (after_statement context s) ls >>= λ ss. Ok
    (s ∷ ss)

-- the statements of a text
abbrev pub parsed : List ℕ → Result (List Statement) BlifFault
parsed bytes = statements Start (lines_of bytes)

-- each statement has the kind that its words have behind what stands before it
abbrev pub Follows : Context → List Statement → Type 0
Follows context [] = Unit {0}
Follows context (s ∷ ss) = (kind_of context s.words ≡ Ok s.kind) × Follows (after_statement context s) ss

-- a statement of the reader, as the grammar has it
abbrev pub statement_of : declared.Statement → Statement
statement_of s = record { line = s.line; kind = s.kind; words = words_at s.line s.text.now }

-- the fault is the one that reading gives, unless memory ran out
abbrev pub Fails : {Y : Type 0} → Refusal → Result Y BlifFault → Type 0
Fails refusals.Memory read = Unit {0}
Fails (refusals.Fault f) read = read ≡ Err f

-- what a function returned, seen by view, is what reading gives, unless memory ran out
abbrev pub Gives : {X Y : Type 0} → (X → Y) → Result X Refusal → Result Y BlifFault → Type 0
Gives view (Ok x) read = read ≡ Ok (view x)
Gives view (Err e) read = Fails e read
