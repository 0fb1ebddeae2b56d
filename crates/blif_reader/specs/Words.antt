-- What the reader's uses of words stand for.
use Rattle.std.specs.Prelude.{ℕ, List, ◌++◌, map, take}
use Rattle.blif_reader.specs.declared.parts.Use as declared
use Rattle.blif_reader.specs.declared.parts.Uses.{Uses}
use Rattle.blif_reader.specs.Lines.{words_left}
use Rattle.blif_reader.specs.Statements.{statement_of}
use Rattle.blif_reader.specs.Parts.{Use, on_each, uses_in}

-- a use, as the netlist has it
abbrev pub use_of : declared.Use → Use
use_of u = record { line = u.line; word = u.word.now }

-- the uses that are left
abbrev pub uses_left : Uses → List Use
uses_left u = on_each u.line (take u.left (words_left u.words)) ++ uses_in u.part (map statement_of u.behind.now)

-- the words that are left
abbrev pub words_of_uses : Uses → List (List ℕ)
words_of_uses u = map (λ v. v.word) (uses_left u)
