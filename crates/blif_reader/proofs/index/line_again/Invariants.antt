use Rattle.blif_reader.specs.Words.{uses_left}
use Rattle.blif_reader.proofs.Indexing.{Seen}
use Rattle.blif_reader.proofs.index.line_again.Given as goal

-- the index has the words so far, and what is left decides the line
abbrev pub invariant-loop-one : goal.invariant-loop-one
invariant-loop-one l = Seen (uses_left l.uses) (uses_left l.one-iterator) l.index
