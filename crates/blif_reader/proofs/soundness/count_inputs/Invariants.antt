use Rattle.std.proofs.Common.{◌≡◌, ◌+◌, ◌≤◌, length, map}
use Rattle.rec_words.specs.Words.{most_variables}
use Rattle.blif_reader.specs.Words.{uses_left}
use Rattle.blif_reader.specs.declared.parts.Part.TheVariants.{Inputs}
use Rattle.blif_reader.specs.Statements.{statement_of}
use Rattle.blif_reader.specs.Parts.{uses_in}
use Rattle.blif_reader.proofs.soundness.count_inputs.Given as goal

-- those so far and those that are left are all
abbrev pub invariant-loop-one : goal.invariant-loop-one
invariant-loop-one l = record {
  all : l.count + length (uses_left l._one-iterator) ≡ length (uses_in Inputs (map statement_of l.fn.statements));
  few : l.count ≤ most_variables + 1;
}
