use Rattle.std.proofs.Common.{◌≡◌, map, drop}
use Rattle.std.specs.List.{list_any}
use Rattle.blif_reader.specs.Statements.{statement_of}
use Rattle.blif_reader.specs.Parts.{lists_inputs}
use Rattle.blif_reader.proofs.soundness.any_inputs.Given as goal

-- what is left decides the answer
abbrev pub invariant-loop-statement : goal.invariant-loop-statement
invariant-loop-statement l = list_any lists_inputs (map statement_of (drop l.statement-index l.statements)) ≡ list_any lists_inputs (map statement_of l.statements)
