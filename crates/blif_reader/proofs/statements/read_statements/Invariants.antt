use Rattle.std.proofs.Common.{◌≡◌, ◌+◌, ◌≤◌, length, map, filter}
use Rattle.text_words.specs.Text as text
use Rattle.text_words.specs.Left.{lines_left}
use Rattle.blif_reader.specs.Text.{joined, has_words}
use Rattle.blif_reader.specs.Statements.{statement_of, statements, parsed}
use Rattle.blif_reader.proofs.Reading.{with_front}
use Rattle.blif_reader.proofs.statements.read_statements.Given as goal

-- the statements so far and those of the lines that are left are those of the text
abbrev pub invariant-lines : goal.invariant-lines
invariant-lines l = record {
  same : with_front (map statement_of l.found.items) (statements l.context (filter has_words (joined (lines_left l.lines)))) ≡ parsed l.fn.bytes;
  count : length l.found.items + length (lines_left l.lines) ≤ length (text.lines_of l.fn.bytes);
}

abbrev pub decreases-lines : goal.decreases-lines
decreases-lines l = length (lines_left l.lines)
