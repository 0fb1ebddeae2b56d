use Rattle.std.proofs.Common.{◌≡◌, ◌+◌, ◌*◌, ◌≤◌, ◌^◌, drop, length}
use Rattle.text_words.specs.Left.{lines_left}
use Rattle.blif_reader.specs.Text.{joined, first_words}
use Rattle.blif_reader.specs.Lines.{shape_in, with_words}
use Rattle.blif_reader.proofs.lines.with_joined.Given as goal

-- the words so far and those of the lines that are left are all, the same lines stand behind them, and there are few
abbrev pub invariant-lines : goal.invariant-lines
invariant-lines l = record {
  shape : with_words (shape_in l.sum) (first_words (joined (lines_left l.lines))) ≡ with_words (shape_in l.shape) (first_words (joined (lines_left l.fn.lines)));
  behind : drop 1 (joined (lines_left l.lines)) ≡ drop 1 (joined (lines_left l.fn.lines));
  fewer : length (lines_left l.lines) ≤ length (lines_left l.fn.lines);
  count : l.sum.count + length (lines_left l.lines) * 2 ^ 32 ≤ length (lines_left l.fn.lines) * 2 ^ 32;
}

abbrev pub decreases-lines : goal.decreases-lines
decreases-lines l = length (lines_left l.lines)
