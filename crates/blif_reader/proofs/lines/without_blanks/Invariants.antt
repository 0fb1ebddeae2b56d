use Rattle.std.proofs.Common.{◌≡◌, ◌+◌, ◌≤◌, take, length}
use Rattle.std.specs.List.{suffix_len}
use Rattle.text_words.specs.Text.{is_blank}
use Rattle.blif_reader.proofs.lines.without_blanks.Given as goal

-- the blanks at the end are those that were passed and those at the end of what is left
abbrev pub invariant-loop-n : goal.invariant-loop-n
invariant-loop-n l = record {
  within : l.n ≤ length l.text;
  same : l.n + suffix_len is_blank l.text ≡ length l.text + suffix_len is_blank (take l.n l.text);
}

abbrev pub decreases-loop-n : goal.decreases-loop-n
decreases-loop-n l = l.n
