use Rattle.std.proofs.Common.{◌≡◌, length}
use Rattle.text_words.specs.Left.{lines_left}
use Rattle.blif_reader.specs.Lines.{words_left}
use Rattle.blif_reader.proofs.lines.JoinedWordsIterator.next.Given as goal

-- the same words are left
abbrev pub invariant-lines : goal.invariant-lines
invariant-lines l = words_left l.self ≡ words_left l.fn.self

abbrev pub decreases-lines : goal.decreases-lines
decreases-lines l = length (lines_left l.self.lines)
