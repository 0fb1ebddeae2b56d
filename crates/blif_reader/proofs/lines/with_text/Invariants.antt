use Rattle.std.proofs.Common.{◌≡◌, ◌+◌, ◌≤◌, map, length}
use Rattle.text_words.specs.Text.{words_from}
use Rattle.text_words.specs.Left.{words_left}
use Rattle.blif_reader.specs.Text.{words_of}
use Rattle.blif_reader.specs.Lines.{shape_in, with_words}
use Rattle.blif_reader.proofs.lines.with_text.Given as goal

-- the words so far and those that are left are all, and there are few
abbrev pub invariant-loop-word : goal.invariant-loop-word
invariant-loop-word l = record {
  shape : with_words (shape_in l.sum) (map (λ w. w.bytes) (words_left l.word-iterator)) ≡ with_words (shape_in l.shape) (words_of l.text);
  count : l.sum.count + length (words_left l.word-iterator) ≤ l.shape.count + length (words_from 0 l.text);
}
