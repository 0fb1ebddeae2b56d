use Rattle.std.proofs.Common.{◌≡◌, drop}
use Rattle.blif_reader.specs.Lines.{words_left}
use Rattle.blif_reader.proofs.parts.skip.Given as goal

-- so many words were passed
abbrev pub invariant-loop-word : goal.invariant-loop-word
invariant-loop-word l = words_left l.words ≡ drop l._word (words_left l.fn.words)
