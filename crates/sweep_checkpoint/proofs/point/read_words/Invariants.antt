use Rattle.std.proofs.Common.{◌≡◌, ◌*◌, take}
use Rattle.sweep_checkpoint.specs.Points.{words_bytes, AreWords}
use Rattle.sweep_checkpoint.proofs.point.read_words.Given as goal

-- the words so far are those of the first bytes
abbrev pub invariant-loop-k : goal.invariant-loop-k
invariant-loop-k l = record {
  bytes : words_bytes (take l.k l.words) ≡ take (8 * l.k) l.bytes;
  words : AreWords (take l.k l.words);
}
