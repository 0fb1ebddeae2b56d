use Rattle.std.proofs.Common.{◌≡◌, ◌++◌, ◌*◌, take, drop}
use Rattle.sweep_checkpoint.specs.Points.{words_bytes, AreWords}
use Rattle.sweep_checkpoint.proofs.layout.put_words.Given as goal

-- the bytes of the words so far stand in front
abbrev pub invariant-loop-k : goal.invariant-loop-k
invariant-loop-k l = record {
  bytes : l.bytes ≡ words_bytes (take l.k l.words) ++ drop (8 * l.k) l.initial.bytes;
  words : AreWords (take l.k l.words);
}
