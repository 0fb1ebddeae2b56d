use Rattle.std.proofs.Common.{◌≡◌, ◌-◌, ◌++◌, length, replicate}
use Rattle.saved_words.specs.Places.{next_words, moved}
use Rattle.saved_words.proofs.item.next_rec.Given as goal

-- the next k words are read into the record
abbrev pub invariant-loop-k : goal.invariant-loop-k
invariant-loop-k l = record {
  place : l.from ≡ moved l.k l.initial.from;
  long : length (next_words l.k l.initial.from) ≡ l.k;
  words : l.rec.w ≡ next_words l.k l.initial.from ++ replicate (8 - l.k) 0;
}
