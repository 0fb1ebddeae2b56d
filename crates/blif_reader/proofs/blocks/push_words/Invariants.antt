use Rattle.std.proofs.Common.{◌≡◌, ◌++◌, length}
use Rattle.blif_reader.specs.Ends.{AreEnds, words_between}
use Rattle.blif_reader.specs.Words.{words_of_uses}
use Rattle.blif_reader.proofs.blocks.push_words.Given as goal

-- the words so far and those that are left are all
abbrev pub invariant-loop-one : goal.invariant-loop-one
invariant-loop-one l = record {
  all : words_between 0 l.ends.items l.bytes.items ++ words_of_uses l.one-iterator ≡ words_between 0 l.fn.ends.items l.fn.bytes.items ++ words_of_uses l.uses;
  placed : AreEnds 0 l.ends.items (length l.bytes.items);
}
