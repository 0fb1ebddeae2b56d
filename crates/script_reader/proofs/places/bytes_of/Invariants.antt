use Rattle.std.specs.Prelude.{◌≡◌, take}
use Rattle.script_reader.specs.Keywords.{texts_of}
use Rattle.script_reader.specs.Views.{texts, words_of}
use Rattle.script_reader.proofs.places.bytes_of.Given as goal

-- the bytes of the words so far
abbrev pub invariant-loop-word : goal.invariant-loop-word
invariant-loop-word l = record {
  read : texts l.bytes.items ≡ texts_of (words_of (take l.word-index l.words));
}
