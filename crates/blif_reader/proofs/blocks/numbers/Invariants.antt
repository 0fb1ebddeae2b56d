use Rattle.std.proofs.Common.{◌≡◌, ◌++◌, map}
use Rattle.blif_reader.specs.Words.{words_of_uses}
use Rattle.blif_reader.specs.Views.{number_in}
use Rattle.blif_reader.proofs.blocks.numbers.Given as goal

-- the numbers so far and those of the words that are left are all
abbrev pub invariant-loop-one : goal.invariant-loop-one
invariant-loop-one l = l.numbers.items ++ map (number_in l.index) (words_of_uses l.one-iterator) ≡ map (number_in l.index) (words_of_uses l.uses)
