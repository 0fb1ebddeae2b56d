use Rattle.std.proofs.Common.{◌≡◌, map, take}
use Rattle.canon_file.specs.Pairs.{word_in}
use Rattle.canon_file.proofs.level.pointers_of.Given as goal

-- the pointers of the pairs so far are made
abbrev pub invariant-loop-pair : goal.invariant-loop-pair
invariant-loop-pair l = l.pointers.items ≡ map (word_in l.level l.rows) (take l.pair-index l.pairs)
