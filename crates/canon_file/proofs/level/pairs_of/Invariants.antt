use Rattle.std.proofs.Common.{◌≡◌, ◌++◌, ◌*◌, drop}
use Rattle.canon_file.specs.Pairs.{pairs}
use Rattle.canon_file.proofs.level.pairs_of.Given as goal

-- the pairs so far, and those of the pointers that are left, are all pairs
abbrev pub invariant-loop-k : goal.invariant-loop-k
invariant-loop-k l = l.rows.items ++ pairs (drop (2 * l.k) l.pointers) ≡ pairs l.pointers
