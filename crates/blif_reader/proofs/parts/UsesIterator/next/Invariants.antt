use Rattle.std.proofs.Common.{◌≡◌, length}
use Rattle.blif_reader.specs.Words.{uses_left}
use Rattle.blif_reader.proofs.parts.UsesIterator.next.Given as goal

-- the same uses are left
abbrev pub invariant-lines : goal.invariant-lines
invariant-lines l = uses_left l.self ≡ uses_left l.fn.self

abbrev pub decreases-lines : goal.decreases-lines
decreases-lines l = length l.self.behind.now
