use Rattle.std.proofs.Common.{◌≡◌, is_some, not}
use Rattle.std.specs.Prelude.{find}
use Rattle.blif_reader.specs.Index.{found_in}
use Rattle.blif_reader.specs.Words.{uses_left}
use Rattle.blif_reader.proofs.index.line_missing.Given as goal

-- the first of what is left is the first of all
abbrev pub invariant-loop-one : goal.invariant-loop-one
invariant-loop-one l = find (λ u. not (is_some (found_in l.index u.word))) (uses_left l.one-iterator) ≡ find (λ u. not (is_some (found_in l.index u.word))) (uses_left l.uses)
