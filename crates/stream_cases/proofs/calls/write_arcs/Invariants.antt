use Rattle.std.proofs.Common.{IsTrue}
use Rattle.arc_file.specs.Writers.{AreInStep}
use Rattle.stream_cases.proofs.calls.write_arcs.Given as goal

-- the writer is in step with its files
abbrev pub invariant-loop-k : goal.invariant-loop-k
invariant-loop-k g l = IsTrue (g.S.Shelf.tells l.shelf) → AreInStep l.out (g.S.Shelf.world l.shelf)
