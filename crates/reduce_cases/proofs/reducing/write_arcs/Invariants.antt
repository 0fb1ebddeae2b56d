use Rattle.std.proofs.Common.{◌≡◌, IsTrue}
use Rattle.arc_file.specs.Writers.{AreInStep, inner_file, ends_file}
use Rattle.reduce_cases.specs.declared.reducing.TheConstants.{INNER, ENDS}
use Rattle.reduce_cases.proofs.reducing.write_arcs.Given as goal

-- the writer is in step with its files, which are the two
abbrev pub invariant-loop-arc : goal.invariant-loop-arc
invariant-loop-arc g l = record {
  in_step : IsTrue (g.S.Shelf.tells l.shelf) → AreInStep l.writer (g.S.Shelf.world l.shelf);
  inner : inner_file l.writer ≡ INNER;
  ends : ends_file l.writer ≡ ENDS;
}
