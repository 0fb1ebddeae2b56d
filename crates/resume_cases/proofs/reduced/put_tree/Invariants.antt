use Rattle.std.proofs.Common.{◌≡◌, IsTrue}
use Rattle.arc_file.specs.Writers.{AreInStep, inner_file, ends_file}
use Rattle.shelf_memory.specs.Benches.{tells_of, world_of}
use Rattle.case_lives.specs.declared.life.TheConstants.{INNER, ENDS}
use Rattle.resume_cases.proofs.reduced.put_tree.Given as goal

-- the writer is in step with its files, which are the two
abbrev pub invariant-loop-level : goal.invariant-loop-level
invariant-loop-level l = record {
  in_step : IsTrue (tells_of l.bench) → AreInStep l.writer (world_of l.bench);
  inner : inner_file l.writer ≡ INNER;
  ends : ends_file l.writer ≡ ENDS;
}

abbrev pub invariant-loop-number : goal.invariant-loop-number
invariant-loop-number l = record {
  in_step : IsTrue (tells_of l.bench) → AreInStep l.writer (world_of l.bench);
  inner : inner_file l.writer ≡ INNER;
  ends : ends_file l.writer ≡ ENDS;
}

abbrev pub invariant-loop-high : goal.invariant-loop-high
invariant-loop-high l = record {
  in_step : IsTrue (tells_of l.bench) → AreInStep l.writer (world_of l.bench);
  inner : inner_file l.writer ≡ INNER;
  ends : ends_file l.writer ≡ ENDS;
}
