use Rattle.std.proofs.Common.{IsTrue}
use Rattle.block_stream.specs.Writes.{InStep}
use Rattle.block_stream.specs.Appenders.{filling_of}
use Rattle.stream_cases.proofs.runs.write_run.Given as goal

-- the appender is in step with its file
abbrev pub invariant-loop-k : goal.invariant-loop-k
invariant-loop-k g l = IsTrue (g.S.Shelf.tells l.shelf) → InStep (filling_of l.out) (g.S.Shelf.world l.shelf)
