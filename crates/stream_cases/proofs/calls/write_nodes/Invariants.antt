use Rattle.std.proofs.Common.{IsTrue}
use Rattle.block_stream.specs.Writes.{InStep}
use Rattle.node_file.specs.Writers.{filling_of}
use Rattle.stream_cases.proofs.calls.write_nodes.Given as goal

-- the writer is in step with its file
abbrev pub invariant-loop-k : goal.invariant-loop-k
invariant-loop-k g l = IsTrue (g.S.Shelf.tells l.shelf) → InStep (filling_of l.writer) (g.S.Shelf.world l.shelf)
