use Rattle.block_stream.specs.Reads.{AreValues}
use Rattle.block_stream.proofs.front.values_len.Given as goal

-- each record so far is that of a value
abbrev pub invariant-loop-n : goal.invariant-loop-n
invariant-loop-n g l = AreValues g.T.Spill.is_value g.T.Spill.words l.n l.records
