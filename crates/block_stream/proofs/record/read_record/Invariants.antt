use Rattle.std.proofs.Common.{◌≡◌, ◌++◌, ◌-◌, replicate}
use Rattle.block_stream.specs.Records.{words_of}
use Rattle.block_stream.proofs.record.read_record.Given as goal

-- the words so far were read, and the others are 0
abbrev pub invariant-loop-k : goal.invariant-loop-k
invariant-loop-k l = l.w ≡ words_of l.k l.bytes ++ replicate (8 - l.k) 0
