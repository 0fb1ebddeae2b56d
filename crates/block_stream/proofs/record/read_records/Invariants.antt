use Rattle.std.proofs.Common.{◌≡◌, take}
use Rattle.block_stream.specs.Records.{records_of}
use Rattle.block_stream.proofs.record.read_records.Given as goal

-- the records so far stand in the window
abbrev pub invariant-loop-i : goal.invariant-loop-i
invariant-loop-i l = take l.i l.window ≡ records_of l.words l.i l.bytes
