use Rattle.std.proofs.Common.{◌≡◌, ◌++◌, ◌*◌, take, drop}
use Rattle.block_stream.specs.Records.{records_bytes}
use Rattle.block_stream.proofs.record.write_records.Given as goal

-- the bytes of the records so far stand in front
abbrev pub invariant-loop-i : goal.invariant-loop-i
invariant-loop-i l = l.bytes ≡ records_bytes l.words (take l.i l.records) ++ drop (l.i * (8 * l.words)) l.initial.bytes
