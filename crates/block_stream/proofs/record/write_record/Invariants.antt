use Rattle.std.proofs.Common.{◌≡◌, ◌++◌, ◌*◌, take, drop}
use Rattle.std.specs.List.{flat_map}
use Rattle.std.specs.Int.{w64, to_be_bytes}
use Rattle.block_stream.proofs.record.write_record.Given as goal

-- the bytes of the words so far stand in front
abbrev pub invariant-loop-k : goal.invariant-loop-k
invariant-loop-k l = l.bytes ≡ flat_map (to_be_bytes w64) (take l.k l.record.w) ++ drop (8 * l.k) l.initial.bytes
