use Rattle.std.proofs.Common.{◌≡◌, ◌+◌, ◌-◌, ◌++◌}
use Rattle.std.specs.List.{flat_map, range_with_len}
use Rattle.example_script.specs.Script.{bit_lines}
use Rattle.example_script.proofs.script.put_bits.Given as goal

-- what was put, and what is left to be put, are the whole
abbrev pub invariant-loop-i : goal.invariant-loop-i
invariant-loop-i l =
    l.script.items ++ flat_map (bit_lines) (range_with_len l.i (l.size + 1 - l.i)) ≡ l.initial.script.items ++ flat_map (bit_lines) (range_with_len 1 l.size)
