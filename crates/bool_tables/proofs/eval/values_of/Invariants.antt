use Rattle.std.proofs.Common.{◌≡◌, map}
use Rattle.std.specs.List.{range_with_len}
use Rattle.bool_tables.specs.Steps.{step_value}
use Rattle.bool_tables.proofs.eval.values_of.Given as goal

-- the values of the places so far are made
abbrev pub invariant-loop-place : goal.invariant-loop-place
invariant-loop-place l = l.values.items ≡ map (step_value l.n l.tables l.step) (range_with_len 0 l.place)
