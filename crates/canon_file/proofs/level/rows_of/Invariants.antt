use Rattle.std.proofs.Common.{◌≡◌, reverse, filter}
use Rattle.list_laws.specs.Members.{ascending}
use Rattle.canon_file.specs.Rows.{row_before}
use Rattle.canon_file.specs.Pairs.{differs}
use Rattle.canon_file.proofs.level.rows_of.Given as goal

-- the rows are those of the pairs so far, which were the last ones
abbrev pub invariant-loop-pair : goal.invariant-loop-pair
invariant-loop-pair l = l.rows.items ≡ ascending row_before (filter differs (reverse l.yielded))
