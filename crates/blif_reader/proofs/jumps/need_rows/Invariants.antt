use Rattle.std.proofs.Common.{◌≡◌, ℕ, ◌<◌, false, [], length, get_or}
use Rattle.blif_reader.specs.Jumps.{is_needed}
use Rattle.blif_reader.specs.Views.{rows_of}
use Rattle.blif_reader.proofs.jumps.need_rows.Given as goal

-- what isn't noted so far wasn't before, and has a hyphen in the rows so far
abbrev pub invariant-loop-row : goal.invariant-loop-row
invariant-loop-row l = record {
  size : length l.needed.items ≡ length l.fn.needed.items;
  stays : (k : ℕ) → is_needed l.needed.items k ≡ false → is_needed l.fn.needed.items k ≡ false;
  hyphens : (r k : ℕ) → r < l.row → is_needed l.needed.items k ≡ false → get_or (get_or (rows_of l.rows) r []) k 45 ≡ 45;
}
