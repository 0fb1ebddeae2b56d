use Rattle.std.proofs.Common.{◌≡◌, ℕ, ◌<◌, false, length, get_or}
use Rattle.blif_reader.specs.Jumps.{is_needed}
use Rattle.blif_reader.proofs.jumps.need_cells.Given as goal

-- what isn't noted so far wasn't before, and has a hyphen
abbrev pub invariant-loop-place : goal.invariant-loop-place
invariant-loop-place l = record {
  size : length l.needed.items ≡ length l.fn.needed.items;
  stays : (k : ℕ) → is_needed l.needed.items k ≡ false → is_needed l.fn.needed.items k ≡ false;
  hyphens : (k : ℕ) → k < l.place → is_needed l.needed.items k ≡ false → get_or l.cells k 45 ≡ 45;
}
