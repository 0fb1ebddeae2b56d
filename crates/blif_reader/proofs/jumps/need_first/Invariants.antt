use Rattle.std.proofs.Common.{◌≡◌, ℕ, ◌<◌, true, false, length, take, get_or}
use Rattle.depth_first.specs.Graph.{has}
use Rattle.blif_reader.specs.Jumps.{is_needed}
use Rattle.blif_reader.proofs.jumps.need_first.Given as goal

-- the words so far stood there, and are noted where they did for the first time
abbrev pub invariant-loop-place : goal.invariant-loop-place
invariant-loop-place l = record {
  marks : length l.stood.items ≡ length l.fn.stood.items;
  size : length l.needed.items ≡ length l.fn.needed.items;
  stood : (t : ℕ) → t < length l.stood.items → get_or l.stood.items t false ≡ has (take l.place l.words) t;
  repeats : (k : ℕ) → k < l.place → is_needed l.needed.items k ≡ false → has (take k l.words) (get_or l.words k 0) ≡ true;
}
