use Rattle.std.proofs.Common.{◌≡◌, ℕ, ◌<◌, ◌≤◌, false, length, get_or}
use Rattle.blif_reader.specs.Jumps.{JumpsOver, is_needed}
use Rattle.blif_reader.proofs.jumps.jumps_over.Given as goal

-- the jumps from the places behind are made, and the next place is the first of these that is needed
abbrev pub invariant-back : goal.invariant-back
invariant-back l = record {
  size : length l.jumps.items ≡ length l.needed;
  before : l.at ≤ l.next;
  within : l.next ≤ length l.needed;
  free : (k : ℕ) → l.at ≤ k → k < l.next → is_needed l.needed k ≡ false;
  over : (i : ℕ) → l.at ≤ i → i < length l.needed → JumpsOver l.needed i (get_or l.jumps.items i 0);
}

abbrev pub decreases-back : goal.decreases-back
decreases-back l = l.at
