use Rattle.std.proofs.Common.{◌≡◌, ℕ, ◌+◌, ◌<◌, false}
use Rattle.std.specs.Prelude.{get_or}
use Rattle.rec_words.specs.declared.rec.Rec.{Rec}
use Rattle.canon_file.specs.Rows.{row_before}
use Rattle.room_reduction.specs.Records.{row_in}
use Rattle.room_reduction.proofs.rows.are_rising.Given as goal

-- no row so far is before the one in front of it
abbrev pub invariant-loop-place : goal.invariant-loop-place
invariant-loop-place l = (k : ℕ) (d : Rec) → k + 1 < l.place
    → row_before (row_in (get_or l.rows (k + 1) d)) (row_in (get_or l.rows k d)) ≡ false
