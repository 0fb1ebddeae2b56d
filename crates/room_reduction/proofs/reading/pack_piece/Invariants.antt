use Rattle.std.proofs.Common.{◌≡◌, ℕ, ◌+◌, ◌<◌, List, length}
use Rattle.rec_words.specs.declared.rec.Rec.{Rec}
use Rattle.run_files.specs.Items.{record_at}
use Rattle.packed_records.specs.Packed.{packed}
use Rattle.room_reduction.specs.Records.{word}
use Rattle.room_reduction.specs.Reading.{HoldNodes}
use Rattle.room_reduction.proofs.reading.pack_piece.Given as goal

-- the records so far are packed behind those that were
abbrev pub invariant-loop-place : goal.invariant-loop-place
invariant-loop-place l = record {
  held : (these : List Rec) → HoldNodes l.fn.done these (packed l.fn.nodes)
      → ((k c : ℕ) → k < length l.records → c < 3 →
      word c (record_at l.records k) ≡ word c (record_at these (l.fn.done + k)))
      → HoldNodes (l.fn.done + l.place) these (packed l.nodes);
}
