-- The nodes of a file in the room.
use Rattle.std.specs.Prelude.{◌≡◌, ℕ, ◌<◌, List}
use Rattle.rec_words.specs.declared.rec.Rec.{Rec}
use Rattle.run_files.specs.Items.{record_at}
use Rattle.room_reduction.specs.Records.{word}

-- the first so many records have the identifiers and pointers of these
abbrev pub HoldNodes : ℕ → List Rec → List Rec → Type 0
HoldNodes count these nodes = (k c : ℕ) → k < count → c < 3
    → word c (record_at nodes k) ≡ word c (record_at these k)
