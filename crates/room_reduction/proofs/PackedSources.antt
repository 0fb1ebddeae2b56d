-- Sources as the first packed records of a room.
use Rattle.std.proofs.Common.{◌≡◌, ◌∙◌, ℕ, ◌*◌, ◌<◌, ◌≤◌, List, [], length, sym, inl, inr, arith}
use Rattle.std.proofs.lemmas.Bool.{cases_lt}
use Rattle.std.proofs.lemmas.List.{length-take-le, get_or-take, get_or_past}
use Rattle.rec_words.specs.declared.rec.Rec.{Rec}
use Rattle.run_files.specs.Items.{record_at}
use Rattle.packed_records.specs.Packed.{packed}
use Rattle.packed_records.proofs.PackedLaws.{length-packed}
use Rattle.room_reduction.specs.Sources.{sources_in}

-- there are so many
pub sources_many : (count : ℕ) (room : List Rec) → count ≤ 4 * length room → length (sources_in count room) ≡ count
sources_many count room within =
    length-take-le count (packed room) (omega (arith, within, length-packed room))

-- each is the packed record at its place
pub source_at : (count : ℕ) (room : List Rec) (k : ℕ) → k < count
    → record_at (sources_in count room) k ≡ record_at (packed room) k
source_at count room k below = get_or-take count (packed room) k (record { w = [] }) below

-- where a packed record stays, so does the source there, whether or not there is one
pub source_same : (count : ℕ) (old new : List Rec) (k : ℕ) → count ≤ 4 * length old → count ≤ 4 * length new
    → record_at (packed new) k ≡ record_at (packed old) k
    → record_at (sources_in count new) k ≡ record_at (sources_in count old) k
source_same count old new k many still_many same = elim (cases_lt k count) [
  | inl below ↦ source_at count new k below ∙ same ∙ sym (source_at count old k below)
  | inr past ↦
      get_or_past (sources_in count new) k _ (omega (arith, past, sources_many count new still_many))
      ∙ sym (get_or_past (sources_in count old) k _ (omega (arith, past, sources_many count old many)))
]
