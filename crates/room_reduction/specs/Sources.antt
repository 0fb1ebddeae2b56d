-- The sources of a diagram, as records in the room.
use Rattle.std.specs.Prelude.{◌≡◌, ℕ, ◌<◌, List, length, take}
use Rattle.canon_file.specs.Members.{Has}
use Rattle.rec_words.specs.declared.rec.Rec.{Rec}
use Rattle.rec_words.specs.Words.{level_of}
use Rattle.run_files.specs.Items.{record_at}
use Rattle.packed_records.specs.Packed.{packed}
use Rattle.room_reduction.specs.Records.{uid_in, low_in, high_in}
use Rattle.arc_file.specs.declared.arc.Arc.{Arc}
use Rattle.arc_diagrams.specs.Arcs.{IsMet, targets_of}

-- the first so many packed records of a room
abbrev pub sources_in : ℕ → List Rec → List Rec
sources_in count room = take count (packed room)

-- the records are those of the sources of these arcs, which have that root, each once and in ascending order: of each
-- its identifier, and its low and its high target
pub record AreSources (n root : ℕ) (arcs : List Arc) (sources : List Rec) : Type 0 where
  pub ascend : (j k : ℕ) → j < k → k < length sources → uid_in (record_at sources j) < uid_in (record_at sources k)
  pub met : (r : Rec) → Has r sources → IsMet root arcs (uid_in r)
  pub within : (r : Rec) → Has r sources → level_of (uid_in r) < n
  pub each : (a : Arc) → Has a arcs → (r : Rec) × Has r sources × (uid_in r ≡ a.source)
  pub low : (r : Rec) → Has r sources → low_in r ≡ (targets_of arcs (uid_in r)).low
  pub high : (r : Rec) → Has r sources → high_in r ≡ (targets_of arcs (uid_in r)).high
