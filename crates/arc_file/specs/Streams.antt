-- What is seen of the reading of one arc file from its end on.
use Rattle.std.specs.Prelude.{◌≡◌, ℕ, ◌+◌, ◌-◌, ◌<◌, false, List, [], ◌∷◌, ◌++◌, All, Result, Option, Ok, Err, Some, None, IfSome}
use Rattle.shelf_model.specs.declared.file_no.FileNo.{FileNo}
use Rattle.shelf_model.specs.declared.fault.StreamFault.{StreamFault}
use Rattle.shelf_model.specs.declared.fault.StreamFault.TheVariants.{Shelf, Damaged}
use Rattle.block_stream.specs.Reads.{place_of, waits_behind, TakesBehind, IsDamageAt}
use Rattle.block_stream.specs.Items.{AreBehind}
use Rattle.block_stream.specs.Backwards as stream
use Rattle.arc_file.specs.declared.arc.Arc.{Arc}
use Rattle.arc_file.specs.declared.kind.Kind.{Kind}
use Rattle.arc_file.specs.declared.stream.ArcStream.{ArcStream}
use Rattle.arc_file.specs.Arcs.{arc_words, IsArc}
use Rattle.arc_file.specs.Files.{Leads, is_before, IsInOrder, IsArcAt, IsDamagedArc}

-- the file that is read
abbrev pub file_of : ArcStream → FileNo
file_of s = (stream.reading_of s.arcs).file

-- how many arcs are not yet given
abbrev pub left_of : ArcStream → ℕ
left_of s = place_of (stream.reading_of s.arcs)

-- the arc that was given last
abbrev pub given_of : ArcStream → Option Arc
given_of s = s.given

-- how many arcs wait in its window, and how many its window has room for
abbrev pub waiting_of : ArcStream → ℕ
waiting_of s = waits_behind (stream.reading_of s.arcs)

abbrev pub room_of : ArcStream → ℕ
room_of s = stream.room_of s.arcs

-- of the arcs that waited one is given; where none did, of as many as the window, a piece and what is left allow
abbrev pub Takes : ArcStream → ArcStream → Result (Option Arc) StreamFault → Type 0
Takes old new result = (room_of new ≡ room_of old)
    × TakesBehind (room_of old) (stream.reading_of old.arcs) (stream.reading_of new.arcs) result

-- what it has read is as these bytes of its file say
pub record Reads (kind : Kind) (s : ArcStream) (bytes : List ℕ) : Type 0 where
  pub loaded : stream.Reads s.arcs bytes
  pub last : IfSome s.given (λ g. IsArcAt kind (left_of s) bytes g)

-- the arcs, and behind them the one that was given, are in the order of their file
abbrev pub IsInOrderBefore : Kind → List Arc → Option Arc → Type 0
IsInOrderBefore kind xs None = IsInOrder kind xs
IsInOrderBefore kind xs (Some g) = IsInOrder kind (xs ++ g ∷ [])

-- these arcs are not yet given: they may stand in their file, and are in its order
pub record AreLeft (kind : Kind) (s : ArcStream) (bytes : List ℕ) (xs : List Arc) : Type 0 where
  pub behind : AreBehind IsArc arc_words (stream.reading_of s.arcs) bytes xs
  pub lead : All (Leads kind) xs
  pub ordered : IsInOrderBefore kind xs s.given

-- an arc is the next one from the end on, and the one that was given before doesn't come before it; None is answered at
-- the front alone, and damage is that of the next record from the end on
abbrev pub GoesUp : Kind → ArcStream → ArcStream → Result (Option Arc) StreamFault → Type 0
GoesUp kind old new (Ok (Some a)) = IsArc a × Leads kind a × (left_of old ≡ left_of new + 1)
    × IfSome old.given (λ g. is_before kind g a ≡ false) × (new.given ≡ Some a)
GoesUp kind old new (Ok None) = (left_of old ≡ 0) × (left_of new ≡ 0) × (new.given ≡ old.given)
GoesUp kind old new (Err e) = (0 < left_of old) × IsDamageAt (file_of old) 2 (left_of old - 1) e

-- the arc that is answered is the one at its place, and what is damaged is the record there
abbrev pub IsArcAnswer : Kind → ArcStream → List ℕ → Result (Option Arc) StreamFault → Type 0
IsArcAnswer kind s bytes (Ok (Some a)) = IsArcAt kind (left_of s - 1) bytes a
IsArcAnswer kind s bytes (Ok None) = Unit
IsArcAnswer kind s bytes (Err Shelf) = Unit
IsArcAnswer kind s bytes (Err (Damaged f at)) = IsDamagedArc kind (left_of s - 1) bytes s.given
