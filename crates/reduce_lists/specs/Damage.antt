-- Where the two arc files of a reduction are damaged, and why a call of its lists is refused.
use Rattle.std.specs.Prelude.{◌≡◌, ◌⊎◌, ℕ, ◌+◌, ◌*◌, ◌-◌, ◌^◌, ◌≤◌, ◌<◌, Option, None, IfSome}
use Rattle.shelf_model.specs.declared.file_no.FileNo.{FileNo}
use Rattle.shelf_model.specs.declared.sort_fault.SortFault.{SortFault}
use Rattle.shelf_model.specs.declared.sort_fault.SortFault.TheVariants.{Shelf, Damaged, RunsSpent}
use Rattle.shelf_model.specs.World.{World, file}
use Rattle.arc_file.specs.declared.arc.Arc.{Arc}
use Rattle.arc_file.specs.declared.reader.ArcReader.{ArcReader}
use Rattle.arc_file.specs.declared.unreduced.Unreduced.{Unreduced}
use Rattle.arc_file.specs.declared.kind.Kind.{Kind}
use Rattle.arc_file.specs.declared.kind.Kind.TheVariants.{Inner, End}
use Rattle.arc_file.specs.declared.stream.ArcStream.{ArcStream}
use Rattle.arc_file.specs.Files.{IsDamagedArc}
use Rattle.arc_file.specs.Streams.{file_of, left_of, given_of}
use Rattle.arc_file.specs.Readers.{inner_of, ends_of}
use Rattle.run_tiers.specs.declared.parts.Parts.{Parts}
use Rattle.run_tiers.specs.Parts.{WasTaken}

-- the next record of a file, from its end on, is damaged: it isn't whole, is none of an arc of that kind, or isn't in
-- order with the arc behind it, where that was given
pub record IsDamagedAt (kind : Kind) (read : FileNo) (left : ℕ) (given : Option Arc) (world : World) (f : FileNo)
    (at : ℕ) : Type 0 where
  pub file_is : f ≡ read
  pub some : 0 < left
  pub at_is : at ≡ (left - 1) * 16
  pub damaged : IsDamagedArc kind (left - 1) (file world f).bytes given

abbrev pub IsDamagedIn : Kind → ArcStream → World → FileNo → ℕ → Type 0
IsDamagedIn kind s world f at = IsDamagedAt kind (file_of s) (left_of s) (given_of s) world f at

-- damage is that of the next arc to a node, or of the next one to a truth value
abbrev pub IsDamageOf : ArcReader → World → SortFault → Type 0
IsDamageOf r world Shelf = Unit
IsDamageOf r world (Damaged f at) = IsDamagedIn Inner (inner_of r) world f at ⊎ IsDamagedIn End (ends_of r) world f at
IsDamageOf r world RunsSpent = Unit

-- a record of a file of so many arcs is damaged, whatever was read of it: where it isn't in order with the one behind
-- it, that is one of them too
pub record IsDamagedRecord (kind : Kind) (read : FileNo) (count : ℕ) (world : World) (f : FileNo) (at : ℕ)
    : Type 0 where
  pub place : ℕ
  pub given : Option Arc
  pub file_is : f ≡ read
  pub within : place < count
  pub behind : IfSome given (λ next. place + 1 < count)
  pub at_is : at ≡ place * 16
  pub damaged : IsDamagedArc kind place (file world f).bytes given

-- damage is that of a record of either arc file, among those of these arcs
abbrev pub IsDamageAmong : Unreduced → World → SortFault → Type 0
IsDamageAmong arcs world Shelf = Unit
IsDamageAmong arcs world (Damaged f at) = IsDamagedRecord Inner arcs.inner arcs.inner_count world f at
    ⊎ IsDamagedRecord End arcs.ends arcs.ends_count world f at
IsDamageAmong arcs world RunsSpent = Unit

-- damage is that of the last arc of either file
abbrev pub IsDamageAtStart : Unreduced → World → SortFault → Type 0
IsDamageAtStart made world Shelf = Unit
IsDamageAtStart made world (Damaged f at) =
    IsDamagedAt Inner made.inner made.inner_count None world f at
    ⊎ IsDamagedAt End made.ends made.ends_count None world f at
IsDamageAtStart made world RunsSpent = ⊥

-- why a list is refused: a call of the folder failed; a file is damaged whose part was taken; or no part number is left
abbrev pub IsListCause : Parts → SortFault → Type 0
IsListCause parts Shelf = Unit
IsListCause parts (Damaged f at) = WasTaken parts f
IsListCause parts RunsSpent = 2 ^ 32 ≤ parts.next
