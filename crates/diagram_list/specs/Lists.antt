-- What listing a folder's diagrams leaves.
use Rattle.std.specs.Prelude.{◌≡◌, ◌⊎◌, ℕ, ◌<◌, Bool, false, List, ◌++◌, length, slice_index_or, Result, Err, OnOk}
use Rattle.std.specs.Prelude.{IfErr}
use Rattle.shelf_model.specs.declared.file_no.FileNo.{FileNo}
use Rattle.shelf_model.specs.declared.fault.StreamFault.{StreamFault}
use Rattle.shelf_model.specs.declared.fault.StreamFault.TheVariants as stream
use Rattle.shelf_model.specs.World.{Moment, World, now, said}
use Rattle.shelf_model.specs.Moments.{Throughout}
use Rattle.catalogue.specs.Counts.{present, count_in}
use Rattle.catalogue.specs.Entries.{IsEntryOf, IsEntryFault}
use Rattle.catalogue.specs.Standings.{standing_found, DuringSyncs}
use Rattle.diagram_list.specs.declared.fault.ListFault.{ListFault}
use Rattle.diagram_list.specs.declared.fault.ListFault.TheVariants.{Damaged}
use Rattle.diagram_list.specs.Saying.{SaysFront, IsSaying, StaysThere}
use Rattle.diagram_list.specs.Listing.{entry_in, is_dropped, listing}

-- the entries of the first n steps stand whole at their places
abbrev pub StandWhole : ℕ → (FileNo → List ℕ) → Type 0
StandWhole n r = (k : ℕ) → k < n → IsEntryOf k r (entry_in r k)

-- each step is marked exactly where one of the first n steps drops its diagram
abbrev pub AreMarked : ℕ → (FileNo → List ℕ) → List Bool → Type 0
AreMarked n r marks = (k : ℕ) → k < length marks → slice_index_or marks k false ≡ is_dropped r n k

-- the first n steps were read: their entries stand, and what they drop is marked
pub record WereRead (n : ℕ) (r : FileNo → List ℕ) (marks : List Bool) : Type 0 where
  pub stand : StandWhole n r
  pub marks_are : AreMarked n r marks

-- a committed step whose entry stands, and whether it was marked as dropped
pub record IsNext (k : ℕ) (mark : Bool) (r : FileNo → List ℕ) : Type 0 where
  pub within : k < count_in r
  pub mark_is : mark ≡ is_dropped r (count_in r) k
  pub stands : IsEntryOf k r (entry_in r k)

-- one of the first n steps has no whole entry
pub record LacksEntry (n : ℕ) (r : FileNo → List ℕ) (fault : StreamFault) : Type 0 where
  pub step : ℕ
  pub within : step < n
  pub lacks : IsEntryFault step r fault

-- damage was answered
abbrev pub IsDamage : ListFault → Type 0
IsDamage fault = (file : FileNo) × (at : ℕ) × (fault ≡ Damaged file at)

-- a text was said whole, or a front part of it where the answer is a fault, which is no damage
pub record SaysText (text : List ℕ) (result : Result Unit ListFault) (old new : World) : Type 0 where
  pub moments : Throughout old new (IsSaying text (now old))
  pub place : StaysThere old new
  pub ok : OnOk result (said new ≡ said old ++ text)
  pub err : IfErr result (λ fault. ¬ (IsDamage fault))

-- a moment of a list: a front part of its lines was said, reads give what they gave, and no image is new
pub record DuringList (text : List ℕ) (old m : Moment) : Type 0 where
  pub says : SaysFront old.said text m.said
  pub files : DuringSyncs old m

-- a damaged place: the gate counts too much, the catalogue ends too soon, or a committed step has no whole entry
abbrev pub IsDamagedPlace : FileNo → ℕ → (FileNo → List ℕ) → Type 0
IsDamagedPlace file at r =
    (standing_found r ≡ Err (stream.Damaged file at)) ⊎ LacksEntry (count_in r) r (stream.Damaged file at)

-- a damaged place was met before anything was said
pub record NamesDamage (file : FileNo) (at : ℕ) (old new : World) : Type 0 where
  pub place : IsDamagedPlace file at (present (now old).folder)
  pub said_is : said new ≡ said old

-- a list was said, of the committed steps whose entries all stand, or a front part of it
pub record Lists (result : Result Unit ListFault) (old new : World) : Type 0 where
  pub moments : Throughout old new (DuringList (listing (present (now old).folder)) (now old))
  pub place : StaysThere old new
  pub ok : OnOk result (said new ≡ said old ++ listing (present (now old).folder))
  pub whole : OnOk result (StandWhole (count_in (present (now old).folder)) (present (now old).folder))
  pub damaged : IfErr result (λ fault. (file : FileNo) (at : ℕ) → fault ≡ Damaged file at → NamesDamage file at old new)
