-- What reading leaves of the folder, and what it gives of the records of a file.
use Rattle.std.specs.Prelude.{◌≡◌, ◌≢◌, ℕ, ◌+◌, ◌-◌, ◌*◌, ◌/◌, ◌^◌, ◌<◌, ◌≤◌, min, Bool, true, false, List, length, take, Result, Option, Ok, Err, Some, None, All, IfSome, slice_get}
use Rattle.rec_words.specs.declared.rec.Rec.{Rec}
use Rattle.shelf_model.specs.declared.file_no.FileNo.{FileNo}
use Rattle.shelf_model.specs.declared.fault.StreamFault.{StreamFault}
use Rattle.shelf_model.specs.declared.fault.StreamFault.TheVariants.{Shelf, Damaged}
use Rattle.shelf_model.specs.World.{World, now}
use Rattle.shelf_model.specs.Moments.{Ran, Stays}
use Rattle.block_stream.specs.declared.reading.Reading.{Reading}
use Rattle.block_stream.specs.Records.{most_words, piece_records, records_of, from_place, record_at, IsWhole}

-- at most n calls were made, and no file changed at any moment
pub record Looked (n : ℕ) (old new : World) : Type 0 where
  pub run : Ran (Stays (now old)) old new
  pub few : new.clock ≤ old.clock + n

-- the first n records of a window are whole records: those that stand in the bytes from a place on
pub record HoldsRecords (k place n : ℕ) (window : List Rec) (bytes : List ℕ) : Type 0 where
  pub whole : 0 < n → (place + n) * (8 * k) ≤ length bytes
  pub same : take n window ≡ records_of k n (from_place k place bytes)

-- n records were read where so many were wanted: fewer only where the next one isn't whole
pub record DidLoad (k place wanted n : ℕ) (window : List Rec) (bytes : List ℕ) : Type 0 where
  pub held : HoldsRecords k place n window bytes
  pub short : n < wanted → length bytes < (place + n + 1) * (8 * k)

-- the record at a place is whole, and is that of a value
pub record IsRecordOf {T : Type 0} (words : T → List ℕ) (k place : ℕ) (bytes : List ℕ) (x : T) : Type 0 where
  pub whole : IsWhole k place bytes
  pub same : words x ≡ (record_at k place bytes).w

-- the record at a place isn't whole, or is that of no value
abbrev pub IsDamaged : {T : Type 0} → (T → Type 0) → (T → List ℕ) → ℕ → ℕ → List ℕ → Type 0
IsDamaged {T} is_value words k place bytes = IsWhole k place bytes → (x : T) → is_value x
    → words x ≢ (record_at k place bytes).w

-- damage is that of a file, at the place of a record in bytes
abbrev pub IsDamageAt : FileNo → ℕ → ℕ → StreamFault → Type 0
IsDamageAt file k place Shelf = Unit
IsDamageAt file k place (Damaged f at) = (f ≡ file) × (at ≡ place * (8 * k))

-- damage is that of a file
abbrev pub IsDamageOf : FileNo → StreamFault → Type 0
IsDamageOf file Shelf = Unit
IsDamageOf file (Damaged f at) = f ≡ file

-- the file has fewer records than so many, and the damage is where the first of them isn't whole
abbrev pub IsShort : ℕ → ℕ → List ℕ → StreamFault → Type 0
IsShort k count bytes Shelf = Unit
IsShort k count bytes (Damaged f at) = (length bytes < count * (8 * k)) × (at ≡ length bytes / (8 * k) * (8 * k))

-- each of the first n records is that of a value
abbrev pub AreValues : {T : Type 0} → (T → Type 0) → (T → List ℕ) → ℕ → List Rec → Type 0
AreValues {T} is_value words n records = All (λ r. (x : T) × is_value x × (words x ≡ r.w)) (take n records)

-- where a record stands at a place in a list, it is that of no value
abbrev pub IsNoValueAt : {T : Type 0} → (T → Type 0) → (T → List ℕ) → ℕ → List Rec → Type 0
IsNoValueAt {T} is_value words n records = IfSome (slice_get records n) (λ r. (x : T) → is_value x → words x ≢ r.w)

-- what is damaged is the record at a place
abbrev pub IsFillDamage : {T : Type 0} → (T → Type 0) → (T → List ℕ) → ℕ → ℕ → List ℕ → StreamFault → Type 0
IsFillDamage is_value words k place bytes Shelf = Unit
IsFillDamage is_value words k place bytes (Damaged f at) = IsDamaged is_value words k place bytes

-- what is answered of the record at a place: its value, or damage where it is damaged
abbrev pub IsAnswer : {T : Type 0} → (T → Type 0) → (T → List ℕ) → ℕ → ℕ → List ℕ → Result (Option T) StreamFault
    → Type 0
IsAnswer is_value words k place bytes (Ok (Some x)) = IsRecordOf words k place bytes x
IsAnswer is_value words k place bytes (Ok None) = Unit
IsAnswer is_value words k place bytes (Err Shelf) = Unit
IsAnswer is_value words k place bytes (Err (Damaged f at)) = IsDamaged is_value words k place bytes

-- the place that a stream has come to, in records
abbrev pub place_of : Reading → ℕ
place_of r = r.base + r.at

-- how many records wait in the window of a stream that goes forward
abbrev pub waits_ahead : Reading → ℕ
waits_ahead r = r.loaded - r.at

-- how many records wait in the window of a stream that comes from behind
abbrev pub waits_behind : Reading → ℕ
waits_behind r = r.at

-- how many records such a stream reads at once: as many as a window of that room, a piece and what is left of the
-- range allow
abbrev pub refill_ahead : ℕ → Reading → ℕ
refill_ahead room r = min (piece_records r.words room) (r.bound - place_of r)

abbrev pub refill_behind : ℕ → Reading → ℕ
refill_behind room r = min (piece_records r.words room) (place_of r - r.bound)

-- where a stream goes on is behind what it has given: the file, the width and the end of the range stay
pub record SameRange (old new : Reading) : Type 0 where
  pub file_is : new.file ≡ old.file
  pub words_are : new.words ≡ old.words
  pub bound_is : new.bound ≡ old.bound

-- the records that wait in the window are those of the bytes
abbrev pub AreLoaded : Reading → List Rec → List ℕ → Type 0
AreLoaded r window bytes = HoldsRecords r.words r.base r.loaded window bytes

-- what a stream keeps of its window, of so many records, and of its range
pub record IsReading (r : Reading) (room : ℕ) : Type 0 where
  pub words_some : 1 ≤ r.words
  pub words_most : r.words ≤ 8
  pub room_some : 8 ≤ room
  pub in_room : r.loaded ≤ room
  pub given : r.at ≤ r.loaded
  pub far : r.base + r.loaded ≤ most_words

-- a stream that ends at its bound
pub record IsForward (r : Reading) (room : ℕ) : Type 0 where
  pub reading : IsReading r room
  pub within : r.base + r.loaded ≤ r.bound
  pub bound_far : r.bound ≤ most_words

-- a stream that comes from behind, and ends where its bound is reached
pub record IsBackward (r : Reading) (room : ℕ) : Type 0 where
  pub reading : IsReading r room
  pub within : r.bound ≤ r.base

-- a value was the next of the range, and the place goes on by one; None is answered at the range's end alone
abbrev pub GoesOn : {T : Type 0} → (T → Type 0) → Reading → Reading → Result (Option T) StreamFault → Type 0
GoesOn is_value old new (Ok (Some x)) = is_value x × (place_of old < old.bound) × (place_of new ≡ place_of old + 1)
GoesOn is_value old new (Ok None) = (place_of old ≡ old.bound) × (place_of new ≡ old.bound)
GoesOn is_value old new (Err e) = (place_of old < old.bound) × IsDamageAt old.file old.words (place_of old) e
    × (place_of new ≡ place_of old)

-- a value was the last of what is left of the range, and the place goes back by one; None is answered at the range's
-- front alone
abbrev pub GoesBack : {T : Type 0} → (T → Type 0) → Reading → Reading → Result (Option T) StreamFault → Type 0
GoesBack is_value old new (Ok (Some x)) = is_value x × (old.bound < place_of old) × (place_of old ≡ place_of new + 1)
GoesBack is_value old new (Ok None) = (place_of old ≡ old.bound) × (place_of new ≡ old.bound)
GoesBack is_value old new (Err e) = (old.bound < place_of old) × IsDamageAt old.file old.words (place_of old - 1) e
    × (place_of new ≡ place_of old)

-- a window waits with a record that wasn't given, or none is left between the place and the bound
abbrev pub Waits : Reading → Reading → Result Bool StreamFault → Type 0
Waits old new (Ok true) = (new.at < new.loaded) × (place_of old < old.bound)
Waits old new (Ok false) = place_of old ≡ old.bound
Waits old new (Err e) = (place_of old < old.bound) × IsDamageAt old.file old.words (place_of old) e

-- a window in which a record waits is left; else as many records were read as window, piece and range allow, or fewer
abbrev pub FillsAhead : ℕ → Reading → Reading → Result Bool StreamFault → Type 0
FillsAhead room old new (Ok true) = (0 < waits_ahead old → new ≡ old)
    × (waits_ahead old ≡ 0 → waits_ahead new ≤ refill_ahead room old)
FillsAhead room old new (Ok false) = Unit
FillsAhead room old new (Err e) = Unit

-- the same of the record before the place
abbrev pub WaitsBehind : Reading → Reading → Result Bool StreamFault → Type 0
WaitsBehind old new (Ok true) = (0 < new.at) × (old.bound < place_of old)
WaitsBehind old new (Ok false) = place_of old ≡ old.bound
WaitsBehind old new (Err e) = (old.bound < place_of old) × IsDamageAt old.file old.words (place_of old - 1) e

-- a window in which a record waits is left; else as many records were read as window, piece and range allow
abbrev pub FillsBehind : ℕ → Reading → Reading → Result Bool StreamFault → Type 0
FillsBehind room old new (Ok true) = (0 < waits_behind old → new ≡ old)
    × (waits_behind old ≡ 0 → waits_behind new ≡ refill_behind room old)
FillsBehind room old new (Ok false) = Unit
FillsBehind room old new (Err e) = Unit

-- of the records that waited one is given; where none did, of as many as window, piece and range allow, or fewer
abbrev pub TakesAhead : {T : Type 0} → ℕ → Reading → Reading → Result (Option T) StreamFault → Type 0
TakesAhead room old new (Ok (Some x)) = (0 < waits_ahead old → waits_ahead new + 1 ≡ waits_ahead old)
    × (waits_ahead old ≡ 0 → waits_ahead new + 1 ≤ refill_ahead room old)
TakesAhead room old new (Ok None) = Unit
TakesAhead room old new (Err e) = Unit

-- fewer were read only where the record behind them isn't whole
abbrev pub StopsAhead : ℕ → Reading → Reading → List ℕ → Result Bool StreamFault → Type 0
StopsAhead room old new bytes (Ok true) = waits_ahead old ≡ 0 → waits_ahead new < refill_ahead room old →
    length bytes < (place_of new + waits_ahead new + 1) * (8 * old.words)
StopsAhead room old new bytes (Ok false) = Unit
StopsAhead room old new bytes (Err e) = Unit

-- the same where one of them was given
abbrev pub EndsAhead : {T : Type 0} → ℕ → Reading → Reading → List ℕ → Result (Option T) StreamFault → Type 0
EndsAhead room old new bytes (Ok (Some x)) = waits_ahead old ≡ 0 → waits_ahead new + 1 < refill_ahead room old →
    length bytes < (place_of new + waits_ahead new + 1) * (8 * old.words)
EndsAhead room old new bytes (Ok None) = Unit
EndsAhead room old new bytes (Err e) = Unit

-- of the records that waited one is given; where none did, of as many as window, piece and range allow
abbrev pub TakesBehind : {T : Type 0} → ℕ → Reading → Reading → Result (Option T) StreamFault → Type 0
TakesBehind room old new (Ok (Some x)) = (0 < waits_behind old → waits_behind new + 1 ≡ waits_behind old)
    × (waits_behind old ≡ 0 → waits_behind new + 1 ≡ refill_behind room old)
TakesBehind room old new (Ok None) = Unit
TakesBehind room old new (Err e) = Unit

-- no damage is found but where the record at a place isn't whole
abbrev pub IsTorn : {X : Type 0} → ℕ → ℕ → List ℕ → Result X StreamFault → Type 0
IsTorn k place bytes (Ok x) = Unit
IsTorn k place bytes (Err Shelf) = Unit
IsTorn k place bytes (Err (Damaged f at)) = length bytes < (place + 1) * (8 * k)
