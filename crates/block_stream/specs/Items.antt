-- Values whose records stand in the bytes of a file, and the list of those that a stream hasn't given.
use Rattle.std.specs.Prelude.{◌≡◌, ℕ, ◌+◌, ◌*◌, ◌≤◌, List, [], ◌∷◌, ◌++◌, length, take, map, All, Result, Option, Ok, Err, Some, None}
use Rattle.std.specs.List.{flat_map}
use Rattle.std.specs.Int.{w64, to_be_bytes}
use Rattle.rec_words.specs.declared.rec.Rec.{Rec}
use Rattle.shelf_model.specs.declared.fault.StreamFault.{StreamFault}
use Rattle.shelf_model.specs.declared.fault.StreamFault.TheVariants.{Shelf, Damaged}
use Rattle.block_stream.specs.declared.reading.Reading.{Reading}
use Rattle.block_stream.specs.Records.{records_of, from_place}
use Rattle.block_stream.specs.Reads.{place_of}

-- the record of a value
abbrev pub item_record : {T : Type 0} → (T → List ℕ) → T → Rec
item_record words x = record { w = words x }

-- the bytes of a value: its first k words
abbrev pub item_bytes : {T : Type 0} → (T → List ℕ) → ℕ → T → List ℕ
item_bytes words k x = flat_map (to_be_bytes w64) (take k (words x))

-- the records from a place on are whole, and are those of these values
pub record AreItems {T : Type 0} (is_value : T → Type 0) (words : T → List ℕ) (k place : ℕ) (bytes : List ℕ)
    (xs : List T) : Type 0 where
  pub values : All is_value xs
  pub whole : (place + length xs) * (8 * k) ≤ length bytes
  pub same : map (item_record words) xs ≡ records_of k (length xs) (from_place k place bytes)

-- these values stand between the stream's place and the end of its range
pub record AreAhead {T : Type 0} (is_value : T → Type 0) (words : T → List ℕ) (r : Reading) (bytes : List ℕ)
    (xs : List T) : Type 0 where
  pub items : AreItems is_value words r.words (place_of r) bytes xs
  pub all : place_of r + length xs ≡ r.bound

-- these values stand between the front of the range and the stream's place
pub record AreBehind {T : Type 0} (is_value : T → Type 0) (words : T → List ℕ) (r : Reading) (bytes : List ℕ)
    (xs : List T) : Type 0 where
  pub items : AreItems is_value words r.words r.bound bytes xs
  pub all : r.bound + length xs ≡ place_of r

-- the first of the values is given, and the others are left; None is answered where there is none
abbrev pub GivesFirst : {T : Type 0} → (List T → Type 0) → List T → Result (Option T) StreamFault → Type 0
GivesFirst {T} Left xs (Ok (Some x)) = (rest : List T) × (xs ≡ x ∷ rest) × Left rest
GivesFirst Left xs (Ok None) = xs ≡ []
GivesFirst Left xs (Err Shelf) = Unit
GivesFirst Left xs (Err (Damaged f at)) = ⊥

-- the last of the values is given, and the others are left; None is answered where there is none
abbrev pub GivesLast : {T : Type 0} → (List T → Type 0) → List T → Result (Option T) StreamFault → Type 0
GivesLast {T} Left xs (Ok (Some x)) = (rest : List T) × (xs ≡ rest ++ x ∷ []) × Left rest
GivesLast Left xs (Ok None) = xs ≡ []
GivesLast Left xs (Err Shelf) = Unit
GivesLast Left xs (Err (Damaged f at)) = ⊥
