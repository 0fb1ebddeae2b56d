-- The entry of a committed step, and its bytes.
use Rattle.std.specs.Prelude.{◌≡◌, ℕ, ◌*◌, ◌≤◌, ◌<◌, ◌^◌, ◌⊎◌, List, [], ◌∷◌, ◌++◌, length, drop, replicate, All}
use Rattle.byteorder.specs.Endian.{big_bytes}
use Rattle.shelf_model.specs.declared.file_no.FileNo.{FileNo}
use Rattle.shelf_model.specs.declared.fault.StreamFault.{StreamFault}
use Rattle.shelf_model.specs.declared.fault.StreamFault.TheVariants.{Shelf, Damaged}
use Rattle.catalogue.specs.Files.{entry_size, catalogue}
use Rattle.catalogue.specs.Counts.{entry_at}
use Rattle.catalogue.specs.declared.layout.Entry.{Entry}

-- step number, kind, answer, length of the name, a 0, count, turns, next part number, the name and 33 bytes 0
unfoldable pub entry_bytes : Entry → List ℕ
entry_bytes e =
    big_bytes 4 e.number ++ (e.kind ∷ e.answer ∷ e.name_len ∷ 0 ∷ [])
    ++ big_bytes 8 e.count ++ big_bytes 8 e.turns ++ big_bytes 8 e.parts
    ++ e.name ++ replicate 33 0

-- each field fits its place
pub record Fits (e : Entry) : Type 0 where
  pub number : e.number < 2 ^ 32
  pub count : e.count < 2 ^ 64
  pub turns : e.turns < 2 ^ 64
  pub parts : e.parts < 2 ^ 64
  pub name : length e.name ≡ 63

-- one of three kinds; only an answer is 1, and then counts nothing; only a diagram has a name, with bytes 0 behind it
pub record KeepsLayout (e : Entry) : Type 0 where
  pub kind : (1 ≤ e.kind) × (e.kind ≤ 3)
  pub answer : (e.answer ≡ 0) ⊎ ((e.answer ≡ 1) × (e.kind ≡ 3) × (e.count ≡ 0))
  pub named : (e.name_len ≡ 0) ⊎ ((e.name_len ≤ 63) × (e.kind ≡ 1))
  pub padded : All (λ b. b ≡ 0) (drop e.name_len e.name)
  pub worked : 1 ≤ e.turns

-- an entry whose fields fit their places and keep the layout
pub record IsEntry (e : Entry) : Type 0 where
  pub fits : Fits e
  pub layout : KeepsLayout e

-- the entry of step k, as it stands at its place
pub record IsEntryOf (k : ℕ) (r : FileNo → List ℕ) (e : Entry) : Type 0 where
  pub entry : IsEntry e
  pub number : e.number ≡ k
  pub bytes : entry_at k r ≡ entry_bytes e

-- the entry of step k is damaged exactly where no entry of that step stands whole at its place
abbrev pub IsEntryFault : ℕ → (FileNo → List ℕ) → StreamFault → Type 0
IsEntryFault k r Shelf = Unit
IsEntryFault k r (Damaged f at) = (f ≡ catalogue) × (at ≡ entry_size * k) × ((e : Entry) → ¬ (IsEntryOf k r e))
