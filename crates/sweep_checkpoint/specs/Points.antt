-- The bytes of a checkpoint: words of eight bytes, the highest first.
use Rattle.std.specs.Prelude.{◌≡◌, ℕ, ◌<◌, ◌^◌, List, [], ◌∷◌, ◌++◌, All, length, replicate}
use Rattle.std.specs.List.{flat_map}
use Rattle.std.specs.Int.{w64, to_be_bytes}
use Rattle.run_tiers.specs.declared.run.Run.{Run}
use Rattle.sweep_core.specs.declared.checkpoint.Checkpoint.{Checkpoint}

-- the bytes of a checkpoint
abbrev pub point_size : ℕ
point_size = 16384

-- those of them before the unused ones at the end
abbrev pub tables_end : ℕ
tables_end = 15872

-- the bytes of words, one behind the other
abbrev pub words_bytes : List ℕ → List ℕ
words_bytes words = flat_map (to_be_bytes w64) words

-- a slot: the part, the record that is read next, and the number of records
abbrev pub run_bytes : Run → List ℕ
run_bytes r = words_bytes (r.part ∷ r.next ∷ r.end ∷ [])

-- the slots of a table
abbrev pub table_bytes : List Run → List ℕ
table_bytes table = flat_map run_bytes table

-- step number, sweep, turns, next part number, budget and number of tables
abbrev pub head_words : Checkpoint → List ℕ
head_words c = c.step ∷ c.sweep ∷ c.turns ∷ c.next_part ∷ c.budget ∷ c.tables ∷ []

-- the six words in front, the words that the sweep carries, and the tables of runs
unfoldable pub used_bytes : Checkpoint → List ℕ
used_bytes c = words_bytes (head_words c) ++ words_bytes c.carry ++ flat_map table_bytes c.runs

-- those, and bytes 0 behind them
unfoldable pub point_bytes : Checkpoint → List ℕ
point_bytes c = used_bytes c ++ replicate 512 0

-- as many bytes 0 as a checkpoint has
unfoldable pub blank_bytes : List ℕ
blank_bytes = replicate 16384 0

-- each word has 64 bits
abbrev pub AreWords : List ℕ → Type 0
AreWords words = All (λ word. word < 2 ^ 64) words

-- so has each of a slot's three
pub record AreThree (r : Run) : Type 0 where
  pub part : r.part < 2 ^ 64
  pub next : r.next < 2 ^ 64
  pub last : r.end < 2 ^ 64

-- and of each slot's
abbrev pub AreRuns : List Run → Type 0
AreRuns table = All AreThree table

-- a table of 64 slots
pub record IsTable (table : List Run) : Type 0 where
  pub slots : length table ≡ 64
  pub runs : AreRuns table

-- each is such a table
abbrev pub AreTables : List (List Run) → Type 0
AreTables tables = All IsTable tables

-- each field fits its place
pub record Fits (c : Checkpoint) : Type 0 where
  pub words : AreWords (head_words c)
  pub carried : length c.carry ≡ 250
  pub carry : AreWords c.carry
  pub tabled : length c.runs ≡ 9
  pub tables : AreTables c.runs
