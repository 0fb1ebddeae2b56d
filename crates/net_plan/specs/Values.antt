-- The values of a netlist's signals, and their tables.
use Rattle.std.specs.Prelude.{◌≡◌, ℕ, ◌<◌, ◌^◌, ◌==◌, Bool, true, not, ◌&&◌, List, [], ◌∷◌, length, map, slice_index, if◌then◌else◌}
use Rattle.std.specs.List.{list_any}
use Rattle.depth_first.specs.Graph.{edges_of, has}
use Rattle.blif_reader.specs.Netlist.{Net, IsBlock, Cover, cover_at}
use Rattle.bool_tables.specs.Tables.{value_at, digit}
use Rattle.bool_tables.specs.Steps.{table_of_step, tables_after}
use Rattle.bool_tables.specs.declared.steps.Step.{Step}
use Rattle.bool_tables.specs.declared.steps.Planned.{Planned}

-- a character of a row holds for a value: 1 for 1, 0 for 0, and a hyphen for both
abbrev pub holds : ℕ → Bool → Bool
holds cell value = if cell == 49 then value else if cell == 48 then not value else true

-- a row covers the values of a block's inputs: each character holds for the value of its input
abbrev pub covers : List ℕ → List Bool → Bool
covers [] values = true
covers (c ∷ cells) [] = true
covers (c ∷ cells) (v ∷ values) = holds c v && covers cells values

-- the value that a cover gives: the output of its rows where some row covers, and the other value where none does; the
-- output of no rows is 1
abbrev pub cover_value : Cover → List Bool → Bool
cover_value cover values = if list_any (λ row. covers row values) cover.rows then cover.value else not cover.value

-- a signal has a value: an input has its own, and a block has the one that its cover gives to the values of the signals
-- that it reads
pub data HasValue (net : Net) (inputs : ℕ → Bool) : ℕ → Bool → Type 0 where
  input : (s : ℕ) → s < net.inputs → HasValue net inputs s (inputs s)
  block : (s : ℕ) (value : ℕ → Bool) → IsBlock net s
      → ((t : ℕ) → has (edges_of net.edges s) t ≡ true → HasValue net inputs t (value t))
      → HasValue net inputs s (cover_value (cover_at net s) (map value (edges_of net.edges s)))

-- the values of the inputs at a place of a table of n variables: each is the digit of its level
abbrev pub inputs_at : ℕ → List ℕ → ℕ → ℕ → Bool
inputs_at n levels place i = digit n (slice_index levels i) place

-- a table of n variables is that of a signal: at each place it has the value of the signal there
pub record IsTableOf (n : ℕ) (net : Net) (levels : List ℕ) (s : ℕ) (table : List Bool) : Type 0 where
  pub size : length table ≡ 2 ^ n
  pub values : (place : ℕ) → place < 2 ^ n → HasValue net (inputs_at n levels place) s (value_at table place)

-- the steps that are planned, without their names
abbrev pub steps_of : List Planned → List Step
steps_of planned = map (λ s. s.step) planned

-- behind any steps with numbers below first, the steps make the table of each wanted signal
abbrev pub MakeTables : Net → List ℕ → List ℕ → ℕ → List Step → List ℕ → Type 0
MakeTables net levels wanted first steps made =
    (n i : ℕ) (before : List (List Bool)) (planned : List Planned) → length before ≡ first → steps_of planned ≡ steps
    → i < length wanted
    → IsTableOf n net levels (slice_index wanted i) (table_of_step (tables_after n before planned) (slice_index made i))
