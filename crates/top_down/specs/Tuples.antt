-- the tuples of pointers that sweeps from the root to the leaves meet, and the tables that their members stand for
use Rattle.std.specs.Prelude.{ℕ, suc, ◌<◌, ◌≤◌, Bool, false, min, List}
use Rattle.rec_words.specs.Words.{terminal, level_of}
use Rattle.bool_tables.specs.Tables.{value_at, table_with}
use Rattle.canon_file.specs.declared.row.Row.{Row}
use Rattle.canon_file.specs.Canon.{canon_nodes}
use Rattle.canon_file.specs.Walks.{row_at}
use Rattle.arc_diagrams.specs.Arcs.{IsWithin, onward}
use Rattle.top_down.specs.declared.tuple.Tuple.{Tuple}

-- what stands in a member that isn't used
abbrev pub unused : ℕ
unused = terminal false

-- the least deep of the members' levels
abbrev pub level_of_tuple : Tuple → ℕ
level_of_tuple x = min (level_of x.first) (min (level_of x.second) (level_of x.third))

-- which two pointers each node has, for the nodes of each member's diagram
pub record Targets : Type 0 where
  pub first : ℕ → Row
  pub second : ℕ → Row
  pub third : ℕ → Row

-- where the members lead on a side from level i: a node of the level to its pointer there, and any other pointer to
-- itself
abbrev pub parts : Targets → ℕ → Bool → Tuple → Tuple
parts targets i side x = record {
  first = onward targets.first i side x.first;
  second = onward targets.second i side x.second;
  third = onward targets.third i side x.third;
}

-- the table of h variables in which each place has f of the three tables' values there
abbrev pub joined_by : (Bool → Bool → Bool → Bool) → ℕ → List Bool → List Bool → List Bool → List Bool
joined_by f h t u v = table_with h (λ p. f (value_at t p) (value_at u p) (value_at v p))

-- the pointer is of level i or deeper, and a truth value or a node of a level below n
pub record IsFrom (n i w : ℕ) : Type 0 where
  pub deep : i ≤ level_of w
  pub within : IsWithin n w

-- so are all members of the tuple
pub record AreFrom (n i : ℕ) (x : Tuple) : Type 0 where
  pub first : IsFrom n i x.first
  pub second : IsFrom n i x.second
  pub third : IsFrom n i x.third

-- a node's two pointers lie deeper than it, each a truth value or a node of a level below n
abbrev pub IsDeepening : ℕ → (ℕ → Row) → Type 0
IsDeepening n targets = (w : ℕ) → level_of w < n
    → IsFrom n (suc (level_of w)) (targets w).low × IsFrom n (suc (level_of w)) (targets w).high

-- so do those of each member's diagram
pub record AreDeepening (n : ℕ) (targets : Targets) : Type 0 where
  pub first : IsDeepening n targets.first
  pub second : IsDeepening n targets.second
  pub third : IsDeepening n targets.third

-- which pointers the nodes of a table's canonical diagram have
abbrev pub canon_targets : ℕ → List Bool → ℕ → Row
canon_targets n t = row_at (canon_nodes n t)
