-- what an operation says of the tuples that a sweep from the root to the leaves meets
use Rattle.std.specs.Prelude.{◌≡◌, ◌+◌, ◌^◌, ◌<◌, ◌≤◌, ℕ, suc, Bool, true, false, List, ◌++◌, replicate}
use Rattle.canon_file.specs.Walks.{table_of}
use Rattle.top_down.specs.declared.tuple.Tuple.{Tuple}
use Rattle.top_down.specs.declared.tuple.Goal.{Goal}
use Rattle.top_down.specs.declared.tuple.Goal.TheVariants.{End, Go}
use Rattle.top_down.specs.Tuples.{Targets, AreFrom, level_of_tuple, parts}

-- an operation on tuples
pub record Rule : Type 0 where
  -- the tuple on a side of one of that level, where its members' low and high pointers are given
  pub below : ℕ → Bool → Tuple → Tuple → Tuple
  -- what is made of a tuple
  pub goal : Tuple → Goal
  -- whether the tuple may be asked for from that level on
  pub may_ask : ℕ → Tuple → Bool
  -- the table of h variables from level i on, of the members' tables
  pub table : ℕ → ℕ → List Bool → List Bool → List Bool → List Bool

-- the tuple on a side
abbrev pub below_on : Rule → Targets → Bool → Tuple → Tuple
below_on rule targets side x =
    rule.below (level_of_tuple x) side (parts targets (level_of_tuple x) false x)
    (parts targets (level_of_tuple x) true x)

-- the table of h variables from level i on that a tuple stands for
abbrev pub table_for : Rule → Targets → ℕ → ℕ → Tuple → List Bool
table_for rule targets h i x =
    rule.table h i (table_of targets.first h i x.first) (table_of targets.second h i x.second)
    (table_of targets.third h i x.third)

-- the tuple may be asked for from level i on, where diagrams have n variables
pub record IsAsked (n : ℕ) (rule : Rule) (i : ℕ) (x : Tuple) : Type 0 where
  pub from : AreFrom n i x
  pub may : rule.may_ask i x ≡ true

-- the laws of an operation on n variables
pub record IsRule (n : ℕ) (rule : Rule) (targets : Targets) : Type 0 where
  -- at its level a tuple's table is those of the tuples on its two sides
  pub splits : (h : ℕ) (x : Tuple) → IsAsked n rule (level_of_tuple x) x → suc (level_of_tuple x + h) ≡ n
      → table_for rule targets (suc h) (level_of_tuple x) x
      ≡ table_for rule targets h (suc (level_of_tuple x)) (below_on rule targets false x)
      ++ table_for rule targets h (suc (level_of_tuple x)) (below_on rule targets true x)
  -- above it the table is the same one twice
  pub passes : (h i : ℕ) (x : Tuple) → IsAsked n rule i x → suc (i + h) ≡ n → i < level_of_tuple x
      → table_for rule targets (suc h) i x ≡ table_for rule targets h (suc i) x ++ table_for rule targets h (suc i) x
  -- the tuples on its sides may be asked for below it
  pub sides_asked : (x : Tuple) (side : Bool) → level_of_tuple x < n → IsAsked n rule (level_of_tuple x) x
      → IsAsked n rule (suc (level_of_tuple x)) (below_on rule targets side x)
  -- a tuple may be asked for on each level from the first down to its own
  pub later : (i : ℕ) (x : Tuple) → IsAsked n rule i x → i < level_of_tuple x → rule.may_ask (suc i) x ≡ true
  -- where the rule says a constant, the table is that constant
  pub ends : (h i : ℕ) (x : Tuple) (value : Bool) → i + h ≡ n → IsAsked n rule i x → rule.goal x ≡ End value
      → table_for rule targets h i x ≡ replicate (2 ^ h) value
  -- where it says a tuple, the table is that tuple's, which may be asked for and has a node
  pub goes : (h i : ℕ) (x y : Tuple) → i + h ≡ n → IsAsked n rule i x → rule.goal x ≡ Go y
      → table_for rule targets h i x ≡ table_for rule targets h i y
  pub goes_asked : (i : ℕ) (x y : Tuple) → i ≤ n → IsAsked n rule i x → rule.goal x ≡ Go y → IsAsked n rule i y
  pub goes_low : (i : ℕ) (x y : Tuple) → i ≤ n → IsAsked n rule i x → rule.goal x ≡ Go y → level_of_tuple y < n
