-- the arcs that a sweep from the root to the leaves has made, the asks that are open, and the identifiers that it has
-- used
use Rattle.std.specs.Prelude.{◌≡◌, ◌⊎◌, ◌+◌, ◌*◌, ◌<◌, ◌≤◌, ◌==◌, ℕ, suc, Bool, true, false, cond, List, [], ◌∷◌, ◌++◌, length}
use Rattle.rec_words.specs.Words.{terminal, node_word, level_of}
use Rattle.canon_file.specs.Members.{Has}
use Rattle.arc_file.specs.declared.arc.Arc.{Arc}
use Rattle.arc_file.specs.Files.{IsInnerOrder, IsEndOrder}
use Rattle.arc_diagrams.specs.Arcs.{target_on, targets_of, IsComplete}
use Rattle.canon_file.specs.Walks.{table_of}
use Rattle.top_down.specs.declared.tuple.Tuple.{Tuple}
use Rattle.top_down.specs.Tuples.{Targets, level_of_tuple}
use Rattle.top_down.specs.declared.tuple.Goal.{Goal}
use Rattle.top_down.specs.declared.tuple.Goal.TheVariants.{End, Go}
use Rattle.top_down.specs.Rules.{Rule, IsAsked, below_on, table_for}

-- an ask: a source wants, on a side, the pointer of a tuple's function
pub record Ask : Type 0 where
  pub source : ℕ
  pub high : Bool
  pub tuple : Tuple

-- the identifier of a new tuple of that level, where the used ones stand newest first: the next number of the
-- level, or its number 0
abbrev pub next_identifier : List ℕ → ℕ → ℕ
next_identifier [] level = node_word level 0
next_identifier (s ∷ used) level = cond (level_of s == level) (suc s) (node_word level 0)

-- the newest identifier isn't deeper than that level
abbrev pub IsUpTo : List ℕ → ℕ → Type 0
IsUpTo [] level = Unit {0}
IsUpTo (s ∷ used) level = level_of s ≤ level

-- the identifiers, the newest first: each was the next of its level when it was used, and levels never fall
abbrev pub AreNumbered : List ℕ → Type 0
AreNumbered [] = Unit {0}
AreNumbered (s ∷ used) = (s ≡ next_identifier used (level_of s)) × IsUpTo used (level_of s) × AreNumbered used

-- the source has an arc or an ask on that side
abbrev pub IsServed : List Arc → List Arc → List Ask → ℕ → Bool → Type 0
IsServed inner ends asks s side =
    ((a : Arc) × (Has a inner ⊎ Has a ends) × (a.source ≡ s) × (a.high ≡ side))
    ⊎ ((e : Ask) × Has e asks × (e.source ≡ s) × (e.high ≡ side))

-- what a sweep has made: the arcs to nodes and those to truth values, the asks that are open, and the identifiers
-- that are used, where tuple tells which tuple each of them answers
pub record Grows (n root : ℕ) (rule : Rule) (targets : Targets) (inner ends : List Arc) (asks : List Ask)
    (used : List ℕ) (tuple : ℕ → Tuple) : Type 0 where
  -- the root is used, and each other identifier is the target of an arc
  pub begins : Has root used
  pub met : (s : ℕ) → Has s used → (root ≡ s) ⊎ ((a : Arc) × Has a inner × (a.target ≡ s))
  -- an identifier has the level of its tuple, and different ones have different tuples
  pub levels : (s : ℕ) → Has s used → (level_of s ≡ level_of_tuple (tuple s)) × (level_of s < n)
  pub asked : (s : ℕ) → Has s used → IsAsked n rule (level_of s) (tuple s)
  pub differ : (s t : ℕ) → Has s used → Has t used → tuple s ≡ tuple t → s ≡ t
  pub numbered : AreNumbered used
  -- each side of an identifier has an arc or an ask, and there are no more of these
  pub sides : (s : ℕ) → Has s used → (side : Bool) → IsServed inner ends asks s side
  pub count : length inner + length ends + length asks ≡ 2 * length used
  -- arcs lead and asks go where the rule says for the tuple on that side of their source
  pub inner_right : (a : Arc) → Has a inner → Has a.source used × Has a.target used
      × (rule.goal (below_on rule targets a.high (tuple a.source)) ≡ Go (tuple a.target))
  pub end_right : (a : Arc) → Has a ends → (value : Bool) × Has a.source used × (a.target ≡ terminal value)
      × (rule.goal (below_on rule targets a.high (tuple a.source)) ≡ End value)
  pub ask_right : (e : Ask) → Has e asks → Has e.source used ×
      (rule.goal (below_on rule targets e.high (tuple e.source)) ≡ Go e.tuple)
  -- both kinds of arcs are in the order of their file
  pub inner_order : IsInnerOrder inner
  pub end_order : IsEndOrder ends

-- the arc that answers an ask
abbrev pub answer : Ask → ℕ → Arc
answer e s = record { source = e.source; high = e.high; target = s }

-- the arc or the ask of a new identifier on one side
abbrev pub side_arcs : ℕ → Bool → Goal → List Arc
side_arcs s side (End value) = record { source = s; high = side; target = terminal value } ∷ []
side_arcs s side (Go x) = []

abbrev pub side_asks : ℕ → Bool → Goal → List Ask
side_asks s side (End value) = []
side_asks s side (Go x) = record { source = s; high = side; tuple = x } ∷ []

-- those of both sides
abbrev pub new_arcs : Rule → Targets → ℕ → Tuple → List Arc
new_arcs rule targets s x = side_arcs s false (rule.goal (below_on rule targets false x)) ++ side_arcs s true
    (rule.goal (below_on rule targets true x))

abbrev pub new_asks : Rule → Targets → ℕ → Tuple → List Ask
new_asks rule targets s x = side_asks s false (rule.goal (below_on rule targets false x)) ++ side_asks s true
    (rule.goal (below_on rule targets true x))

-- the tuples, with that of one identifier more
abbrev pub with_tuple : ℕ → Tuple → (ℕ → Tuple) → ℕ → Tuple
with_tuple s x tuple v = cond (v == s) x (tuple v)

-- the arcs complete what is made: they are a complete set with all that is kept, in which the source of each ask
-- leads on its side to a pointer that stands for the function of the ask's tuple
pub record Completes (n root : ℕ) (rule : Rule) (targets : Targets) (inner ends : List Arc) (asks : List Ask)
    (whole : List Arc) : Type 0 where
  pub complete : IsComplete n root whole
  pub has_inner : (a : Arc) → Has a inner → Has a whole
  pub has_ends : (a : Arc) → Has a ends → Has a whole
  pub answered : (e : Ask) → Has e asks → (h : ℕ) → suc (level_of e.source + h) ≡ n
      → table_of (targets_of whole) h (suc (level_of e.source)) (target_on whole e.source e.high)
      ≡ table_for rule targets h (suc (level_of e.source)) e.tuple
