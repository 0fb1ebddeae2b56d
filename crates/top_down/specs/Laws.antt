-- the laws of sweeps from the root to the leaves
use Rattle.std.specs.Prelude.{◌≡◌, ◌<◌, ◌^◌, ℕ, Bool, false, List, [], ◌∷◌, ◌++◌, length, replicate}
use Rattle.std.specs.Ordering.{is_lt}
use Rattle.std.specs.List.Sorted.{IsPermutation}
use Rattle.rec_words.specs.Words.{level_numbers, node_word, level_of}
use Rattle.bool_tables.specs.Steps.{step_table}
use Rattle.bool_tables.specs.declared.steps.Bin.{Bin}
use Rattle.bool_tables.specs.declared.steps.Quant.{Quant}
use Rattle.bool_tables.specs.declared.steps.Step.TheVariants.{Pair, Ite, Quantify, Restrict}
use Rattle.canon_file.specs.Members.{Has}
use Rattle.canon_file.specs.Canon.{canon_root}
use Rattle.canon_file.specs.Laws.{HasForm}
use Rattle.arc_file.specs.declared.arc.Arc.{Arc}
use Rattle.arc_file.specs.Files.{end_cmp}
use Rattle.arc_diagrams.specs.Arcs.{StandFor}
use Rattle.arc_diagrams.specs.Laws.{IsDiagramOf}
use Rattle.top_down.specs.declared.tuple.Tuple.{Tuple}
use Rattle.top_down.specs.Tuples.{Targets, unused, canon_targets, level_of_tuple}
use Rattle.top_down.specs.declared.tuple.Goal.TheVariants.{End, Go}
use Rattle.top_down.specs.Rules.{Rule, IsAsked, IsRule, table_for}
use Rattle.top_down.specs.Asks.{Ask, IsUpTo, AreNumbered, next_identifier, Grows, answer, new_arcs, new_asks, with_tuple, Completes}
use Rattle.top_down.specs.Operations.{product_rule, choice_rule, quantify_rule, restrict_rule}

-- at first the root answers its tuple, and its two sides are ends or are asked for
abbrev pub FirstGrows : ℕ → Rule → Targets → Type 0
FirstGrows n rule targets = (x : Tuple) → IsAsked n rule 0 x → level_of_tuple x < n
    → (let root : ℕ = node_word (level_of_tuple x) 0 in
    Grows n root rule targets [] (new_arcs rule targets root x) (new_asks rule targets root x) (root ∷ []) (λ v. x))

-- an ask for the tuple of the newest identifier is answered by that identifier, where no arc to it is of a later source
abbrev pub KnownGrows : ℕ → Rule → Targets → Type 0
KnownGrows n rule targets = (root : ℕ) (inner ends : List Arc) (e : Ask) (asks : List Ask) (s : ℕ) (used : List ℕ)
    (tuple : ℕ → Tuple)
    → Grows n root rule targets inner ends (e ∷ asks) (s ∷ used) tuple → tuple s ≡ e.tuple
    → ((a : Arc) → Has a inner → a.target ≡ s → is_lt (end_cmp (answer e s) a) ≡ false)
    → Grows n root rule targets (inner ++ answer e s ∷ []) ends asks (s ∷ used) tuple

-- an ask for a tuple that no identifier has, of no level above the newest one's, is answered by the next
-- identifier, whose two sides are ends or are asked for
abbrev pub NewGrows : ℕ → Rule → Targets → Type 0
NewGrows n rule targets = (root : ℕ) (inner ends : List Arc) (e : Ask) (asks : List Ask) (used : List ℕ)
    (tuple : ℕ → Tuple)
    → Grows n root rule targets inner ends (e ∷ asks) used tuple
    → IsUpTo used (level_of_tuple e.tuple) → length used < level_numbers
    → ((t : ℕ) → Has t used → tuple t ≡ e.tuple → ⊥)
    → (let s : ℕ = next_identifier used (level_of_tuple e.tuple) in
    Grows n root rule targets (inner ++ answer e s ∷ []) (ends ++ new_arcs rule targets s e.tuple)
    (new_asks rule targets s e.tuple ++ asks)
    (s ∷ used) (with_tuple s e.tuple tuple))

-- the asks may stand in any order
abbrev pub AsksInAnyOrder : ℕ → Rule → Targets → Type 0
AsksInAnyOrder n rule targets = (root : ℕ) (inner ends : List Arc) (asks others : List Ask) (used : List ℕ)
    (tuple : ℕ → Tuple)
    → IsPermutation asks others → Grows n root rule targets inner ends asks used tuple
    → Grows n root rule targets inner ends others used tuple

-- the numbers of a level begin with 0 and have no gap
abbrev pub NumbersAreFull : Type 0
NumbersAreFull = (used : List ℕ) → AreNumbered used → (s k : ℕ) → Has s used → node_word (level_of s) k < s
    → Has (node_word (level_of s) k) used

-- what is made, completed by arcs that stand for the functions of the open asks, stands for the table of the roots'
-- tuple
abbrev pub OpenStands : ℕ → Rule → Targets → Type 0
OpenStands n rule targets = (roots : Tuple) (root : ℕ) (inner ends : List Arc) (asks : List Ask) (used : List ℕ)
    (tuple : ℕ → Tuple) (whole : List Arc)
    → IsAsked n rule 0 roots → rule.goal roots ≡ Go (tuple root) → Grows n root rule targets inner ends asks used tuple
    → Completes n root rule targets inner ends asks whole → StandFor n root whole (table_for rule targets n 0 roots)

-- with no ask open, what is made is a diagram of the table of the roots' tuple
abbrev pub ClosedStands : ℕ → Rule → Targets → Type 0
ClosedStands n rule targets = (roots : Tuple) (root : ℕ) (inner ends : List Arc) (used : List ℕ) (tuple : ℕ → Tuple)
    → IsAsked n rule 0 roots → rule.goal roots ≡ Go (tuple root) → Grows n root rule targets inner ends [] used tuple
    → IsDiagramOf n root (inner ++ ends) (table_for rule targets n 0 roots)

-- the root of a canonical diagram, once and twice, and its nodes
abbrev pub roots_of_one : ℕ → List Bool → Tuple
roots_of_one n t = record { first = canon_root n t; second = unused; third = unused }

abbrev pub root_twice : ℕ → List Bool → Tuple
root_twice n t = record { first = canon_root n t; second = canon_root n t; third = unused }

abbrev pub targets_of_one : ℕ → List Bool → Targets
targets_of_one n t = record { first = canon_targets n t; second = canon_targets n t; third = canon_targets n t }

-- the roots of two canonical diagrams, and their nodes
abbrev pub roots_of_two : ℕ → List Bool → List Bool → Tuple
roots_of_two n t u = record { first = canon_root n t; second = canon_root n u; third = unused }

abbrev pub targets_of_two : ℕ → List Bool → List Bool → Targets
targets_of_two n t u = record { first = canon_targets n t; second = canon_targets n u; third = canon_targets n u }

-- those of three
abbrev pub roots_of_three : ℕ → List Bool → List Bool → List Bool → Tuple
roots_of_three n t u v = record { first = canon_root n t; second = canon_root n u; third = canon_root n v }

abbrev pub targets_of_three : ℕ → List Bool → List Bool → List Bool → Targets
targets_of_three n t u v = record { first = canon_targets n t; second = canon_targets n u; third = canon_targets n v }

-- what a rule on diagrams with these nodes and roots makes: the table
pub record Makes (n : ℕ) (rule : Rule) (targets : Targets) (roots : Tuple) (made : List Bool) : Type 0 where
  pub is_rule : IsRule n rule targets
  pub asked : IsAsked n rule 0 roots
  -- with no ask open, what is made is a diagram of the table
  pub closed : (root : ℕ) (inner ends : List Arc) (used : List ℕ) (tuple : ℕ → Tuple)
      → rule.goal roots ≡ Go (tuple root)
      → Grows n root rule targets inner ends [] used tuple → IsDiagramOf n root (inner ++ ends) made
  -- before, what completes it stands for the table
  pub opened : (root : ℕ) (inner ends : List Arc) (asks : List Ask) (used : List ℕ) (tuple : ℕ → Tuple)
      (whole : List Arc) → rule.goal roots ≡ Go (tuple root)
      → Grows n root rule targets inner ends asks used tuple → Completes n root rule targets inner ends asks whole
      → StandFor n root whole made
  -- where the rule says a constant of the roots, the table is that constant
  pub constant : (value : Bool) → rule.goal roots ≡ End value → made ≡ replicate (2 ^ n) value

-- the rule of an operation makes its table of two canonical diagrams
abbrev pub ProductStands : ℕ → Type 0
ProductStands n = (op : Bin) (t u : List Bool) → HasForm n t → HasForm n u
    → Makes n (product_rule op) (targets_of_two n t u) (roots_of_two n t u) (step_table n (t ∷ u ∷ []) (Pair op 0 1))

-- that of a choice makes the choice's table of three
abbrev pub ChoiceStands : ℕ → Type 0
ChoiceStands n = (t u v : List Bool) → HasForm n t → HasForm n u → HasForm n v
    → Makes n choice_rule (targets_of_three n t u v) (roots_of_three n t u v)
    (step_table n (t ∷ u ∷ v ∷ []) (Ite 0 1 2))

-- that of a quantifier makes the quantified table of one, whose root stands twice
abbrev pub QuantifyStands : ℕ → Type 0
QuantifyStands n = (kind : Quant) (variable : ℕ) (t : List Bool) → HasForm n t → variable < n
    → Makes n (quantify_rule kind variable) (targets_of_one n t) (root_twice n t)
    (step_table n (t ∷ []) (Quantify kind 0 variable))

-- that of a restriction makes the restricted table of one
abbrev pub RestrictStands : ℕ → Type 0
RestrictStands n = (variable : ℕ) (value : Bool) (t : List Bool) → HasForm n t → variable < n
    → Makes n (restrict_rule variable value) (targets_of_one n t) (roots_of_one n t)
    (step_table n (t ∷ []) (Restrict 0 variable value))
