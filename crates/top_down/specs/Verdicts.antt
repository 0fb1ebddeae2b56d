-- a sweep that answers whether a table is 1 at each place, and makes no arcs
use Rattle.std.specs.Prelude.{◌≡◌, ◌↔◌, ◌+◌, ◌^◌, ◌<◌, ℕ, Bool, true, false, List, [], ◌∷◌, ◌++◌, length}
use Rattle.bool_tables.specs.Tables.{is_leq}
use Rattle.bool_tables.specs.Steps.{step_table}
use Rattle.bool_tables.specs.declared.steps.Step.TheVariants.{Pair}
use Rattle.canon_file.specs.Members.{Has}
use Rattle.top_down.specs.declared.tuple.Tuple.{Tuple}
use Rattle.top_down.specs.Tuples.{Targets, level_of_tuple}
use Rattle.top_down.specs.Operations.{implies}
use Rattle.top_down.specs.declared.tuple.Goal.{Goal}
use Rattle.top_down.specs.declared.tuple.Goal.TheVariants.{End, Go}
use Rattle.top_down.specs.Rules.{Rule, IsAsked, below_on, table_for}

-- no value of the table is 0
abbrev pub HasNoZero : List Bool → Type 0
HasNoZero t = Has false t → ⊥

-- the tuple's function is 1 everywhere
abbrev pub IsOne : ℕ → Rule → Targets → Tuple → Type 0
IsOne n rule targets x = (h : ℕ) → level_of_tuple x + h ≡ n → HasNoZero (table_for rule targets h (level_of_tuple x) x)

-- the table of the roots is 1 exactly where the function of each open ask is, and a tuple that was answered has a
-- function that is 1 everywhere where those of the deeper open asks are
pub record Awaits (n : ℕ) (rule : Rule) (targets : Targets) (roots : Tuple) (asks done : List Tuple) : Type 0 where
  pub asked : (x : Tuple) → Has x asks → IsAsked n rule (level_of_tuple x) x × (level_of_tuple x < n)
  pub needs : HasNoZero (table_for rule targets n 0 roots) → (x : Tuple) → Has x asks → IsOne n rule targets x
  pub follows : ((x : Tuple) → Has x asks → IsOne n rule targets x) → HasNoZero (table_for rule targets n 0 roots)
  pub was_answered : (x : Tuple) → Has x done
      → ((y : Tuple) → Has y asks → level_of_tuple x < level_of_tuple y → IsOne n rule targets y)
      → IsOne n rule targets x

-- the tuples that are asked for on the two sides of one
abbrev pub asked_tuples : Goal → List Tuple
asked_tuples (End value) = []
asked_tuples (Go x) = x ∷ []

abbrev pub tuples_below : Rule → Targets → Tuple → List Tuple
tuples_below rule targets x = asked_tuples (rule.goal (below_on rule targets false x)) ++ asked_tuples
    (rule.goal (below_on rule targets true x))

-- at first the roots' tuple is asked for
abbrev pub FirstAwaits : ℕ → Rule → Targets → Type 0
FirstAwaits n rule targets = (roots x : Tuple) → IsAsked n rule 0 roots → rule.goal roots ≡ Go x
    → Awaits n rule targets roots (x ∷ []) []

-- an ask for a tuple that was answered is dropped
abbrev pub KnownAwaits : ℕ → Rule → Targets → Type 0
KnownAwaits n rule targets = (roots x : Tuple) (asks done : List Tuple) → Awaits n rule targets roots (x ∷ asks) done
    → Has x done → Awaits n rule targets roots asks done

-- an ask whose sides end in no 0 is answered by the asks for its sides
abbrev pub NewAwaits : ℕ → Rule → Targets → Type 0
NewAwaits n rule targets = (roots x : Tuple) (asks done : List Tuple) → Awaits n rule targets roots (x ∷ asks) done
    → ((side : Bool) → rule.goal (below_on rule targets side x) ≡ End false → ⊥)
    → Awaits n rule targets roots (tuples_below rule targets x ++ asks) (x ∷ done)

-- where a side of an ask ends in 0, the table of the roots is not 1 everywhere
abbrev pub RefutesAtZero : ℕ → Rule → Targets → Type 0
RefutesAtZero n rule targets = (roots x : Tuple) (asks done : List Tuple) (side : Bool)
    → Awaits n rule targets roots (x ∷ asks) done
    → rule.goal (below_on rule targets side x) ≡ End false → HasNoZero (table_for rule targets n 0 roots) → ⊥

-- with no ask open it is
abbrev pub HoldsAtLast : ℕ → Rule → Targets → Type 0
HoldsAtLast n rule targets = (roots : Tuple) (done : List Tuple) → Awaits n rule targets roots [] done
    → HasNoZero (table_for rule targets n 0 roots)

-- the left table is nowhere 1 where the right one is 0, exactly where that of the implication has no 0
abbrev pub ImplicationAnswers : ℕ → Type 0
ImplicationAnswers n = (t u : List Bool) → length t ≡ 2 ^ n → length u ≡ 2 ^ n
    → (is_leq t u ≡ true) ↔ HasNoZero (step_table n (t ∷ u ∷ []) (Pair implies 0 1))
