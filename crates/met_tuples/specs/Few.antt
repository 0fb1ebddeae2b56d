-- That an operation meets no more tuples than its step joins.
use Rattle.std.specs.Prelude.{ℕ, ◌<◌, ◌≤◌, Bool, List, [], ◌∷◌, length}
use Rattle.bool_tables.specs.declared.steps.Bin.{Bin}
use Rattle.bool_tables.specs.declared.steps.Quant.{Quant}
use Rattle.bool_tables.specs.declared.steps.Step.TheVariants.{Pair, Ite, Quantify, Restrict}
use Rattle.canon_file.specs.Laws.{HasForm}
use Rattle.canon_file.specs.Members.{Has}
use Rattle.step_work.specs.Tuples.{tuple_count}
use Rattle.top_down.specs.declared.tuple.Tuple.{Tuple}
use Rattle.top_down.specs.Laws.{roots_of_one, root_twice, roots_of_two, roots_of_three}
use Rattle.top_down.specs.Operations.{product_rule, choice_rule, quantify_rule, restrict_rule}
use Rattle.top_down.specs.Rules.{Rule}
use Rattle.top_down_laws.specs.Operations.{canon_diagrams}
use Rattle.top_down_laws.specs.Readings.{Diagrams, targets_in}
use Rattle.top_down_laws.specs.Remains.{IsMet}

-- among these tuples are all that an operation meets from the roots on, and they are no more than so many
pub record MeetsFew (rule : Rule) (d : Diagrams) (roots : Tuple) (most : ℕ) : Type 0 where
  pub tuples : List Tuple
  pub all_met : (x : Tuple) → IsMet rule (targets_in d) roots x → Has x tuples
  pub few : length tuples ≤ most

-- so it is of an operator on two canonical diagrams
abbrev pub ProductMeetsFew : ℕ → Type 0
ProductMeetsFew n = (op : Bin) (t u : List Bool) → HasForm n t → HasForm n u
    → MeetsFew (product_rule op) (canon_diagrams n t u u) (roots_of_two n t u)
    (tuple_count n (Pair op 0 1) (t ∷ u ∷ []))

-- of a choice of three
abbrev pub ChoiceMeetsFew : ℕ → Type 0
ChoiceMeetsFew n = (t u v : List Bool) → HasForm n t → HasForm n u → HasForm n v
    → MeetsFew choice_rule (canon_diagrams n t u v) (roots_of_three n t u v)
    (tuple_count n (Ite 0 1 2) (t ∷ u ∷ v ∷ []))

-- of a quantifier of one
abbrev pub QuantifyMeetsFew : ℕ → Type 0
QuantifyMeetsFew n = (kind : Quant) (variable : ℕ) (t : List Bool) → HasForm n t → variable < n
    → MeetsFew (quantify_rule kind variable) (canon_diagrams n t t t) (root_twice n t)
    (tuple_count n (Quantify kind 0 variable) (t ∷ []))

-- and of a restriction of one
abbrev pub RestrictMeetsFew : ℕ → Type 0
RestrictMeetsFew n = (variable : ℕ) (value : Bool) (t : List Bool) → HasForm n t → variable < n
    → MeetsFew (restrict_rule variable value) (canon_diagrams n t t t) (roots_of_one n t)
    (tuple_count n (Restrict 0 variable value) (t ∷ []))
