-- What each kind of turn does to what remains of a sweep from the root to the leaves.
use Rattle.std.specs.Prelude.{◌≡◌, ◌≢◌, ◌⊎◌, ℕ, suc, ◌+◌, ◌*◌, ◌^◌, ◌<◌, ◌≤◌, Bool, true, false, List, [], ◌∷◌, ◌++◌, length, All, Option, Some, None, IfSome}
use Rattle.std.specs.List.Sorted.{IsPermutation}
use Rattle.rec_words.specs.Words.{terminal, level_of, node_word, level_numbers, most_variables}
use Rattle.rec_words.specs.declared.node.Node.{Node}
use Rattle.canon_file.specs.declared.row.Row.{Row}
use Rattle.canon_file.specs.Members.{Has}
use Rattle.canon_file.specs.Walks.{table_of}
use Rattle.arc_file.specs.declared.arc.Arc.{Arc}
use Rattle.arc_file.specs.Files.{IsInnerOrder, IsEndOrder, Leads}
use Rattle.arc_file.specs.declared.kind.Kind.TheVariants as kind
use Rattle.arc_diagrams.specs.Arcs.{target_on, targets_of, IsComplete, StandFor}
use Rattle.arc_diagrams.specs.Laws.{IsDiagramOf}
use Rattle.top_down.specs.declared.tuple.Tuple.{Tuple}
use Rattle.top_down.specs.declared.tuple.Goal.TheVariants.{End, Go}
use Rattle.top_down.specs.Tuples.{level_of_tuple}
use Rattle.top_down.specs.Rules.{Rule, table_for}
use Rattle.top_down.specs.Asks.{side_arcs}
use Rattle.top_down_laws.specs.Forms.{Waiting, nobody, comes_before, first_form, form_at, is_node, wants, next_key, IsKey}
use Rattle.top_down_laws.specs.Readings.{Diagrams, targets_in, AreIn, Reading, Readings, with_first, with_second, with_third, want, filled_form, asked_on}
use Rattle.top_down_laws.specs.Remains.{IsTask, Place, at_place, Numbered, identifier, Remains, IsMet, source_of, side_of, answer_arcs, goal_on, side_waits, next_numbered}

-- the law holds of each task
abbrev pub ForEachTask : (ℕ → Rule → Diagrams → Tuple → Type 0) → Type 0
ForEachTask Law = (n : ℕ) (rule : Rule) (d : Diagrams) (roots : Tuple) → IsTask n rule d roots
    → Law n rule d roots

-- the function of the roots' tuple
abbrev pub task_table : ℕ → Rule → Diagrams → Tuple → List Bool
task_table n rule d roots = table_for rule (targets_in d) n 0 roots

-- of each diagram no node was read
abbrev pub unread_all : Diagrams → Readings
unread_all d = record {
  first = record { hand = None; unread = d.first };
  second = record { hand = None; unread = d.second };
  third = record { hand = None; unread = d.third };
}

-- where the rule says a constant of the roots, that truth value with no arcs is a diagram of the
-- table
abbrev pub ConstantEnds : ℕ → Rule → Diagrams → Tuple → Type 0
ConstantEnds n rule d roots = (value : Bool) → rule.goal roots ≡ End value
    → IsDiagramOf n (terminal value) [] (task_table n rule d roots)

-- at first the tuple that the rule says of the roots is asked for, and nothing was read
abbrev pub RootIsAsked : ℕ → Rule → Diagrams → Tuple → Type 0
RootIsAsked n rule d roots = (x : Tuple) → rule.goal roots ≡ Go x
    → Remains n rule d roots (at_place (node_word (level_of_tuple x) 0) None)
    (record { form = first_form x; asker = nobody } ∷ []) None (unread_all d) [] []

-- the asks may wait in any order
abbrev pub WaitInAnyOrder : ℕ → Rule → Diagrams → Tuple → Type 0
WaitInAnyOrder n rule d roots =
    (place : Place) (waiting others : List Waiting) (last : Option Waiting) (r : Readings)
    (inner ends : List Arc) → IsPermutation waiting others
    → Remains n rule d roots place waiting last r inner ends
    → Remains n rule d roots place others last r inner ends

-- no ask that waits comes before that one
abbrev pub IsNext : Waiting → List Waiting → Type 0
IsNext a rest = (b : Waiting) → Has b rest → comes_before b a ≡ false

-- where the node of that key is wanted, a node is left to be read, none behind the key, and then
-- that holds
abbrev pub ReadsNode : Bool → Reading → ℕ → (Reading → Type 0) → Type 0
ReadsNode wanted old key Then = wanted ≡ true
    → (x : Node) × (unread : List Node) × (old.unread ≡ unread ++ x ∷ [])
    × (x.uid ≤ key) × Then (record { hand = Some x; unread = unread })

-- what the first ask wants can be read of each diagram, and what remains stays so
pub record ReadsNodes (n : ℕ) (rule : Rule) (d : Diagrams) (roots : Tuple) (place : Place)
    (a : Waiting) (rest : List Waiting) (last : Option Waiting) (r : Readings)
    (inner ends : List Arc) : Type 0 where
  pub first : ReadsNode (wants a.form.key r.first.hand a.form.first) r.first a.form.key (λ now.
      Remains n rule d roots place (a ∷ rest) last (with_first r now) inner ends)
  pub second : ReadsNode (wants a.form.key r.second.hand a.form.second) r.second a.form.key (λ now.
      Remains n rule d roots place (a ∷ rest) last (with_second r now) inner ends)
  pub third : ReadsNode (wants a.form.key r.third.hand a.form.third) r.third a.form.key (λ now.
      Remains n rule d roots place (a ∷ rest) last (with_third r now) inner ends)

abbrev pub WantedIsRead : ℕ → Rule → Diagrams → Tuple → Type 0
WantedIsRead n rule d roots =
    (place : Place) (a : Waiting) (rest : List Waiting) (last : Option Waiting) (r : Readings)
    (inner ends : List Arc) → Remains n rule d roots place (a ∷ rest) last r inner ends
    → IsNext a rest
    → ReadsNodes n rule d roots place a rest last r inner ends

-- where all that the first ask wants is at hand and another node of its level is left, it is taken
-- and asked again for that node
abbrev pub AskIsReadOn : ℕ → Rule → Diagrams → Tuple → Type 0
AskIsReadOn n rule d roots =
    (place : Place) (a : Waiting) (rest : List Waiting) (last : Option Waiting) (r : Readings)
    (inner ends : List Arc) → Remains n rule d roots place (a ∷ rest) last r inner ends
    → IsNext a rest → want r a.form ≡ false → next_key (filled_form r a.form) < 2 ^ 63
    → Remains n rule d roots place (asked_on r a ∷ rest) (Some a) r inner ends

-- where all that the first ask wants was read, and its tuple is the one that was numbered last, it
-- is taken and answered by that number
abbrev pub KnownIsAnswered : ℕ → Rule → Diagrams → Tuple → Type 0
KnownIsAnswered n rule d roots =
    (root : ℕ) (x : Numbered) (a : Waiting) (rest : List Waiting) (last : Option Waiting)
    (r : Readings) (inner ends : List Arc)
    → Remains n rule d roots (at_place root (Some x)) (a ∷ rest) last r inner ends
    → IsNext a rest → x.form ≡ a.form
    → Remains n rule d roots (at_place root (Some x)) rest (Some a) r
    (inner ++ answer_arcs a.asker (identifier x)) ends

-- where it is another tuple, the ask is answered by the next number of its level, and the tuple's
-- two sides end or are asked for
abbrev pub NewIsNumbered : ℕ → Rule → Diagrams → Tuple → Type 0
NewIsNumbered n rule d roots =
    (place : Place) (a : Waiting) (rest : List Waiting) (last : Option Waiting) (r : Readings)
    (inner ends : List Arc) → Remains n rule d roots place (a ∷ rest) last r inner ends
    → IsNext a rest → want r a.form ≡ false → (next_key (filled_form r a.form) < 2 ^ 63 → ⊥)
    → IfSome place.newest (λ x. x.form ≡ a.form → ⊥) → length inner + 1 < level_numbers
    → (let x : Numbered = next_numbered place.newest a.form in
    Remains n rule d roots (at_place place.root (Some x))
    (side_waits (identifier x) false (goal_on rule r a.form false)
    ++ (side_waits (identifier x) true (goal_on rule r a.form true) ++ rest)) (Some a) r
    (inner ++ answer_arcs a.asker (identifier x))
    (ends ++ (side_arcs (identifier x) false (goal_on rule r a.form false)
    ++ side_arcs (identifier x) true (goal_on rule r a.form true))))

-- an ask that waits is for that tuple
pub record IsFor (d : Diagrams) (a : Waiting) (x : Tuple) : Type 0 where
  pub members : AreIn d x
  pub key_is : IsKey a.form.key x
  pub form_is : a.form ≡ form_at (targets_in d) a.form.key x

-- it is for no other one
abbrev pub AsksForOne : ℕ → Rule → Diagrams → Tuple → Type 0
AsksForOne n rule d roots =
    (place : Place) (waiting : List Waiting) (last : Option Waiting) (r : Readings)
    (inner ends : List Arc) → Remains n rule d roots place waiting last r inner ends
    → (a : Waiting) → Has a waiting
    → (x : Tuple) × IsFor d a x × ((y : Tuple) → IsFor d a y → y ≡ x)

-- these arcs complete what is written: they are a complete set with all of it, in which each asker
-- leads, on its side, to a pointer that stands for the function of the tuple that it asks for
pub record CompletesAsks (n root : ℕ) (rule : Rule) (d : Diagrams) (waiting : List Waiting)
    (inner ends whole : List Arc) : Type 0 where
  pub complete : IsComplete n root whole
  pub has_inner : (a : Arc) → Has a inner → Has a whole
  pub has_ends : (a : Arc) → Has a ends → Has a whole
  pub answered : (a : Waiting) → Has a waiting → (x : Tuple) → IsFor d a x → (h : ℕ)
      → suc (level_of (source_of a.asker) + h) ≡ n
      → table_of (targets_of whole) h (suc (level_of (source_of a.asker)))
      (target_on whole (source_of a.asker) (side_of a.asker))
      ≡ table_for rule (targets_in d) h (suc (level_of (source_of a.asker))) x

-- once the root has its number, what completes what is written stands for the table
abbrev pub WrittenStands : ℕ → Rule → Diagrams → Tuple → Type 0
WrittenStands n rule d roots =
    (root : ℕ) (x : Numbered) (waiting : List Waiting) (last : Option Waiting)
    (r : Readings) (inner ends whole : List Arc)
    → Remains n rule d roots (at_place root (Some x)) waiting last r inner ends
    → CompletesAsks n root rule d waiting inner ends whole
    → StandFor n root whole (task_table n rule d roots)

-- before, nothing is written, and the one ask that waits is for a tuple whose function is the table
abbrev pub RootStands : ℕ → Rule → Diagrams → Tuple → Type 0
RootStands n rule d roots =
    (root : ℕ) (waiting : List Waiting) (last : Option Waiting) (r : Readings)
    (inner ends : List Arc) → Remains n rule d roots (at_place root None) waiting last r inner ends
    → (inner ≡ []) × (ends ≡ []) × ((a : Waiting) × (x : Tuple) × (waiting ≡ a ∷ []) × IsFor d a x
    × (table_for rule (targets_in d) n 0 x ≡ task_table n rule d roots))

-- no tuple stands twice in the list
abbrev pub AreDifferent : List Tuple → Type 0
AreDifferent [] = Unit {0}
AreDifferent (x ∷ xs) = (Has x xs → ⊥) × AreDifferent xs

-- the arcs are in the order of their files, a diagram of the table, two for each tuple that is met
pub record IsWhole (n : ℕ) (rule : Rule) (d : Diagrams) (roots : Tuple) (root : ℕ)
    (inner ends : List Arc) : Type 0 where
  pub diagram : IsDiagramOf n root (inner ++ ends) (task_table n rule d roots)
  pub inner_order : IsInnerOrder inner
  pub end_order : IsEndOrder ends
  pub inner_lead : All (Leads kind.Inner) inner
  pub ends_lead : All (Leads kind.End) ends
  pub tuples : List Tuple
  pub different : AreDifferent tuples
  pub are_met : (x : Tuple) → Has x tuples → IsMet rule (targets_in d) roots x
  pub all_met : (x : Tuple) → IsMet rule (targets_in d) roots x → Has x tuples
  pub two_each : length inner + length ends ≡ 2 * length tuples

-- where nothing waits, so are those that were written
abbrev pub NothingWaits : ℕ → Rule → Diagrams → Tuple → Type 0
NothingWaits n rule d roots =
    (place : Place) (last : Option Waiting) (r : Readings) (inner ends : List Arc)
    → Remains n rule d roots place [] last r inner ends
    → IsWhole n rule d roots place.root inner ends

-- the truth value to which an arc leads is a value of the table
abbrev pub EndIsValue : ℕ → Rule → Diagrams → Tuple → Type 0
EndIsValue n rule d roots =
    (place : Place) (waiting : List Waiting) (last : Option Waiting) (r : Readings)
    (inner ends : List Arc) → Remains n rule d roots place waiting last r inner ends
    → (a : Arc) (value : Bool) → Has a ends → a.target ≡ terminal value
    → Has value (task_table n rule d roots)

-- a member is a pointer from the key on, or two pointers that lie deeper than the key
abbrev pub Stands : ℕ → Row → Type 0
Stands key m = ((m.low ≡ m.high) × (key ≤ m.low))
    ⊎ ((m.low ≢ m.high) × (level_of key < level_of m.low) × (level_of key < level_of m.high))

-- nobody asks before the root has its number, and from then on a node of a level above the key's
abbrev pub IsAskedBy : Option Numbered → Waiting → Type 0
IsAskedBy None a = a.asker ≡ nobody
IsAskedBy (Some x) a = level_of (source_of a.asker) < level_of a.form.key

-- the key is a node that a member is, from which all members stand; the asker lies above, and the
-- ask isn't the one that was taken last
pub record IsSound (newest : Option Numbered) (last : Option Waiting) (a : Waiting) : Type 0 where
  pub key_is : level_of a.form.key < most_variables
  pub here : (is_node a.form.key a.form.first ≡ true)
      ⊎ ((is_node a.form.key a.form.second ≡ true) ⊎ (is_node a.form.key a.form.third ≡ true))
  pub first : Stands a.form.key a.form.first
  pub second : Stands a.form.key a.form.second
  pub third : Stands a.form.key a.form.third
  pub asker : IsAskedBy newest a
  pub other : IfSome last (λ l. l ≢ a)

-- so is each ask that waits
abbrev pub AsksAreSound : ℕ → Rule → Diagrams → Tuple → Type 0
AsksAreSound n rule d roots =
    (place : Place) (waiting : List Waiting) (last : Option Waiting) (r : Readings)
    (inner ends : List Arc) → Remains n rule d roots place waiting last r inner ends
    → (a : Waiting) → Has a waiting
    → IsSound place.newest last a
