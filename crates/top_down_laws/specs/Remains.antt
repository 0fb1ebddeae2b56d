-- What remains of a sweep from the root to the leaves.
use Rattle.std.specs.Prelude.{◌≡◌, ℕ, ◌+◌, ◌/◌, ◌%◌, ◌<◌, ◌≤◌, ◌==◌, Bool, true, false, cond, nat_lt, List, [], ◌∷◌, length, map, Option, Some, None, IfSome}
use Rattle.std.specs.List.{count_by}
use Rattle.rec_words.specs.Words.{level_of, node_word, most_variables}
use Rattle.canon_file.specs.Members.{Has}
use Rattle.arc_file.specs.declared.arc.Arc.{Arc}
use Rattle.top_down.specs.declared.tuple.Tuple.{Tuple}
use Rattle.top_down.specs.declared.tuple.Goal.{Goal}
use Rattle.top_down.specs.declared.tuple.Goal.TheVariants.{End, Go}
use Rattle.top_down.specs.Tuples.{Targets, level_of_tuple}
use Rattle.top_down.specs.Rules.{Rule, IsAsked, IsRule, below_on}
use Rattle.top_down.specs.Asks.{Ask, Grows}
use Rattle.top_down_laws.specs.Forms.{Form, Waiting, nobody, asker_word, comes_before, IsNoLater, form_at, first_form, on_side, IsKey, IsLastKey}
use Rattle.top_down_laws.specs.Readings.{Diagrams, targets_in, AreIn, AreReduced, Readings, AreReadings, HandsReach, filled_form}

-- what the rule makes of tuples of the diagrams are tuples of the diagrams
pub record Picks (rule : Rule) (d : Diagrams) : Type 0 where
  pub goal : (x y : Tuple) → AreIn d x → rule.goal x ≡ Go y → AreIn d y
  pub below : (level : ℕ) (side : Bool) (lows highs : Tuple) → AreIn d lows → AreIn d highs
      → AreIn d (rule.below level side lows highs)

-- the rule is an operation's on these diagrams of n variables, to be made of the roots' tuple
pub record IsTask (n : ℕ) (rule : Rule) (d : Diagrams) (roots : Tuple) : Type 0 where
  pub few : n ≤ most_variables
  pub is_rule : IsRule n rule (targets_in d)
  pub asked : IsAsked n rule 0 roots
  pub reduced : AreReduced n d
  pub roots_in : AreIn d roots
  pub picks : Picks rule d

-- an ask that is open: who asks for which tuple, and the node that is read next for it
pub record Open : Type 0 where
  pub asker : ℕ
  pub tuple : Tuple
  pub key : ℕ

-- the ask as it waits
abbrev pub waiting_of : Targets → Open → Waiting
waiting_of targets o = record { form = form_at targets o.key o.tuple; asker = o.asker }

-- the node that asks, and on which side
abbrev pub source_of : ℕ → ℕ
source_of asker = asker / 2

abbrev pub side_of : ℕ → Bool
side_of asker = asker % 2 == 1

abbrev pub ask_of : Open → Ask
ask_of o = record { source = source_of o.asker; high = side_of o.asker; tuple = o.tuple }

-- the tuple is one of the diagrams, may be asked for, and has the key as a node
pub record IsOpen (n : ℕ) (rule : Rule) (d : Diagrams) (o : Open) : Type 0 where
  pub members : AreIn d o.tuple
  pub asked : IsAsked n rule (level_of_tuple o.tuple) o.tuple
  pub low : level_of_tuple o.tuple < n
  pub key_is : IsKey o.key o.tuple

-- the ask comes behind the last one that was taken
abbrev pub IsBehind : Option Waiting → Waiting → Type 0
IsBehind last a = IfSome last (λ l. comes_before l a ≡ true)

-- how many asks are that asker's
abbrev pub asks_by : ℕ → List Open → ℕ
asks_by w opens = count_by (λ o. o.asker == w) opens

-- the asks are open and come behind the last one that was taken, each asker has one at most, and no
-- node at hand lies behind one that is still to be read
pub record Waits (n : ℕ) (rule : Rule) (d : Diagrams) (r : Readings) (last : Option Waiting)
    (opens : List Open) : Type 0 where
  pub are_open : (o : Open) → Has o opens → IsOpen n rule d o
  pub behind : (o : Open) → Has o opens → IsBehind last (waiting_of (targets_in d) o)
  pub once : (w : ℕ) → asks_by w opens ≤ 1
  pub reading : AreReadings d r
  pub reach : (o : Open) → Has o opens → HandsReach r o.key

-- a tuple that was numbered, as it was asked for, and its number within its level
pub record Numbered : Type 0 where
  pub form : Form
  pub number : ℕ

-- its identifier
abbrev pub identifier : Numbered → ℕ
identifier x = node_word (level_of x.form.key) x.number

-- the root's identifier, and the tuple that was numbered last
pub record Place : Type 0 where
  pub root : ℕ
  pub newest : Option Numbered

abbrev pub at_place : ℕ → Option Numbered → Place
at_place root newest = record { root = root; newest = newest }

-- the root's tuple is asked for, and nothing is written
pub record AsksForRoot (rule : Rule) (roots : Tuple) (root : ℕ) (inner ends : List Arc)
    (opens : List Open) : Type 0 where
  pub ask : Open
  pub only : opens ≡ ask ∷ []
  pub asker_is : ask.asker ≡ nobody
  pub goes : rule.goal roots ≡ Go ask.tuple
  pub root_is : root ≡ node_word (level_of_tuple ask.tuple) 0
  pub no_inner : inner ≡ []
  pub no_ends : ends ≡ []

-- a tuple that is asked for: the roots', and one on a side of another
pub data IsMet (rule : Rule) (targets : Targets) (roots : Tuple) : Tuple → Type 0 where
  AtRoot : (x : Tuple) → rule.goal roots ≡ Go x → IsMet rule targets roots x
  Below : (x y : Tuple) (side : Bool) → IsMet rule targets roots x
      → rule.goal (below_on rule targets side x) ≡ Go y → IsMet rule targets roots y

-- the tuple in the form in which it gets its number is no later than that form
pub record IsUpToForm (targets : Targets) (x : Tuple) (f : Form) : Type 0 where
  pub key : ℕ
  pub last : IsLastKey key x
  pub upto : IsNoLater (form_at targets key x) f

-- tuples are numbered, the newest last, with what grows from the roots' tuple
pub record IsGrown (n : ℕ) (rule : Rule) (d : Diagrams) (roots : Tuple) (root : ℕ)
    (newest : Numbered) (last : Option Waiting) (inner ends : List Arc) (opens : List Open)
    : Type 0 where
  pub used : List ℕ
  pub tuple : ℕ → Tuple
  pub grows : Grows n root rule (targets_in d) inner ends (map ask_of opens)
      (identifier newest ∷ used) tuple
  pub goes : rule.goal roots ≡ Go (tuple root)
  pub members : (s : ℕ) → Has s (identifier newest ∷ used) → AreIn d (tuple s)
  pub is_met : (s : ℕ) → Has s (identifier newest ∷ used)
      → IsMet rule (targets_in d) roots (tuple s)
  pub few : length used ≤ length inner
  -- tuples are numbered in the order of their forms
  pub form_is : form_at (targets_in d) newest.form.key (tuple (identifier newest)) ≡ newest.form
  pub key_is : IsLastKey newest.form.key (tuple (identifier newest))
  pub upto : (s : ℕ) → Has s (identifier newest ∷ used)
      → IsUpToForm (targets_in d) (tuple s) newest.form
  -- the last ask that was taken comes no earlier than those that the newest tuple answered
  pub taken : Waiting
  pub last_is : last ≡ Some taken
  pub reached : IsNoLater newest.form taken.form
  pub answered : (a : Arc) → Has a inner → a.target ≡ identifier newest
      → comes_before taken (record { form = newest.form; asker = asker_word a.source a.high })
      ≡ false

abbrev pub IsMade : (n : ℕ) → Rule → Diagrams → Tuple → ℕ → Option Numbered → Option Waiting →
    List Arc → List Arc → List Open → Type 0
IsMade n rule d roots root None last inner ends opens = AsksForRoot rule roots root inner ends opens
IsMade n rule d roots root (Some x) last inner ends opens =
    IsGrown n rule d roots root x last inner ends opens

-- what remains: the asks that wait, the last one that was taken, how far the diagrams were read,
-- and the arcs that were written
pub record Remains (n : ℕ) (rule : Rule) (d : Diagrams) (roots : Tuple) (place : Place)
    (waiting : List Waiting) (last : Option Waiting) (r : Readings) (inner ends : List Arc)
    : Type 0 where
  pub opens : List Open
  pub are : waiting ≡ map (waiting_of (targets_in d)) opens
  pub waits : Waits n rule d r last opens
  pub made : IsMade n rule d roots place.root place.newest last inner ends opens

-- the word is that of a node that asks
abbrev pub is_asker : ℕ → Bool
is_asker w = nat_lt (level_of (source_of w)) most_variables

-- the arc from an asker to its answer
abbrev pub arc_from : ℕ → ℕ → Arc
arc_from asker target = record { source = source_of asker; high = side_of asker; target = target }

-- the arc that answers an ask; the root's ask has none
abbrev pub answer_arcs : ℕ → ℕ → List Arc
answer_arcs asker target = cond (is_asker asker) (arc_from asker target ∷ []) []

-- what the rule makes of the tuple on a side, where a form's nodes are at hand
abbrev pub goal_on : Rule → Readings → Form → Bool → Goal
goal_on rule r f side =
    rule.goal (rule.below (level_of f.key) side (on_side false (filled_form r f))
    (on_side true (filled_form r f)))

-- the ask of a new identifier on one side, as it waits
abbrev pub side_waits : ℕ → Bool → Goal → List Waiting
side_waits s side (End value) = []
side_waits s side (Go x) = record { form = first_form x; asker = asker_word s side } ∷ []

-- the next number of a level, or its number 0
abbrev pub next_number : Option Numbered → ℕ → ℕ
next_number None level = 0
next_number (Some x) level = cond (level_of x.form.key == level) (x.number + 1) 0

abbrev pub next_numbered : Option Numbered → Form → Numbered
next_numbered newest f = record { form = f; number = next_number newest (level_of f.key) }
