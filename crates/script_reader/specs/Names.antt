-- What is known before a line of a script: the variables, the names that were given, and the plan so far.
use Rattle.std.specs.Prelude.{ℕ, suc, Bool, true, false, not, ◌&&◌, List, [], ◌∷◌, length, Option, Some, None}
use Rattle.std.specs.Prelude.{option_map, Result, Ok, Err, if◌then◌else◌}
use Rattle.std.specs.List.{list_any}
use Rattle.std.specs.Str.{bytes_eq}
use Rattle.bool_tables.specs.declared.steps.Planned.{Planned}
use Rattle.text_words.specs.Text.{Word}
use Rattle.script_reader.specs.declared.fault.ScriptKind.{ScriptKind}
use Rattle.script_reader.specs.declared.fault.ScriptKind.TheVariants as kind
use Rattle.script_reader.specs.declared.plan.LineEnd.{LineEnd}
use Rattle.script_reader.specs.declared.planning.Named.{Named}

-- whether a line with words was read; the number of variables and the level of each; for each name that was given the
-- step that made its diagram, and whether it was dropped; and the steps and said lines so far
pub record State : Type 0 where
  pub begun : Bool
  pub n : ℕ
  pub level : List ℕ → Option ℕ
  pub named : List ℕ → Option Named
  pub steps : List Planned
  pub lines : List LineEnd

-- nothing is known before the first line
abbrev pub nothing : State
nothing = record { begun = false; n = 0; level = λ _. None; named = λ _. None; steps = []; lines = [] }

-- the place of a name among others
abbrev pub place_of : List (List ℕ) → List ℕ → Option ℕ
place_of [] name = None
place_of (x ∷ xs) name = if bytes_eq name x then Some 0 else option_map suc (place_of xs name)

-- no name stands twice
abbrev pub all_differ : List (List ℕ) → Bool
all_differ [] = true
all_differ (x ∷ xs) = not (list_any (bytes_eq x) xs) && all_differ xs

-- the names of a first line as variables, in order
abbrev pub with_variables : State → List (List ℕ) → State
with_variables s names = record s { n = length names; level = place_of names }

-- the step that made the diagram of a name, which was given and not dropped
abbrev pub live_of : Option Named → Result ℕ ScriptKind
live_of None = Err kind.UnknownName
live_of (Some given) = if given.dropped then Err kind.Dropped else Ok given.step

abbrev pub live : State → Word → Result ℕ ScriptKind
live s word = live_of (s.named word.bytes)

-- the level of a variable
abbrev pub level_or : Option ℕ → Result ℕ ScriptKind
level_or None = Err kind.Variable
level_or (Some level) = Ok level

abbrev pub level_of : State → Word → Result ℕ ScriptKind
level_of s word = level_or (s.level word.bytes)
