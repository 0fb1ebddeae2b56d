-- Lines that take a netlist's inputs as variables, or ask for the diagrams of its signals.
use Rattle.std.specs.Prelude.{ℕ, ◌+◌, ◌-◌, Bool, false, not, ◌&&◌, is_some, List, [], ◌∷◌, ◌++◌, length, map, take, drop}
use Rattle.std.specs.Prelude.{slice_set, Option, Some, None, Result, Ok, Err}
use Rattle.std.specs.List.{list_all, list_any, slice_index_or}
use Rattle.std.specs.Str.{bytes_eq}
use Rattle.std.specs.Map.{update}
use Rattle.bool_tables.specs.declared.steps.Planned.{Planned}
use Rattle.bool_tables.specs.declared.steps.Step.{Step}
use Rattle.bool_tables.specs.declared.steps.Step.TheVariants as step
use Rattle.text_words.specs.Text.{Word}
use Rattle.blif_reader.specs.Index as index
use Rattle.blif_reader.specs.Netlist.{Net}
use Rattle.net_plan.specs.Plan.{plan_steps, plan_made}
use Rattle.script_reader.specs.declared.fault.ScriptKind.{ScriptKind}
use Rattle.script_reader.specs.declared.fault.ScriptKind.TheVariants as kind
use Rattle.script_reader.specs.Results.{◌>>=◌, check}
use Rattle.script_reader.specs.Keywords.{texts_of}
use Rattle.script_reader.specs.Names.{State, all_differ, with_variables}
use Rattle.script_reader.specs.Requests.{is_short, has_room}

-- every second of some words, from the first on
abbrev pub every_second : List Word → List Word
every_second [] = []
every_second (word ∷ []) = word ∷ []
every_second (word ∷ other ∷ words) = word ∷ every_second words

-- the words of a line that asks for signals are the keyword, and then names and signals in turn
abbrev pub names_in : List Word → List Word
names_in words = every_second (drop 1 words)

abbrev pub signals_in : List Word → List (List ℕ)
signals_in words = texts_of (every_second (drop 2 words))

-- and of them none stands twice
abbrev pub signals_named : List Word → Result (List (List ℕ)) ScriptKind
signals_named words = check kind.Word (all_differ (signals_in words)) >>= λ _. Ok (signals_in words)

-- a netlist, where one is given
abbrev pub given_net : Option Net → Result Net ScriptKind
given_net None = Err kind.NoNetlist
given_net (Some net) = Ok net

-- the names of a netlist's inputs, in order
abbrev pub inputs_of : Net → List (List ℕ)
inputs_of net = take net.inputs net.names

-- a line that takes the inputs as variables
abbrev pub plan_inputs : Option Net → State → Result State ScriptKind
plan_inputs netlist s = given_net netlist >>= λ net. Ok (with_variables s (inputs_of net))

-- what is found for a name, or a fault
abbrev pub or_fault : ScriptKind → Option ℕ → Result ℕ ScriptKind
or_fault kind None = Err kind
or_fault kind (Some x) = Ok x

-- and for each of some names, or the fault of one for which there is nothing
abbrev pub all_found : ScriptKind → (List ℕ → Option ℕ) → List (List ℕ) → Result (List ℕ) ScriptKind
all_found kind find [] = Ok []
all_found kind find (name ∷ names) =
    or_fault kind (find name) >>= λ x. all_found kind find names >>= λ xs. Ok (x ∷ xs)

-- the signals with some names
abbrev pub wanted_of : Net → List (List ℕ) → Result (List ℕ) ScriptKind
wanted_of net signals = all_found kind.UnknownName (index.place_of net.names) signals

-- the levels of the netlist's inputs, each of which has to be a variable
abbrev pub levels_of : State → Net → Result (List ℕ) ScriptKind
levels_of s net = all_found kind.Variable s.level (inputs_of net)

-- each name of a line is short, and none was given before, on an earlier line or on this one
abbrev pub is_given : State → Word → Bool
is_given s name = is_some (s.named name.bytes)

abbrev pub names_fit : State → List Word → Result Unit ScriptKind
names_fit s names =
    check kind.NameLength (list_all is_short names) >>= λ _.
    check kind.NameTaken (not (list_any (is_given s) names) && all_differ (texts_of names))

-- a step without a name
abbrev pub nameless : Step → Planned
nameless step = record { step = step; name_at = 0; name_len = 0 }

-- a name for the step with a number
abbrev pub name_step : ℕ → Word → List Planned → List Planned
name_step number name steps =
    let old = slice_index_or steps number (nameless (step.Const false)) in
    slice_set steps number (record old { name_at = name.at; name_len = length name.bytes })

-- a pair of a line: the name is that of the step that makes the signal; it has a said line, which comes after the
-- line's last step and shows that step
abbrev pub give_name : State → ℕ → ℕ → Word → ℕ → State
give_name s number last name made = record s {
  named = update bytes_eq s.named name.bytes (Some (record { step = made; dropped = false }));
  steps = name_step made name s.steps;
  lines = s.lines ++ record { line = number; last = last; shows = made } ∷ [];
}

-- the pairs of a line, one after the other
abbrev pub give_names : State → ℕ → ℕ → List Word → List ℕ → State
give_names s number last [] made = s
give_names s number last (name ∷ names) [] = s
give_names s number last (name ∷ names) (m ∷ made) = give_names (give_name s number last name m) number last names made

-- what is known behind steps without names
abbrev pub with_steps : State → List Step → State
with_steps s steps = record s { steps = s.steps ++ map nameless steps }

-- the steps of a line with these names, and the numbers of those that make its signals, where there is room for them
abbrev pub put_plan : State → ℕ → List Word → List Step → List ℕ → Result State ScriptKind
put_plan s number names steps made =
    check kind.TooManySteps (has_room (length s.steps + length steps)) >>= λ _.
    Ok (give_names (with_steps s steps) number (length s.steps + length steps - 1) names made)

-- the steps of some signals, behind those so far, for names that fit
abbrev pub plan_signals : State → ℕ → List Word → Net → List ℕ → List ℕ → Result State ScriptKind
plan_signals s number names net levels wanted =
    names_fit s names >>= λ _.
    put_plan s number names (plan_steps net levels wanted (length s.steps))
    (plan_made net levels wanted (length s.steps))

-- a line that asks for signals: none twice, each is one of the netlist's, and each input of it is a variable
abbrev pub plan_net : Option Net → State → ℕ → List Word → Result State ScriptKind
plan_net netlist s number words =
    signals_named words >>= λ signals. given_net netlist >>= λ net.
    wanted_of net signals >>= λ wanted. levels_of s net >>= λ levels.
    plan_signals s number (names_in words) net levels wanted
