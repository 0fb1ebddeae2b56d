-- What a list of words asks for.
use Rattle.std.specs.Prelude.{ℕ, ◌≤◌, List, Option, Some, None, option_map, option_and_then, if◌then◌else◌, codes}
use Rattle.std.specs.Str.{bytes_eq}
use Rattle.clap.specs.Words.{Row, Text, first_of, fault_of, matches_of}
use Rattle.clap.specs.Walk.{is_empty}
use Rattle.command_words.specs.Command.{command}
use Rattle.command_words.specs.Numbers.{number_from}

-- a run of a script, maybe over a netlist, the names of a folder, or a run of a script of a size
pub data Reading : Type 0 where
  run : (folder script : Text) → (netlist : Option Text) → (budget : ℕ) → Reading
  list : (folder : Text) → Reading
  gen : (folder : Text) → (size budget : ℕ) → Reading

-- a run has room for 16,384 to 4,194,304 records, and a size is from 1 to 16
abbrev pub IsInRange : Reading → Type 0
IsInRange (run folder script netlist budget) = (16384 ≤ budget) × (budget ≤ 4194304)
IsInRange (list folder) = Unit
IsInRange (gen folder size budget) = ((1 ≤ size) × (size ≤ 16)) × ((16384 ≤ budget) × (budget ≤ 4194304))

-- the values of the command's places and options
pub record Given : Type 0 where
  pub action : Option Text
  pub folder : Option Text
  pub script : Option Text
  pub netlist : Option Text
  pub budget : Option Text
  pub size : Option Text

-- the values that clap finds
abbrev pub given_in : List Row → Given
given_in rows = record {
  action = first_of (codes "action") rows;
  folder = first_of (codes "folder") rows;
  script = first_of (codes "script") rows;
  netlist = first_of (codes "netlist") rows;
  budget = first_of (codes "budget") rows;
  size = first_of (codes "size") rows;
}

-- what the words give, where clap refuses none of them
unfoldable pub given_of : List Text → Option Given
given_of words =
    if is_empty (fault_of command words) then Some (given_in (matches_of command words)) else None

-- a budget has 16,384 to 4,194,304 records, and 262,144 where none is given
abbrev pub budget_of : Option Text → Option ℕ
budget_of None = Some 262144
budget_of (Some word) = number_from 16384 4194304 word

abbrev pub run_by : Text → Option Text → Option Text → Option Text → Option Text → Option Reading
run_by folder (Some script) netlist budget None = option_map (run folder script netlist) (budget_of budget)
run_by folder script netlist budget size = None

abbrev pub list_by : Text → Option Text → Option Text → Option Text → Option Text → Option Reading
list_by folder None None None None = Some (list folder)
list_by folder script netlist budget size = None

abbrev pub gen_by : Text → Option Text → Option Text → Option Text → Option Text → Option Reading
gen_by folder None None budget (Some size) =
    option_and_then (λ n. option_map (gen folder n) (budget_of budget)) (number_from 1 16 size)
gen_by folder script netlist budget size = None

-- `run` needs a script, and may have a netlist and a budget
abbrev pub run_of : Text → Given → Option Reading
run_of folder g = run_by folder g.script g.netlist g.budget g.size

-- `list` has no option
abbrev pub list_of : Text → Given → Option Reading
list_of folder g = list_by folder g.script g.netlist g.budget g.size

-- `gen` needs a size from 1 to 16, and may have a budget
abbrev pub gen_of : Text → Given → Option Reading
gen_of folder g = gen_by folder g.script g.netlist g.budget g.size

-- what an action asks for in a folder
abbrev pub action_of : Text → Text → Given → Option Reading
action_of action folder g = if bytes_eq action (codes "run") then run_of folder g
    else (if bytes_eq action (codes "list") then list_of folder g
    else (if bytes_eq action (codes "gen") then gen_of folder g else None))

-- what an action and a folder ask for
abbrev pub asked : Given → Option Reading
asked g =
    option_and_then (λ action. option_and_then (λ folder. action_of action folder g) g.folder) g.action

-- what the words ask for, the first of which is the program's name
abbrev pub reading_of : List Text → Option Reading
reading_of words = option_and_then asked (given_of words)
