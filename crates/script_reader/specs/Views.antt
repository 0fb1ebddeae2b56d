-- What the reader's values stand for.
use Rattle.std.specs.Prelude.{◌≡◌, ◌⊎◌, ℕ, true, List, map, length, Option, Some, option_map, Result}
use Rattle.std.specs.Prelude.{Ok, Err, Vec}
use Rattle.std.specs.declared.alloc.Global.{Global}
use Rattle.std.specs.Ordering.{nat_cmp}
use Rattle.std.specs.Cmp.Lexicographic.{slice_cmp}
use Rattle.std.specs.BTreeMap.{BTreeMap, get_by}
use Rattle.std.specs.Borrow.{Bor}
use Rattle.text_words.specs.Text.{Word}
use Rattle.text_words.specs.Left.{word_of}
use Rattle.text_words.specs.declared.words.Word as shown
use Rattle.blif_reader.specs.declared.netlist.Netlist.{Netlist}
use Rattle.blif_reader.specs.Netlist.{Net}
use Rattle.blif_reader.specs.Answers.{net_of}
use Rattle.script_reader.specs.declared.fault.ScriptKind.{ScriptKind}
use Rattle.script_reader.specs.declared.fault.ScriptFault.{ScriptFault}
use Rattle.script_reader.specs.declared.fault.Refusal.{Refusal}
use Rattle.script_reader.specs.declared.fault.Refusal.TheVariants as refusal
use Rattle.script_reader.specs.declared.planning.Planning.{Planning}
use Rattle.script_reader.specs.declared.plan.Plan.{Plan}
use Rattle.script_reader.specs.declared.fault.ScriptKind.TheVariants as kind
use Rattle.script_reader.specs.declared.netlists.NetTables.{NetTables}
use Rattle.net_plan.specs.Planners.{signals_of}
use Rattle.script_reader.specs.Nets.{levels_of}
use Rattle.script_reader.specs.Names.{State}

-- the bytes of slices
abbrev pub texts : List (Bor (List ℕ)) → List (List ℕ)
texts slices = map (λ (s : Bor (List ℕ)). s.now) slices

-- the words of a line
abbrev pub words_of : List shown.Word → List Word
words_of words = map word_of words

-- what a map has for a name
abbrev pub found_in : {V : Type 0} → BTreeMap (Bor (List ℕ)) V → List ℕ → Option V
found_in map name = get_by (λ (k : Bor (List ℕ)). slice_cmp nat_cmp name k.now) map

-- the netlist that is given, where one is
abbrev pub given : Option (Bor Netlist) → Option Net
given netlist = option_map (λ (b : Bor Netlist). net_of b.now) netlist

-- what is known while a script is read
abbrev pub state_of : Planning → State
state_of p = record {
  begun = p.begun;
  n = p.n;
  level = found_in p.levels;
  named = found_in p.named;
  steps = p.steps.items;
  lines = p.lines.items;
}

-- a line was refused as reading refuses it, unless memory ran out
abbrev pub Fails : {Y : Type 0} → Refusal → Result Y ScriptKind → Type 0
Fails refusal.Memory read = Unit {0}
Fails (refusal.Fault kind) read = read ≡ Err kind

-- what a function returned, seen by view, is what reading gives, unless memory ran out
abbrev pub Gives : {X Y : Type 0} → (X → Y) → Result X Refusal → Result Y ScriptKind → Type 0
Gives view (Ok x) read = read ≡ Ok (view x)
Gives view (Err e) read = Fails e read

-- slices and numbers in vectors
abbrev pub texts_in : Vec (Bor (List ℕ)) Global → List (List ℕ)
texts_in slices = texts slices.items

abbrev pub numbers_in : Vec ℕ Global → List ℕ
numbers_in numbers = numbers.items

-- what is known after a call is what reading gives, unless memory ran out
abbrev pub Leads : State → Result Unit Refusal → Result State ScriptKind → Type 0
Leads new (Ok u) read = read ≡ Ok new
Leads new (Err e) read = Fails e read

-- a refusal on a line; want of memory is of no line
abbrev pub fault_on : ℕ → Refusal → ScriptFault
fault_on line refusal.Memory = record { line = 0; kind = kind.Memory }
fault_on line (refusal.Fault k) = record { line = line; kind = k }

-- the answer is what reading gives, unless memory ran out
abbrev pub AnswersRead : Result Plan ScriptFault → Result Plan ScriptFault → Type 0
AnswersRead (Ok plan) read = read ≡ Ok plan
AnswersRead (Err fault) read = (read ≡ Err fault) ⊎ (fault ≡ record { line = 0; kind = kind.Memory })

-- what is kept of a netlist is the levels of its inputs, and tables for its signals
pub record AreTablesOf (net : Net) (s : State) (tables : NetTables) : Type 0 where
  pub levels : levels_of s net ≡ Ok tables.levels.items
  pub serves : signals_of tables.planner ≡ length net.names

-- what is kept is of the netlist that is given, and stays so: a line was read, so no further one
-- names variables
pub record IsKept (netlist : Option Net) (s : State) (kept : Option NetTables) : Type 0 where
  pub begun : (tables : NetTables) → kept ≡ Some tables → s.begun ≡ true
  pub tables : (tables : NetTables) (net : Net) → kept ≡ Some tables → netlist ≡ Some net
      → AreTablesOf net s tables

-- what may be kept is given, unless an input is no variable or memory ran out
abbrev pub GivesTables : Net → State → Result NetTables Refusal → Type 0
GivesTables net s (Ok tables) = AreTablesOf net s tables
GivesTables net s (Err e) = Fails e (levels_of s net)
