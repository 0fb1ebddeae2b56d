-- What a run is asked to do: by words, and by the texts that they name.
use Rattle.std.specs.Prelude.{◌≡◌, ℕ, ◌⊎◌, List, Option, Some, None, Ok, Err}
use Rattle.blif_reader.specs.Netlist.{Net, IsNet, IsReading}
use Rattle.blif_reader.specs.declared.fault.BlifFault.{BlifFault}
use Rattle.command_words.specs.Readings.{Reading, run, list, gen}
use Rattle.example_script.specs.Script.{script_of}
use Rattle.script_reader.specs.declared.fault.ScriptFault.{ScriptFault}
use Rattle.script_reader.specs.declared.plan.Plan.{Plan}
use Rattle.script_reader.specs.Reads.{Reads, Refuses}
use Rattle.shelf_model.specs.World.{World}

-- the script's text, and the netlist's where there is one
pub record Source : Type 0 where
  pub script : List ℕ
  pub netlist : Option (List ℕ)

-- a text is wanted where a path is named, and it stands there
abbrev pub IsNamed : World → Option (List ℕ) → Option (List ℕ) → Type 0
IsNamed w None text = text ≡ None
IsNamed w (Some path) text = (bytes : List ℕ) × (text ≡ Some bytes) × (w.texts path ≡ Some bytes)

-- what words ask to be run, whatever their budget: the texts at the paths that they name, or the script of a size
abbrev pub IsSource : World → Reading → Source → Type 0
IsSource w (run folder script netlist budget) s =
    (w.texts script ≡ Some s.script) × IsNamed w netlist s.netlist
IsSource w (list folder) s = ⊥
IsSource w (gen folder size budget) s = s ≡ record { script = script_of size; netlist = None }

-- the same words with another budget
abbrev pub with_budget : ℕ → Reading → Reading
with_budget budget (run folder script netlist other) = run folder script netlist budget
with_budget budget (list folder) = list folder
with_budget budget (gen folder size other) = gen folder size budget

-- the folder that words name
abbrev pub folder_of : Reading → List ℕ
folder_of (run folder script netlist budget) = folder
folder_of (list folder) = folder
folder_of (gen folder size budget) = folder

-- the path is that of a text that words name
abbrev pub NamesText : Reading → List ℕ → Type 0
NamesText (run folder script netlist budget) path = (path ≡ script) ⊎ (netlist ≡ Some path)
NamesText (list folder) path = ⊥
NamesText (gen folder size budget) path = ⊥

-- the path is that of the netlist that words name
abbrev pub NamesNetlist : Reading → List ℕ → Type 0
NamesNetlist (run folder script netlist budget) path = netlist ≡ Some path
NamesNetlist (list folder) path = ⊥
NamesNetlist (gen folder size budget) path = ⊥

-- a text spells a netlist, which is sound
pub record IsSpelling (text : List ℕ) (net : Net) : Type 0 where
  pub reads : IsReading text (Ok net)
  pub sound : IsNet net

-- the netlist that a text spells, and none where there is no text
abbrev pub Spells : Option (List ℕ) → Option Net → Type 0
Spells None netlist = netlist ≡ None
Spells (Some text) netlist = (net : Net) × (netlist ≡ Some net) × IsSpelling text net

-- the script asks for this plan, over the netlist that is spelled
pub record Plans (s : Source) (plan : Plan) : Type 0 where
  pub netlist : Option Net
  pub spelled : Spells s.netlist netlist
  pub reads : Reads netlist s.script plan

-- the script asks for no plan over that netlist, and this is its first fault
pub record IsFaulty (s : Source) (fault : ScriptFault) : Type 0 where
  pub netlist : Option Net
  pub spelled : Spells s.netlist netlist
  pub refuses : Refuses netlist s.script fault

-- a path is named, and this is the first fault of the text of a netlist there
abbrev pub HasFaultyText : World → Option (List ℕ) → BlifFault → Type 0
HasFaultyText w None fault = ⊥
HasFaultyText w (Some path) fault = (text : List ℕ) × (w.texts path ≡ Some text) × IsReading text (Err fault)

-- words name a netlist, and this is the first fault of its text
abbrev pub HasFaultyNetlist : World → Reading → BlifFault → Type 0
HasFaultyNetlist w (run folder script netlist budget) fault = HasFaultyText w netlist fault
HasFaultyNetlist w (list folder) fault = ⊥
HasFaultyNetlist w (gen folder size budget) fault = ⊥
