-- What reading a text gives: all that others know of scripts.
use Rattle.std.specs.Prelude.{◌≡◌, ℕ, List, Option, Ok, Err}
use Rattle.blif_reader.specs.Netlist.{Net}
use Rattle.script_reader.specs.declared.plan.Plan.{Plan}
use Rattle.script_reader.specs.declared.fault.ScriptFault.{ScriptFault}
use Rattle.script_reader.specs.Keywords.{built_words}
use Rattle.script_reader.specs.Script.{read}

-- the text asks for this plan, where a netlist may be given
abbrev pub Reads : Option Net → List ℕ → Plan → Type 0
Reads netlist text plan = read built_words netlist text ≡ Ok plan

-- the text asks for no plan, and this is its first fault
abbrev pub Refuses : Option Net → List ℕ → ScriptFault → Type 0
Refuses netlist text fault = read built_words netlist text ≡ Err fault
