-- What reading a netlist gives.
use Rattle.std.specs.Prelude.{◌≡◌, ℕ, List, Option, Some, None, Ok, option_map}
use Rattle.shelf_model.specs.Faults.{Faults, Rose}
use Rattle.blif_reader.specs.Answers.{net_of}
use Rattle.blif_reader.specs.Netlist.{Net, IsReading}
use Rattle.blif_reader.specs.declared.fault.BlifFault.{BlifFault}
use Rattle.script_runner.specs.declared.fetch.FetchFault.{FetchFault}
use Rattle.script_runner.specs.declared.fetch.FetchFault.TheVariants as fetch
use Rattle.script_runner.specs.declared.read_netlist.ReadNetlist.{ReadNetlist}
use Rattle.script_runner.specs.declared.netlist.NetlistFault.{NetlistFault}
use Rattle.script_runner.specs.declared.netlist.NetlistFault.TheVariants.{Memory, Text, Faulty}

-- the text of a netlist, and the netlist, where one was read
abbrev pub netlist_text : Option ReadNetlist → Option (List ℕ)
netlist_text = option_map (λ given. given.text.items)

abbrev pub netlist_in : Option ReadNetlist → Option Net
netlist_in = option_map (λ given. net_of given.net)

-- the text spells the netlist, where there is one
abbrev pub IsSpelled : Option ReadNetlist → Type 0
IsSpelled None = Unit
IsSpelled (Some given) = IsReading given.text.items (Ok (net_of given.net))

-- the fault that says the same
abbrev pub netlist_fault : FetchFault → NetlistFault
netlist_fault fetch.Memory = Memory
netlist_fault fetch.Text = Text

-- where a fault of a text is answered, it is one of these
abbrev pub IsFaultyAs : (BlifFault → Type 0) → NetlistFault → Type 0
IsFaultyAs P Memory = Unit
IsFaultyAs P Text = Unit
IsFaultyAs P (Faulty fault) = P fault

-- the count of the path that is named rose
abbrev pub IsNamedRise : Option (List ℕ) → Faults → Faults → Type 0
IsNamedRise path old new = (named : List ℕ) × (path ≡ Some named) × Rose (old.text named) (new.text named)
