-- A netlist that is given is one, and at first nothing is kept of it.
use Rattle.std.specs.Prelude.{Option, Some, None, IfSome}
use Rattle.std.specs.Borrow.{Bor}
use Rattle.blif_reader.specs.declared.netlist.Netlist.{Netlist}
use Rattle.blif_reader.specs.Netlist.{Net, IsNet}
use Rattle.script_reader.specs.Names.{State}
use Rattle.script_reader.specs.Views.{given, IsKept}

pub given_sound : (netlist : Option (Bor Netlist)) → IfSome (given netlist) IsNet
given_sound None = tt
given_sound (Some b) = b.now.sound

-- at first nothing is kept
pub none_kept : (netlist : Option Net) (s : State) → IsKept netlist s None
none_kept netlist s = record {
  begun = λ tables some. absurd cc;
  tables = λ tables net some given. absurd cc;
}
