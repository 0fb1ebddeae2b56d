-- What the reader's answers stand for.
use Rattle.std.specs.Prelude.{Result, Ok, Err}
use Rattle.blif_reader.specs.declared.fault.BlifFault.{BlifFault}
use Rattle.blif_reader.specs.declared.fault.Refusal.{Refusal}
use Rattle.blif_reader.specs.declared.fault.Refusal.TheVariants as refusals
use Rattle.blif_reader.specs.declared.netlist.Netlist.{Netlist}
use Rattle.blif_reader.specs.Netlist.{Net}
use Rattle.blif_reader.specs.Tables.{net_in}

-- the netlist that one in memory stands for
abbrev pub net_of : Netlist → Net
net_of n = net_in n.tables

-- an answer meets a fact on answers, unless memory ran out
abbrev pub Answers : (Result Net BlifFault → Type 0) → Result Netlist Refusal → Type 0
Answers P (Ok n) = P (Ok (net_of n))
Answers P (Err refusals.Memory) = Unit {0}
Answers P (Err (refusals.Fault f)) = P (Err f)
