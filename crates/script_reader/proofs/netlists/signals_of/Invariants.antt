use Rattle.std.specs.Prelude.{◌≡◌, drop}
use Rattle.blif_reader.specs.Answers.{net_of}
use Rattle.blif_reader.specs.Index as index
use Rattle.script_reader.specs.Nets.{all_found}
use Rattle.script_reader.specs.Views.{texts}
use Rattle.script_reader.specs.declared.fault.ScriptKind.TheVariants as kind
use Rattle.script_reader.proofs.Finding.{found_behind}
use Rattle.script_reader.proofs.netlists.signals_of.Given as goal

-- the signals so far and those of the names that are left are all
abbrev pub invariant-loop-name : goal.invariant-loop-name
invariant-loop-name l =
    found_behind kind.UnknownName (index.place_of (net_of l.net).names) l.signals.items (drop l.name-index (texts l.names)) ≡ all_found kind.UnknownName (index.place_of (net_of l.net).names) (texts l.names)
