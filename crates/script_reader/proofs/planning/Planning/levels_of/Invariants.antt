use Rattle.std.specs.Prelude.{◌≡◌, drop}
use Rattle.blif_reader.specs.Answers.{net_of}
use Rattle.script_reader.specs.Nets.{inputs_of, all_found}
use Rattle.script_reader.specs.Views.{state_of}
use Rattle.script_reader.specs.declared.fault.ScriptKind.TheVariants as kind
use Rattle.script_reader.proofs.Finding.{found_behind}
use Rattle.script_reader.proofs.planning.Planning.levels_of.Given as goal

-- the levels so far and those of the inputs that are left are all
abbrev pub invariant-loop-signal : goal.invariant-loop-signal
invariant-loop-signal l =
    found_behind kind.Variable (state_of l.self).level l.levels.items (drop l.signal (inputs_of (net_of l.net))) ≡ all_found kind.Variable (state_of l.self).level (inputs_of (net_of l.net))
