use Rattle.std.specs.Prelude.{◌≡◌, take}
use Rattle.blif_reader.specs.Answers.{net_of}
use Rattle.script_reader.specs.Views.{texts}
use Rattle.script_reader.proofs.netlists.input_names.Given as goal

-- the names of the inputs so far
abbrev pub invariant-loop-signal : goal.invariant-loop-signal
invariant-loop-signal l = record {
  read : texts l.names.items ≡ take l.signal (net_of l.net).names;
}
