use Rattle.std.specs.Prelude.{◌≡◌, drop}
use Rattle.std.specs.List.{list_any}
use Rattle.script_reader.specs.Nets.{is_given}
use Rattle.script_reader.specs.Views.{state_of, words_of}
use Rattle.script_reader.proofs.planning.Planning.any_given.Given as goal

-- it is among the names that are left
abbrev pub invariant-loop-name : goal.invariant-loop-name
invariant-loop-name l = list_any (is_given (state_of l.self)) (drop l.name-index (words_of l.names)) ≡ list_any (is_given (state_of l.self)) (words_of l.names)
