use Rattle.std.specs.Prelude.{◌≡◌, drop}
use Rattle.std.specs.List.{list_all}
use Rattle.script_reader.specs.Requests.{is_short}
use Rattle.script_reader.specs.Views.{words_of}
use Rattle.script_reader.proofs.netlists.are_short.Given as goal

-- those that are left decide
abbrev pub invariant-loop-name : goal.invariant-loop-name
invariant-loop-name l = list_all is_short (drop l.name-index (words_of l.names)) ≡ list_all is_short (words_of l.names)
