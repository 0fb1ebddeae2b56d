use Rattle.std.specs.Prelude.{◌≡◌, drop}
use Rattle.script_reader.specs.Nets.{give_names}
use Rattle.script_reader.specs.Views.{state_of, words_of}
use Rattle.script_reader.proofs.planning.Planning.give_names.Given as goal

-- the pairs that are left lead to the same
abbrev pub invariant-loop-place : goal.invariant-loop-place
invariant-loop-place l =
    give_names (state_of l.self) l.line l.last (drop l.place (words_of l.names)) (drop l.place l.made) ≡ give_names (state_of l.fn.self) l.line l.last (words_of l.names) l.made
