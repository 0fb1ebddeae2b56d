use Rattle.std.proofs.Common.{◌≡◌, ◌++◌, map, take}
use Rattle.example_script.specs.Lines.{text_of, behind_blanks}
use Rattle.example_script.proofs.lines.put_line.Given as goal

-- the names so far stand behind the word
abbrev pub invariant-loop-name : goal.invariant-loop-name
invariant-loop-name l = l.script.items ≡ l.initial.script.items ++ behind_blanks (map text_of (take l.name-index l.names))
