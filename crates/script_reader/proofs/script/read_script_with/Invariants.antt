use Rattle.std.specs.Prelude.{◌≡◌, ◌≤◌, length, Ok}
use Rattle.std.specs.List.{AllByRecursion}
use Rattle.text_words.specs.Text.{Line, lines_of}
use Rattle.text_words.specs.Left.{lines_left}
use Rattle.script_reader.specs.Names.{nothing}
use Rattle.script_reader.specs.Script.{plan_lines}
use Rattle.script_reader.specs.Views.{texts, state_of, given, IsKept}
use Rattle.script_reader.proofs.script.read_script_with.Given as goal

-- the lines that are left, behind what is known, plan what all lines do, and are short; what is
-- kept is of the netlist
abbrev pub invariant-loop-line : goal.invariant-loop-line
invariant-loop-line l = record {
  read : plan_lines (texts l.known) (given l.netlist) (Ok (state_of l.planning)) (lines_left l.line-iterator) ≡ plan_lines (texts l.known) (given l.netlist) (Ok nothing) (lines_of l.bytes);
  short : AllByRecursion (λ (line : Line). length line.bytes ≤ 1048576) (lines_left l.line-iterator);
  kept : IsKept (given l.netlist) (state_of l.planning) l.kept;
}
