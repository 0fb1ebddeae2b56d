-- What the program says.
use Rattle.std.specs.Prelude.{ℕ, List, [], ◌∷◌, ◌++◌, length, filter, get_or, count_by, nat_le, nat_lt, codes, ◌==◌}
use Rattle.std.specs.Prelude.{if◌then◌else◌}
use Rattle.std.specs.List.{flat_map}
use Rattle.std.specs.Fmt.{decimal}
use Rattle.shelf_model.specs.declared.file_no.FileNo.{FileNo}
use Rattle.catalogue.specs.Counts.{is_stored, count_in}
use Rattle.bool_tables.specs.declared.steps.Step.{Step}
use Rattle.bool_tables.specs.declared.steps.Step.TheVariants.{Const, Var, Pair, Ite, Quantify, Restrict, Drop, Same}
use Rattle.bool_tables.specs.declared.steps.Step.TheVariants.{Leq, Eval, Size}
use Rattle.bool_tables.specs.declared.steps.Planned.{Planned}
use Rattle.catalogue.specs.declared.layout.Entry.{Entry}
use Rattle.step_work.specs.Plans.{no_step}
use Rattle.sound_image.specs.Jobs.{Job, step_at}
use Rattle.sound_image.specs.Entries.{answer_of, count_of}
use Rattle.blif_reader.specs.declared.fault.BlifFault.{BlifFault}
use Rattle.blif_reader.specs.declared.fault.BlifKind.{BlifKind}
use Rattle.blif_reader.specs.declared.fault.BlifKind.TheVariants as blif
use Rattle.script_reader.specs.declared.fault.ScriptFault.{ScriptFault}
use Rattle.script_reader.specs.declared.fault.ScriptKind.{ScriptKind}
use Rattle.script_reader.specs.declared.fault.ScriptKind.TheVariants as kind
use Rattle.script_reader.specs.declared.plan.LineEnd.{LineEnd}

-- a line ends with a line feed
abbrev pub line_of : List ℕ → List ℕ
line_of text = text ++ 10 ∷ []

-- a run from nothing, and how many lines it will say
abbrev pub start_line : ℕ → List ℕ
start_line count = line_of (codes "start " ++ decimal count)

-- a run that goes on, how many lines were said before, and how many there are
abbrev pub resume_line : ℕ → ℕ → List ℕ
resume_line before count = line_of (codes "resume " ++ decimal before ++ codes " of " ++ decimal count)

-- a diagram's answer is its number of nodes
abbrev pub nodes_line : ℕ → ℕ → List ℕ
nodes_line line count = line_of (decimal line ++ codes ": nodes " ++ decimal count)

-- that a diagram was dropped
abbrev pub dropped_line : ℕ → List ℕ
dropped_line line = line_of (decimal line ++ codes ": dropped")

-- whether two functions are equal, or one implies the other
abbrev pub truth_line : ℕ → ℕ → List ℕ
truth_line line answer = line_of (decimal line ++ (if answer == 1 then codes ": yes" else codes ": no"))

-- a function's value
abbrev pub value_line : ℕ → ℕ → List ℕ
value_line line answer = line_of (decimal line ++ (if answer == 1 then codes ": 1" else codes ": 0"))

-- the line that shows the answer and the count of a step's entry
abbrev pub answer_line : ℕ → Step → ℕ → ℕ → List ℕ
answer_line line (Const value) answer count = nodes_line line count
answer_line line (Var level) answer count = nodes_line line count
answer_line line (Pair op left right) answer count = nodes_line line count
answer_line line (Ite test if_one if_zero) answer count = nodes_line line count
answer_line line (Quantify kind operand level) answer count = nodes_line line count
answer_line line (Restrict operand level value) answer count = nodes_line line count
answer_line line (Drop gone) answer count = dropped_line line
answer_line line (Same left right) answer count = truth_line line answer
answer_line line (Leq left right) answer count = truth_line line answer
answer_line line (Eval operand at) answer count = value_line line answer
answer_line line (Size operand) answer count = nodes_line line count

abbrev pub done_line : List ℕ
done_line = line_of (codes "done")

-- the words aren't accepted
abbrev pub usage_line : List ℕ
usage_line = line_of (codes "usage: adiar ACTION FOLDER [options]")

-- the name of a fault's kind
abbrev pub kind_name : ScriptKind → List ℕ
kind_name kind.Memory = codes "Memory"
kind_name kind.Word = codes "Word"
kind_name kind.UnknownName = codes "UnknownName"
kind_name kind.NameTaken = codes "NameTaken"
kind_name kind.Variable = codes "Variable"
kind_name kind.Bits = codes "Bits"
kind_name kind.Dropped = codes "Dropped"
kind_name kind.NameLength = codes "NameLength"
kind_name kind.TooLong = codes "TooLong"
kind_name kind.TooManySteps = codes "TooManySteps"
kind_name kind.NoNetlist = codes "NoNetlist"
kind_name kind.TooManyVariables = codes "TooManyVariables"

-- the script isn't accepted: its first faulty line, and what is wrong with it
abbrev pub refused_line : ScriptFault → List ℕ
refused_line fault = line_of (codes "script: line " ++ decimal fault.line ++ codes ": " ++ kind_name fault.kind)

-- the name of a netlist's fault
abbrev pub netlist_kind_name : BlifKind → List ℕ
netlist_kind_name blif.Memory = codes "Memory"
netlist_kind_name blif.Keyword = codes "Keyword"
netlist_kind_name blif.NoModel = codes "NoModel"
netlist_kind_name blif.NoInputs = codes "NoInputs"
netlist_kind_name blif.Row = codes "Row"
netlist_kind_name blif.MixedOutputs = codes "MixedOutputs"
netlist_kind_name blif.Undriven = codes "Undriven"
netlist_kind_name blif.DrivenTwice = codes "DrivenTwice"
netlist_kind_name blif.Cycle = codes "Cycle"
netlist_kind_name blif.TooLong = codes "TooLong"
netlist_kind_name blif.TooManyVariables = codes "TooManyVariables"

-- the netlist isn't accepted: its first faulty line, and what is wrong with it
abbrev pub netlist_line : BlifFault → List ℕ
netlist_line fault =
    line_of (codes "netlist: line " ++ decimal fault.line ++ codes ": " ++ netlist_kind_name fault.kind)

-- another job is stored, which differs at that byte
abbrev pub other_job_line : ℕ → List ℕ
other_job_line at = line_of (codes "other job at " ++ decimal at)

-- a file of the folder doesn't hold what it should, from that byte on
abbrev pub damaged_line : FileNo → ℕ → List ℕ
damaged_line f at =
    line_of (codes "damaged " ++ decimal f.step ++ codes " " ++ decimal f.part ++ codes " " ++ decimal at)

-- a step has no part number left
abbrev pub runs_spent_line : ℕ → List ℕ
runs_spent_line step = line_of (codes "runs spent at step " ++ decimal step)

-- how many of the lines come before a step
abbrev pub ended_before : ℕ → List LineEnd → ℕ
ended_before step lines = count_by (λ (line : LineEnd). nat_lt line.last step) lines

-- the lines that don't
abbrev pub lines_from_step : ℕ → List LineEnd → List LineEnd
lines_from_step step lines = filter (λ (line : LineEnd). nat_le step line.last) lines

-- the line that shows the answer of a step
abbrev pub said_line : Job → LineEnd → List ℕ
said_line job line =
    let step = (step_at job line.shows).step in answer_line line.line step (answer_of job step)
    (count_of job line.shows step)

-- the line that shows what an entry says of its step
abbrev pub entry_line : List Planned → LineEnd → Entry → List ℕ
entry_line steps line e = answer_line line.line (get_or steps line.shows no_step).step e.answer e.count

-- the first line of a run of so many lines that begins where the files show what they show
abbrev pub banner_line : (FileNo → List ℕ) → List LineEnd → List ℕ
banner_line r lines =
    if is_stored r then resume_line (ended_before (count_in r) lines) (length lines) else start_line (length lines)

-- all that a run says: its banner, the lines of the steps that aren't committed yet, and that all was done
abbrev pub run_text : Job → List LineEnd → (FileNo → List ℕ) → List ℕ
run_text job lines r = banner_line r lines
    ++ (flat_map (said_line job) (lines_from_step (count_in r) lines) ++ done_line)
