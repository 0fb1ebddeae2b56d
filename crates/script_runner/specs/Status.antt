-- The exit status of each ending.
use Rattle.std.specs.Prelude.{ℕ}
use Rattle.script_runner.specs.declared.ending.Ending.{Ending}
use Rattle.script_runner.specs.declared.ending.Ending.TheVariants.{Done, Usage, Script, Netlist, OtherJob, TextFault}
use Rattle.script_runner.specs.declared.ending.Ending.TheVariants.{FolderFault, SayFault, NoMemory, Damaged, RunsSpent}

abbrev pub status_of : Ending → ℕ
status_of Done = 0
status_of Usage = 2
status_of Script = 3
status_of Netlist = 4
status_of OtherJob = 5
status_of TextFault = 6
status_of FolderFault = 7
status_of SayFault = 8
status_of NoMemory = 9
status_of Damaged = 10
status_of RunsSpent = 11
