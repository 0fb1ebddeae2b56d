-- The job of a source, and the one that a run is given.
use Rattle.std.specs.Prelude.{ℕ, ◌≤◌, List, [], ◌++◌, length, drop, replicate, codes, Option, Some, None}
use Rattle.byteorder.specs.Endian.{big_bytes, big_number}
use Rattle.bool_tables.specs.declared.steps.Planned.{Planned}
use Rattle.catalogue.specs.Standings.{without_budget}
use Rattle.sound_image.specs.Jobs.{Job}
use Rattle.script_reader.specs.declared.plan.Plan.{Plan}
use Rattle.script_runner.specs.Source.{Source}
use Rattle.script_runner.specs.declared.given_job.Job as declared

-- a script and maybe a netlist
abbrev pub source_of : List ℕ → Option (List ℕ) → Source
source_of script netlist = record { script = script; netlist = netlist }

-- a netlist has at most 4,194,304 bytes
abbrev pub IsShort : Option (List ℕ) → Type 0
IsShort None = Unit
IsShort (Some netlist) = length netlist ≤ 4194304

-- the length of a netlist, and 255 four times where there is none
abbrev pub netlist_size : Option (List ℕ) → List ℕ
netlist_size None = replicate 4 255
netlist_size (Some netlist) = big_bytes 4 (length netlist)

abbrev pub netlist_bytes : Option (List ℕ) → List ℕ
netlist_bytes None = []
netlist_bytes (Some netlist) = netlist

-- the version of the layout, the budget, which is the records of the room of the run that wrote it, the length of the
-- script, that of the netlist, the script, and the netlist
unfoldable pub job_bytes : ℕ → Source → List ℕ
job_bytes budget s =
    codes "ADIARJ01" ++ big_bytes 4 budget ++ big_bytes 4 (length s.script) ++ netlist_size s.netlist
    ++ s.script ++ netlist_bytes s.netlist

-- the budget that the bytes of a job have
unfoldable pub budget_in : List ℕ → ℕ
budget_in bytes = big_number 4 (drop 8 bytes)

-- a job that is given part by part, with the bytes that a run with some budget writes
abbrev pub given_job : ℕ → List ℕ → List Planned → List ℕ → Job
given_job n text steps bytes = record { n = n; text = text; steps = steps; bytes = without_budget bytes }

-- the job of a source whose script asks for this plan, whatever the budget of its runs
abbrev pub job_of : Source → Plan → Job
job_of s plan = record { n = plan.n; text = s.script; steps = plan.steps; bytes = job_bytes 0 s }

-- the job that a run is given, as a folder stores and shows it
abbrev pub job_in : declared.Job → Job
job_in job = given_job job.n job.text.now job.steps.now job.bytes.now
