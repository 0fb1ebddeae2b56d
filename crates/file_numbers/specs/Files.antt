-- The numbers of the files in a folder: those of the job, and those of each step by their parts.
use Rattle.std.specs.Prelude.{ℕ}
use Rattle.shelf_model.specs.declared.file_no.FileNo.{FileNo}

-- the step number of the job's files, which no step has
abbrev pub job_step : ℕ
job_step = 4294967295

-- the bytes of the job
abbrev pub job_file : FileNo
job_file = record { step = job_step; part = 0 }

-- it isn't empty exactly where a job is stored
abbrev pub job_gate : FileNo
job_gate = record { step = job_step; part = 1 }

-- the entries of the steps, one behind the other
abbrev pub catalogue : FileNo
catalogue = record { step = job_step; part = 2 }

-- it has one byte for each committed step
abbrev pub step_gate : FileNo
step_gate = record { step = job_step; part = 3 }

-- the parts of a step: its nodes, its checkpoints and their gate, its arcs to nodes and to truth values, and its runs
-- from the first one on
abbrev pub nodes_part : ℕ
nodes_part = 0

abbrev pub checkpoint_part : ℕ
checkpoint_part = 1

abbrev pub checkpoint_gate_part : ℕ
checkpoint_gate_part = 2

abbrev pub inner_part : ℕ
inner_part = 3

abbrev pub ends_part : ℕ
ends_part = 4

abbrev pub first_run_part : ℕ
first_run_part = 5

-- the node file of a step's diagram
abbrev pub node_file : ℕ → FileNo
node_file step = record { step = step; part = nodes_part }

-- the checkpoints of a step
abbrev pub checkpoint_file : ℕ → FileNo
checkpoint_file step = record { step = step; part = checkpoint_part }

-- the gate that counts a step's checkpoints
abbrev pub checkpoint_gate : ℕ → FileNo
checkpoint_gate step = record { step = step; part = checkpoint_gate_part }

-- a step's arcs to nodes
abbrev pub inner_file : ℕ → FileNo
inner_file step = record { step = step; part = inner_part }

-- a step's arcs to truth values
abbrev pub ends_file : ℕ → FileNo
ends_file step = record { step = step; part = ends_part }
