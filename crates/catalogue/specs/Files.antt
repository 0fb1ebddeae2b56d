-- The files that hold the job, the entries of its committed steps, and the gates of both.
use Rattle.std.specs.Prelude.{ℕ}
pub use Rattle.file_numbers.specs.Files.{job_step, job_file, job_gate, catalogue, step_gate}

-- the bytes of an entry
abbrev pub entry_size : ℕ
entry_size = 128
