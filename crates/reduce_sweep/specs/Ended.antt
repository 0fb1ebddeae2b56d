-- The task that the checkpoint of a reduction without a sweep names.
use Rattle.std.specs.Prelude.{◌≡◌, ℕ}
use Rattle.shelf_model.specs.declared.file_no.FileNo.{FileNo}
use Rattle.sweep_core.specs.declared.checkpoint.Checkpoint.{Checkpoint}
use Rattle.reduce_sweep.specs.Resumes.{Names}
use Rattle.reduce_sweep.specs.Sweeps.{Task}

-- a diagram of so many variables is put into that file, and the files of its arcs are of the checkpoint's step
pub record NamesEnded (c : Checkpoint) (out : FileNo) (n : ℕ) : Type 0 where
  pub task : Task
  pub names : Names c task
  pub out_is : task.out ≡ out
  pub variables_are : task.variables ≡ n
  pub inner_own : task.inner.step ≡ c.step
  pub ends_own : task.ends.step ≡ c.step
