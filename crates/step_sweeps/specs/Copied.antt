-- The copy of an operand that a step goes on with.
use Rattle.std.specs.Prelude.{◌≡◌, ℕ, List}
use Rattle.canon_file.specs.Canon.{canon_bytes}
use Rattle.canon_file.specs.Laws.{HasForm}
use Rattle.copy_sweep.specs.declared.copy.CopySweep.{CopySweep}
use Rattle.resumable.specs.Diagrams.{copy_of}
use Rattle.step_sweeps.specs.declared.task.Making.{Making}
use Rattle.step_sweeps.specs.Given.{Tables}
use Rattle.step_sweeps.specs.Makes.{table_by}

-- it copies all pieces of the canonical bytes of the step's table, which has such a form, into the step's node file
pub record CopiesTo (making : Making) (g : Tables) (bytes : List ℕ) (s : CopySweep) : Type 0 where
  pub form : HasForm making.n (table_by making g)
  pub bytes_are : bytes ≡ canon_bytes making.n (table_by making g)
  pub task_is : s.task ≡ copy_of s.task.from making.number bytes
