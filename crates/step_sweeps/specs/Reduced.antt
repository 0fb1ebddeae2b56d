-- The reduction of a step's arcs.
use Rattle.std.specs.Prelude.{◌≡◌}
use Rattle.canon_file.specs.Laws.{HasForm}
use Rattle.reduce_sweep.specs.declared.reduce.ReduceSweep.{ReduceSweep}
use Rattle.reduce_sweep.specs.Remaining.{Diagram}
use Rattle.reduce_sweep.specs.Sweeps as reduce
use Rattle.step_sweeps.specs.declared.task.Making.{Making}
use Rattle.step_sweeps.specs.Given.{Tables}
use Rattle.step_sweeps.specs.Makes.{table_by}

-- the diagram is one of the table that the step makes, which has a canonical form, and its arcs are files of the step
pub record ReducesTo (making : Making) (g : Tables) (d : Diagram) (s : ReduceSweep) : Type 0 where
  pub table_is : d.table ≡ table_by making g
  pub form : HasForm making.n d.table
  pub inner_own : (reduce.inner_file s).step ≡ making.number
  pub ends_own : (reduce.ends_file s).step ≡ making.number
