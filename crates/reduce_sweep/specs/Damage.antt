-- Where the arc files that a reduction began with are damaged.
use Rattle.shelf_model.specs.declared.sort_fault.SortFault.{SortFault}
use Rattle.shelf_model.specs.World.{World}
use Rattle.reduce_lists.specs.Damage.{IsDamageAmong}
use Rattle.reduce_sweep.specs.declared.reduce.ReduceSweep.{ReduceSweep}
use Rattle.reduce_sweep.specs.Sweeps.{arcs_of}

-- damage is that of a record among the arcs that it began with
abbrev pub IsDamage : ReduceSweep → World → SortFault → Type 0
IsDamage s world e = IsDamageAmong (arcs_of s) world e
