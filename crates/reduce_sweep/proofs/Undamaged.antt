-- What remains of a diagram shows no damage.
use Rattle.std.specs.Prelude.{Result, Ok, Err, IfErr}
use Rattle.shelf_model.specs.declared.sort_fault.SortFault.{SortFault}
use Rattle.shelf_model.specs.World.{World}
use Rattle.sweep_core.specs.Sweeps.{IsNoDamage}
use Rattle.reduce_lists.specs.AtWork.{AreListed}
use Rattle.reduce_lists.specs.Damage.{IsDamageOf}
use Rattle.reduce_lists.proofs.Undamaged.{none_held}
use Rattle.reduce_sweep.specs.declared.reduce.ReduceSweep.{ReduceSweep}
use Rattle.reduce_sweep.specs.Sweeps.{held_of}
use Rattle.reduce_sweep.specs.Remaining.{Diagram, IsWorking, RemainsOf}
use Rattle.reduce_sweep.specs.RemainingLaws.{working_lists}

-- a turn of what remains of a diagram finds no damage
pub turns_undamaged : {A : Type 0} (told : Type 0) (s : ReduceSweep) (world : World) (result : Result A SortFault)
    → ((d : Diagram) → RemainsOf s world d → IsWorking s world d)
    → IfErr result (λ e. told → AreListed s.ahead s.lists world → IsDamageOf s.ahead.reader world e)
    → IfErr result (λ e. told → (d : Diagram) → RemainsOf s world d → IsNoDamage e)
turns_undamaged told s world (Ok x) works damage = tt
turns_undamaged told s world (Err e) works damage = λ tell d remains.
    let working = works d remains in
    none_held (held_of s) world working.contents e working.holds (damage tell (working_lists s world d working))
