-- Where it remains to be answered whether one function implies another, what the turns put stands in the files.
use Rattle.shelf_model.specs.World.{World}
use Rattle.top_down_sweep.specs.Trusting.{sweep_trusted}
use Rattle.product_sweep.specs.declared.leq.LeqPhase.{LeqPhase}
use Rattle.product_sweep.specs.declared.leq.LeqPhase.TheVariants.{Making, Answered}
use Rattle.product_sweep.specs.declared.leq.LeqSweep.{LeqSweep}
use Rattle.product_sweep.specs.Implications.{Implication, product_in, Refutes, RefutesAt, IsTrusted, IsTrustedAt}
use Rattle.product_sweep.specs.Products.{rule_of, begins_of}

pub refutes_trusted : (s : LeqSweep) (world : World) (d : Implication) → Refutes s world d → IsTrusted s world
refutes_trusted s world d refutes = by s.phase refutes
  where
    by : (p : LeqPhase) → RefutesAt p s world d → IsTrustedAt p s world
    by Making r = sweep_trusted rule_of begins_of (product_in s) world r.makes.makes.task r.makes.makes.remains
    by (Answered b) r = tt
