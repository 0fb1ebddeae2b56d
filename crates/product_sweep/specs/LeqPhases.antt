-- How far a sweep that answers an implication is, by the arcs that were made.
use Rattle.std.specs.Prelude.{◌≡◌, ◌<◌, Bool, true, false, IsSome}
use Rattle.std.proofs.Common.{not}
use Rattle.shelf_model.specs.World.{World}
use Rattle.canon_file.specs.Members.{Has}
use Rattle.table_work.specs.declared.sweep.TableSweep.{TableSweep}
use Rattle.table_work.specs.Tables.{sweep_of}
use Rattle.sweep_operations.specs.declared.product.Product.{Product}
use Rattle.top_down_sweep.specs.Fuel as fuel
use Rattle.top_down_sweep.specs.Meaning.{Task, Remains, table_of}
use Rattle.top_down_sweep.specs.Sweeps as sweeps
use Rattle.product_sweep.specs.declared.leq.LeqPhase.{LeqPhase}
use Rattle.product_sweep.specs.declared.leq.LeqPhase.TheVariants.{Making, Answered}
use Rattle.product_sweep.specs.Products.{rule_of, begins_of}

-- whether the truth value 1 was met decides whether the table has it, once all is made, and before where it was met
pub record TellsOne (p : TableSweep Product) (one : Bool) : Type 0 where
  pub value : one ≡ true → (world : World) (t : Task) → Remains rule_of begins_of (sweep_of p) world t
      → Has true (table_of t)
  pub none : one ≡ false → IsSome (sweeps.made_in (sweep_of p)) → (world : World) (t : Task)
      → Remains rule_of begins_of (sweep_of p) world t → Has true (table_of t) → ⊥

-- all is made, and the answer is whether the truth value 1 wasn't met
pub record IsTold (p : TableSweep Product) (answer : Bool) : Type 0 where
  pub one : Bool
  pub answer_is : answer ≡ not one
  pub tells : TellsOne p one
  pub made : IsSome (sweeps.made_in (sweep_of p))

-- more is to be made, or it is answered
abbrev pub IsPhaseOf : TableSweep Product → LeqPhase → Type 0
IsPhaseOf p Making = 0 < fuel.fuel_of (sweep_of p)
IsPhaseOf p (Answered b) = IsTold p b
