-- Where the step of an implication finds a file damaged, by what its sweep says, and that its turns are within the work.
use Rattle.std.specs.Prelude.{ℕ, ◌+◌, ◌*◌, ◌≤◌, Bool, List, [], ◌∷◌}
use Rattle.std.proofs.Common.{inl, inr, arith}
use Rattle.bool_tables.specs.declared.steps.Step.TheVariants.{Leq}
use Rattle.shelf_model.specs.declared.file_no.FileNo.{FileNo}
use Rattle.shelf_model.specs.declared.sort_fault.SortFault.{SortFault}
use Rattle.shelf_model.specs.declared.sort_fault.SortFault.TheVariants.{Shelf, Damaged, RunsSpent}
use Rattle.shelf_model.specs.World.{World}
use Rattle.step_work.specs.Works.{work_for}
use Rattle.top_down_sweep.specs.Damage.{IsDamage}
use Rattle.product_sweep.specs.declared.leq.LeqPhase.{LeqPhase}
use Rattle.product_sweep.specs.declared.leq.LeqPhase.TheVariants.{Making, Answered}
use Rattle.product_sweep.specs.declared.leq.LeqSweep.{LeqSweep}
use Rattle.product_sweep.specs.Implications.{product_in, IsDamageAt}
use Rattle.product_sweep.specs.Products.{rule_of, begins_of}
use Rattle.table_work.specs.Tables.{operand_files}
use Rattle.step_sweeps.specs.Damage.{MissesAsked, IsOperandsFault, IsImplicationFault}

-- a fault of an operand is one of the implication
pub implication_fault : (Misses : List ℕ → ℕ → Type 0) (n : ℕ) (left right : FileNo) (world : World) (e : SortFault)
    → IsOperandsFault Misses n (operand_files left right right) world e → IsImplicationFault Misses n left right world e
implication_fault Misses n left right world Shelf is = tt
implication_fault Misses n left right world (Damaged f at) (inl first) = inl first
implication_fault Misses n left right world (Damaged f at) (inr (inl second)) = inr second
implication_fault Misses n left right world (Damaged f at) (inr (inr third)) = inr third
implication_fault Misses n left right world RunsSpent is = tt

-- so is each that a turn of the sweep finds
pub turn_fault_at : (phase : LeqPhase) (n : ℕ) (left right : FileNo) (s : LeqSweep) (old new : World) (e : SortFault)
    → (IsDamage rule_of begins_of (product_in s) new e → IsOperandsFault (MissesAsked Unit) n (operand_files left right right) old e) → IsDamageAt phase s new e
    → IsImplicationFault (MissesAsked Unit) n left right old e
turn_fault_at Making n left right s old new e arcs damage =
    implication_fault (MissesAsked Unit) n left right old e (arcs damage)
turn_fault_at (Answered b) n left right s old new e arcs damage = absurd damage

-- half of the work leaves a turn more
pub within_work : (n : ℕ) (t u : List Bool) (left : ℕ) → 2 * left ≤ work_for n (Leq 0 1) (t ∷ u ∷ [])
    → left + 1 ≤ work_for n (Leq 0 1) (t ∷ u ∷ [])
within_work n t u left half = omega (arith, half)
