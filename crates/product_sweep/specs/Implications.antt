-- Whether one function implies another, seen as a sweep: what remains of that, and how many turns.
use Rattle.std.specs.Prelude.{◌≡◌, ◌↔◌, ℕ, ◌+◌, ◌^◌, ◌<◌, Bool, true, false, IsTrue, List, [], ◌∷◌, Option, Some, None}
use Rattle.std.specs.Prelude.{IsSome, IfSome, Result, OnOk, IfErr, IsErrOf, ◌≤◌}
use Rattle.bool_tables.specs.Tables.{is_leq}
use Rattle.bool_tables.specs.declared.steps.Bin.{Bin}
use Rattle.bool_tables.specs.declared.steps.Step.TheVariants.{Pair}
use Rattle.canon_file.specs.Laws.{HasForm}
use Rattle.shelf_model.specs.declared.file_no.FileNo.{FileNo}
use Rattle.shelf_model.specs.declared.sort_fault.SortFault.{SortFault}
use Rattle.shelf_model.specs.declared.sort_fault.SortFault.TheVariants.{RunsSpent}
use Rattle.shelf_model.specs.Faults.{Faults}
use Rattle.shelf_model.specs.World.{World, file}
use Rattle.sweep_core.specs.Accounts.{Accounts, Leaves}
use Rattle.sweep_core.specs.Sweeps.{Falls, MovesOn, AtEnd, IsFirm, StaysEnded, IsNoDamage}
use Rattle.sweep_core.specs.declared.turn.Turn.{Turn}
use Rattle.table_work.specs.Jobs.{TableWork, work_of_step, turns_of}
use Rattle.table_work.specs.Tables.{sweep_of}
use Rattle.sweep_operations.specs.declared.product.Product.{Product}
use Rattle.top_down_sweep.specs.declared.sweep.TopDownSweep.{TopDownSweep}
use Rattle.top_down_sweep.specs.Beginning as top
use Rattle.top_down_sweep.specs.Calls as calls
use Rattle.top_down_sweep.specs.Damage as damage
use Rattle.top_down_sweep.specs.Fuel as fuel
use Rattle.top_down_sweep.specs.Making.{accounts_along}
use Rattle.top_down_sweep.specs.Sweeps as sweeps
use Rattle.product_sweep.specs.declared.leq.LeqPhase.{LeqPhase}
use Rattle.product_sweep.specs.declared.leq.LeqPhase.TheVariants.{Making, Answered}
use Rattle.product_sweep.specs.declared.leq.LeqSweep.{LeqSweep}
use Rattle.product_sweep.specs.Products.{rule_of, begins_of, MakesTable}

-- two tables of n variables, of which the left one may imply the right one everywhere
pub record Implication : Type 0 where
  pub n : ℕ
  pub left : List Bool
  pub right : List Bool

-- the operator of "left and not right"
abbrev pub and_not : Bin
and_not = record { v00 = false; v01 = false; v10 = true; v11 = false }

-- its table of the two, which is nowhere 1 exactly where the left one implies the right one
abbrev pub refutation : Implication → TableWork
refutation d = work_of_step d.n (Pair and_not 0 1) (d.left ∷ d.right ∷ [])

-- the sweep that makes the arcs
abbrev pub product_in : LeqSweep → TopDownSweep Product
product_in s = sweep_of s.product

-- the answer, once it has ended
abbrev pub answer_at : LeqPhase → Option Bool
answer_at Making = None
answer_at (Answered b) = Some b

abbrev pub answer_of : LeqSweep → Option Bool
answer_of s = answer_at s.phase

-- what falls with each turn: while arcs are made, the fuel of that and one
abbrev pub fuel_at : LeqPhase → ℕ → ℕ
fuel_at Making making = making + 1
fuel_at (Answered b) making = 0

abbrev pub fuel_of : LeqSweep → ℕ
fuel_of s = fuel_at s.phase (fuel.fuel_of (product_in s))

-- no more turns than these remain: while arcs are made, those of that
abbrev pub left_at : LeqPhase → ℕ → ℕ
left_at Making making = making
left_at (Answered b) making = 0

abbrev pub turns_left : LeqSweep → World → Implication → ℕ
turns_left s world d = left_at s.phase (turns_of (product_in s) world (refutation d))

-- it makes the files of arcs, and takes parts for the queue
abbrev pub accounts : Accounts LeqSweep
accounts = accounts_along product_in (sweeps.accounts Product)

-- no turn changes its files, nor the number of variables
abbrev pub task_of : LeqSweep → sweeps.SweepTask
task_of s = sweeps.task_of (product_in s)

-- while arcs are made, more are to be made
abbrev pub HasWork : LeqPhase → ℕ → Type 0
HasWork Making making = 0 < making
HasWork (Answered b) making = Unit

-- what is true of it whatever the folder holds
pub record IsReady (s : LeqSweep) : Type 0 where
  pub product : top.IsReady (product_in s)
  pub works : HasWork s.phase (fuel.fuel_of (product_in s))

-- once it is answered, the arcs that were made stand in their files whatever a stop leaves
abbrev pub AreFirm : LeqSweep → World → Type 0
AreFirm s world = (f : FileNo) → accounts.makes s f → IsFirm (file world f)

-- its files hold what it takes them to hold
abbrev pub IsInStepAt : LeqPhase → LeqSweep → World → Type 0
IsInStepAt Making s world = calls.IsInStep (product_in s) world
IsInStepAt (Answered b) s world = AreFirm s world

abbrev pub IsInStep : LeqSweep → World → Type 0
IsInStep s world = IsInStepAt s.phase s world

-- what its turns put stands in them, while arcs are made
abbrev pub IsTrustedAt : LeqPhase → LeqSweep → World → Type 0
IsTrustedAt Making s world = calls.IsTrusted rule_of begins_of (product_in s) world
IsTrustedAt (Answered b) s world = Unit

abbrev pub IsTrusted : LeqSweep → World → Type 0
IsTrusted s world = IsTrustedAt s.phase s world

-- the table of "left and not right" is still to be made
pub record IsToBeMade (s : LeqSweep) (world : World) (d : Implication) : Type 0 where
  pub left_form : HasForm d.n d.left
  pub right_form : HasForm d.n d.right
  pub makes : MakesTable s.product world (refutation d)

-- what remains: arcs are made, and the answer is right
abbrev pub RefutesAt : LeqPhase → LeqSweep → World → Implication → Type 0
RefutesAt Making s world d = IsToBeMade s world d
RefutesAt (Answered b) s world d = b ≡ is_leq d.left d.right

abbrev pub Refutes : LeqSweep → World → Implication → Type 0
Refutes s world d = RefutesAt s.phase s world d

-- damage is that of an operand
abbrev pub IsDamageAt : LeqPhase → LeqSweep → World → SortFault → Type 0
IsDamageAt Making s world e = damage.IsDamage rule_of begins_of (product_in s) world e
IsDamageAt (Answered b) s world e = ⊥

abbrev pub IsDamage : LeqSweep → World → SortFault → Type 0
IsDamage s world e = IsDamageAt s.phase s world e

-- it is answered exactly once the sweep has ended, and the answer is whether the left function implies the right one
-- everywhere
pub record TellsAnswer (s : LeqSweep) (answer : Option Bool) : Type 0 where
  pub at_end : IsSome answer ↔ (fuel_of s ≡ 0)
  pub is_right : (world : World) (d : Implication) → Refutes s world d
      → IfSome answer (λ b. b ≡ is_leq d.left d.right)

-- what a turn does, leaves and costs
pub record Turned {S : Type 0} (tells : S → Bool) (world : S → World) (counts : S → Faults) (before after : S)
    (old new : LeqSweep) (result : Result Turn SortFault) : Type 0 where
  pub ready : OnOk result (IsReady new)
  pub in_step : OnOk result (IsTrue (tells after) → IsInStep new (world after))
  pub falls : Falls (fuel_of old) (fuel_of new) result
  pub ended : fuel_of old ≡ 0 → StaysEnded before after old new result
  pub firm : AtEnd result (IsTrue (tells after) → AreFirm new (world after))
  pub keeps : OnOk result (IsTrue (tells after) → (d : Implication) → Refutes old (world before) d
      → Refutes new (world after) d)
  pub fewer : IsTrue (tells after) → (d : Implication) → Refutes old (world before) d
      → MovesOn 1 (turns_left old (world before) d) (turns_left new (world after) d) result
  pub trusts : OnOk result (IsTrue (tells after) → IsTrusted old (world before) → IsTrusted new (world after))
  pub damaged : IfErr result (λ e. IsTrue (tells after) → IsTrusted old (world before)
      → IsDamage new (world after) e)
  pub undamaged : IfErr result (λ e. IsTrue (tells after) → (d : Implication) → Refutes old (world before) d
      → IsNoDamage e)
  pub leaves : Leaves tells world counts accounts 224 12 before after old new result
  pub same : task_of new ≡ task_of old
  pub spent : IsErrOf result RunsSpent → 2 ^ 32 ≤ accounts.next new
