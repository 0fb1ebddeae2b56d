-- What a step that begins anew makes in one of its ways, where turns were made before: so many count for what was
-- tried.
use Rattle.std.specs.Prelude.{◌≡◌, ◌≢◌, ℕ, ◌+◌, ◌-◌, ◌*◌, ◌^◌, ◌<◌, ◌≤◌, Bool, IsTrue, Result, IfOk, IfErr, IsErrOf}
use Rattle.std.specs.Prelude.{None}
use Rattle.shelf_model.specs.declared.sort_fault.SortFault.{SortFault}
use Rattle.shelf_model.specs.declared.sort_fault.SortFault.TheVariants.{RunsSpent}
use Rattle.shelf_model.specs.Calls.{Told}
use Rattle.shelf_model.specs.Faults.{Faults}
use Rattle.shelf_model.specs.Moments.{Ran, Throughout, OnlyChanged}
use Rattle.shelf_model.specs.World.{Moment, World, now}
use Rattle.run_tiers.specs.Faults.{OnlySortShelf}
use Rattle.step_going.specs.Standing.{AreSafe, HasNone}
use Rattle.sweep_checkpoint.specs.Stops.{StopsCost}
use Rattle.sweep_checkpoint.specs.declared.going.Going.{Going}
use Rattle.sweep_core.specs.Accounts.{NoneFilled}
use Rattle.sweep_core.specs.Sweeps.{IsNoDamage}
use Rattle.node_file.specs.Canonical.{IsMade}
use Rattle.step_sweeps.specs.declared.diagram.MadeDiagram.{MadeDiagram}
use Rattle.step_sweeps.specs.declared.task.Making.{Making}
use Rattle.step_sweeps.specs.Damage.{IsArcsFault}
use Rattle.step_sweeps.specs.Given.{Tables}
use Rattle.step_sweeps.specs.Made.{node_file, OnlyStep, IsCounted, FewAnew}
use Rattle.step_sweeps.specs.Makes.{IsGiven, AreFirm, HasNoGate, table_by, nodes_for, work_for, goes_on_by}

-- nothing was done of a step of that number, and a checkpoint is due after no fewer turns than the least room has
-- records
pub record IsAnew (number : ℕ) (going : Going) : Type 0 where
  pub step_is : going.step ≡ number
  pub sweep_is : going.sweep ≡ 0
  pub last_is : going.last ≡ None
  pub turns_are : going.turns ≡ 0
  pub shown_is : going.shown ≡ 0
  pub budget : 16384 ≤ going.budget

-- whatever a stop leaves the step's operands are the canonical files of these tables, and no checkpoint of it is gated
pub record IsGivenAnew (making : Making) (world : World) (g : Tables) : Type 0 where
  pub given : IsGiven making world g
  pub firm : AreFirm making world
  pub none : HasNone making.number (now world).folder

-- the node file is the canonical one of the table, and the turns, of which some were made before, leave so many of the
-- step's work
pub record IsMadeWithin (making : Making) (g : Tables) (earlier left_over : ℕ) (m : MadeDiagram) (world : World)
    : Type 0 where
  pub made : IsMade making.n (table_by making g) (node_file making.number) m.nodes world
  pub few : m.turns + left_over ≤ earlier + work_for making g

-- a step makes its diagram at once, or is refused
pub record MakesAtOnce {S : Type 0} (tells : S → Bool) (world : S → World) (counts : S → Faults) (making : Making)
    (before after : S) (result : Result MadeDiagram SortFault) : Type 0 where
  pub made : IfOk result (λ m. IsTrue (tells after) → (g : Tables) → IsGiven making (world before) g
      → IsMadeWithin making g 0 0 m (world after))
  pub cause : IfErr result (λ e. IsTrue (tells after) → IsNoDamage e × (e ≢ RunsSpent))
  pub few_calls : IsTrue (tells after) → (g : Tables) → IsGiven making (world before) g
      → (world after).clock ≤ (world before).clock + (229 * work_for making g + 7)
  pub content : Told tells before after
      (Ran (OnlyChanged (λ q. q ≡ node_file making.number) (now (world before))) (world before) (world after))
  pub counted : IfOk result (λ m. IsCounted m.turns m.next)
  pub few_anew : IfOk result (λ m. FewAnew m.turns m.next)
  pub calls : IfOk result (λ m. IsTrue (tells after) → m.turns < 2 ^ 64 - 1
      → (world after).clock ≤ (world before).clock + (229 * m.turns + 7))
  pub short : IsTrue (tells after) → (world after).clock ≤ (world before).clock + 2 ^ 18
  pub faults : OnlySortShelf (counts before) (counts after) result

-- a step that begins anew makes its diagram, or is refused, where so many turns were made before; a stop costs so many
-- calls at most beyond those for turns that it leaves shown
pub record MakesAnew {S : Type 0} (tells : S → Bool) (world : S → World) (counts : S → Faults) (making : Making)
    (earlier : ℕ) (left_over : Tables → ℕ) (some stop : ℕ) (before after : S)
    (result : Result MadeDiagram SortFault) : Type 0 where
  pub made : IfOk result (λ m. IsTrue (tells after) → (g : Tables) → IsGivenAnew making (world before) g
      → IsMadeWithin making g earlier (left_over g) m (world after))
  pub undamaged : IfErr result (λ e. IsTrue (tells after) → (g : Tables) → IsGivenAnew making (world before) g
      → IsNoDamage e)
  pub spent : IsErrOf result RunsSpent → IsTrue (tells after) → (g : Tables) → IsGivenAnew making (world before) g
      → 2 ^ 35 ≤ work_for making g
  pub few_calls : IsTrue (tells after) → (g : Tables) → IsGivenAnew making (world before) g
      → (world after).clock + 229 * left_over g ≤ (world before).clock + (229 * work_for making g + some)
  pub images : IsTrue (tells after) → (g : Tables) → IsGivenAnew making (world before) g
      → Throughout (world before) (world after)
      (λ (m : Moment). AreSafe (goes_on_by making g) making.number m.folder)
  pub damaged : IfErr result (λ e. IsTrue (tells after) → HasNoGate making.number (world before)
      → IsArcsFault making.operation making.n making.operands (world before) e)
  pub content : Told tells before after
      (Ran (OnlyStep making.number (now (world before))) (world before) (world after))
  -- no file of the step is filled whose part wasn't taken
  pub untaken : IfOk result (λ m. IsTrue (tells after) → NoneFilled making.number m.next (world before) (world after))
  pub counted : IfOk result (λ m. (earlier ≤ m.turns) × IsCounted m.turns m.next)
  pub few_anew : IfOk result (λ m. FewAnew m.turns m.next)
  pub calls : IfOk result (λ m. IsTrue (tells after) → m.turns < 2 ^ 64 - 1
      → (world after).clock + 229 * earlier ≤ (world before).clock + (229 * m.turns + some))
  pub stops : IsTrue (tells after) → (g : Tables) → IsGivenAnew making (world before) g → work_for making g < 2 ^ 61
      → StopsCost making.number 0 ((world before).clock + stop) (world before) (world after)
  pub faults : OnlySortShelf (counts before) (counts after) result

-- of the work of a step that sweeps two turns are left for each node of its operands, and one
abbrev pub left_by_sweeps : Making → Tables → ℕ
left_by_sweeps making g = 2 * nodes_for making g + 1
