-- The sweep that makes a step's table, and what its starts leave.
use Rattle.std.specs.Prelude.{◌≡◌, ◌≤◌, ℕ, ◌+◌, ◌*◌, Bool, IsTrue, Result, IfOk, IfErr}
use Rattle.shelf_model.specs.declared.file_no.FileNo.{FileNo}
use Rattle.shelf_model.specs.declared.sort_fault.SortFault.{SortFault}
use Rattle.shelf_model.specs.Faults.{Faults}
use Rattle.shelf_model.specs.World.{World}
use Rattle.run_tiers.specs.declared.parts.Parts.{Parts}
use Rattle.step_work.specs.Works.{work_for}
use Rattle.sweep_core.specs.Accounts.{CanBeTaken}
use Rattle.sweep_core.specs.Sweeps.{IsNoDamage}
use Rattle.top_down.specs.declared.tuple.Tuple.{Tuple}
use Rattle.top_down.specs.Rules.{Rule}
use Rattle.top_down_sweep.specs.declared.beginning.OperandFiles.{OperandFiles}
use Rattle.sweep_operations.specs.declared.steps.StepOperation.{StepOperation}
use Rattle.top_down_sweep.specs.declared.sweep.TopDownSweep.{TopDownSweep}
use Rattle.top_down_sweep.specs.Beginning.{after_two, files_from, Begun, Starts}
use Rattle.sweep_operations.specs.Operations.{step_of}
use Rattle.top_down_sweep.specs.Sweeps.{variables_of}
use Rattle.table_work.specs.declared.sweep.TableSweep.{TableSweep}
use Rattle.table_work.specs.Given.{Tables, used_by, AreGiven}
use Rattle.table_work.specs.Jobs.{TableWork, work_of_step, MakesWithin, turns_of, arcs_turns}

-- the sweep from the root down that it is
abbrev pub sweep_of : {O : Type 0} → TableSweep O → TopDownSweep O
sweep_of s = s.sweep

-- the files of three operands
abbrev pub operand_files : FileNo → FileNo → FileNo → OperandFiles
operand_files f g h = record { first = f; second = g; third = h }

-- the operation's step on these tables
abbrev pub work_of : StepOperation → ℕ → Tables → TableWork
work_of operation n g = work_of_step n (step_of operation) (used_by operation g)

-- the operands' files are the canonical ones of these tables, and none of a part from the third on of that step
pub record AreGivenTo (step : ℕ) (operation : StepOperation) (n : ℕ) (operands : OperandFiles) (world : World)
    (g : Tables) : Type 0 where
  pub files : AreGiven operation n operands world g
  pub first_stays : ¬ CanBeTaken step 3 operands.first
  pub second_stays : ¬ CanBeTaken step 3 operands.second
  pub third_stays : ¬ CanBeTaken step 3 operands.third

-- the operation's table is still to be made, in few turns: no more than half of its step's work
pub record MakesSoon {O : Type 0} (rule : O → Rule) (begins : O → Tuple → Tuple) (operation : StepOperation) (n : ℕ)
    (g : Tables) (s : TableSweep O) (world : World) : Type 0 where
  pub makes : MakesWithin rule begins (sweep_of s) world (work_of operation n g)
  pub few : turns_of (sweep_of s) world (work_of operation n g) ≤ arcs_turns n (step_of operation) (used_by operation g)
  pub half : 2 * turns_of (sweep_of s) world (work_of operation n g)
      ≤ work_for n (step_of operation) (used_by operation g)

-- the sweep reads the operands, makes the next two parts of its step and takes those behind them, and at most eight
-- calls were made, also where it is refused; of canonical files the operation's table is still to be made, and none of
-- them is damaged
pub record StartsTable {S O : Type 0} (rule : O → Rule) (begins : O → Tuple → Tuple) (tells : S → Bool)
    (world : S → World) (counts : S → Faults) (operation : StepOperation) (n : ℕ) (operands : OperandFiles)
    (parts : Parts) (before after : S) (result : Result (TableSweep O) SortFault) : Type 0 where
  pub begun : IfOk result (λ s. Begun rule begins tells world (files_from operands parts) (after_two parts) before after
      (sweep_of s))
  pub variables : IfOk result (λ s. variables_of (sweep_of s) ≡ n)
  pub leaves : Starts tells world counts n (files_from operands parts) parts before after result
  pub few_calls : IsTrue (tells after) → (world after).clock ≤ (world before).clock + 8
  pub remains : IfOk result (λ s. IsTrue (tells after) → (g : Tables)
      → AreGivenTo parts.step operation n operands (world before) g
      → MakesSoon rule begins operation n g s (world after))
  pub undamaged : IfErr result (λ e. IsTrue (tells after) → (g : Tables)
      → AreGivenTo parts.step operation n operands (world before) g → IsNoDamage e)
