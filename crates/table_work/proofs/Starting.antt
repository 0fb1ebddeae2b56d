-- What is still to be made after a start.
use Rattle.std.proofs.Common.{◌≡◌, ℕ, ◌+◌, ◌*◌, ◌≤◌, Bool, IsTrue, sym, subst}
use Rattle.std.specs.Prelude.{Result, Ok, Err, IsErrAnd, length}
use Rattle.shelf_model.specs.declared.sort_fault.SortFault.{SortFault}
use Rattle.shelf_model.specs.Faults.{Faults}
use Rattle.shelf_model.specs.World.{World}
use Rattle.run_tiers.specs.declared.parts.Parts.{Parts}
use Rattle.sweep_core.specs.Sweeps.{IsNoDamage}
use Rattle.top_down.specs.declared.tuple.Tuple.{Tuple}
use Rattle.top_down.specs.Rules.{Rule}
use Rattle.top_down_sweep.specs.declared.beginning.OperandFiles.{OperandFiles}
use Rattle.sweep_operations.specs.declared.steps.StepOperation.{StepOperation}
use Rattle.top_down_sweep.specs.declared.sweep.TopDownSweep.{TopDownSweep}
use Rattle.top_down_sweep.specs.Beginning.{files_from, Starts}
use Rattle.top_down_sweep.specs.Meaning.{Task, IsTaskOn, Remains}
use Rattle.sweep_operations.specs.Operations.{rule_of, begins_of, step_of, IsWithin}
use Rattle.top_down_sweep.specs.Turns.{Work, nodes_of, left_of}
use Rattle.top_down_sweep.proofs.Makings.{apart_from, starts_err}
use Rattle.table_work.specs.declared.sweep.TableSweep.{TableSweep}
use Rattle.table_work.specs.Given.{Tables, used_by}
use Rattle.table_work.specs.Tables.{AreGivenTo, MakesSoon, StartsTable}
use Rattle.table_work.specs.Works.{IsWorkOn, GivenIsWork}
use Rattle.table_work.proofs.Workings.{makes_within, few_left, half_of_work}

module _ {O : Type 0} (rule : O → Rule) (begins : O → Tuple → Tuple) (operation : O) (step : StepOperation) (n : ℕ)
    (operands : OperandFiles) (parts : Parts) (law : GivenIsWork) (same_rule : rule operation ≡ rule_of step)
    (same_begins : begins operation ≡ begins_of step) (within : IsWithin n step) (past : 3 ≤ parts.next) where
  -- an operation that is a step's is the task of that step's table
  pub is_work : (world : World) (g : Tables) → AreGivenTo parts.step step n operands world g
      → IsWorkOn (rule operation) (begins operation) n (files_from operands parts) parts.step world (step_of step)
      (used_by step g)
  is_work world g given =
      let is = law step n (files_from operands parts) parts.step world g given.files within
      (apart_from operands parts past given.first_stays given.second_stays given.third_stays) in
      subst (λ v. v) (λ i. IsWorkOn (sym same_rule i) (sym same_begins i) n (files_from operands parts) parts.step world
      (step_of step) (used_by step g)) is

  -- so its table remains to be made where it began, in few turns
  pub makes_soon : (s : TableSweep O) (old new : World)
      → ((t : Task) → IsTaskOn t (rule operation) (begins operation) n (files_from operands parts) parts.step old
      → Remains rule begins s.sweep new t)
      → ((w : Work) → IsTaskOn w.task (rule operation) (begins operation) n (files_from operands parts) parts.step
      old → left_of s.sweep new w ≡ 6 * length w.tuples + nodes_of w.task.diagrams + 5)
      → (g : Tables) → AreGivenTo parts.step step n operands old g → MakesSoon rule begins step n g s new
  makes_soon s old new remains left g given =
      let is = is_work old g given in
      let few = few_left rule begins operation s.sweep n parts.step (files_from operands parts) (step_of step)
      (used_by step g) old new left is in
      record {
        makes = makes_within rule begins operation s.sweep n parts.step (files_from operands parts) (step_of step)
            (used_by step g) old new remains is;
        few = few;
        half = half_of_work n (step_of step) (used_by step g) _ few;
      }

  -- and no operand is damaged
  pub no_damage : (world : World) (e : SortFault)
      → ((t : Task) → IsTaskOn t (rule operation) (begins operation) n (files_from operands parts) parts.step world
      → IsNoDamage e) → (g : Tables) → AreGivenTo parts.step step n operands world g → IsNoDamage e
  no_damage world e none g given =
      let is = is_work world g given in
      none is.work.task is.on_files

-- a start that is refused, whose fault is handed on
pub start_refused : {S O : Type 0} (rule : O → Rule) (begins : O → Tuple → Tuple) (tells : S → Bool) (world : S → World) (counts : S → Faults)
    (step : StepOperation) (n : ℕ) (operands : OperandFiles) (parts : Parts) (before after : S) (e : SortFault)
    (r : Result (TableSweep O) SortFault) → IsErrAnd r (λ x. x ≡ e)
    → Starts {T = TopDownSweep O} tells world counts n (files_from operands parts) parts before after (Err e)
    → (IsTrue (tells after) → (world after).clock ≤ (world before).clock + 8)
    → (IsTrue (tells after) → (g : Tables) → AreGivenTo parts.step step n operands (world before) g → IsNoDamage e)
    → StartsTable rule begins tells world counts step n operands parts before after r
start_refused rule begins tells world counts step n operands parts before after e (Ok s) is starts few none = absurd is
start_refused {S} {O} rule begins tells world counts step n operands parts before after e (Err x) is starts few none = record {
  begun = tt;
  variables = tt;
  leaves = starts_err tells world counts n (files_from operands parts) parts before after e (Err x) is starts;
  few_calls = few;
  remains = tt;
  undamaged = subst (λ (f : SortFault). IsTrue (tells after) → (g : Tables)
      → AreGivenTo parts.step step n operands (world before) g → IsNoDamage f) (sym is) none;
}
