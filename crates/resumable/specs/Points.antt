-- The checkpoint from which a step goes on, as who rebuilds a sweep from it wants to know it. A reading gives the bytes
-- of each file.
use Rattle.std.specs.Prelude.{◌≡◌, ◌⊎◌, ℕ, ◌+◌, ◌*◌, ◌<◌, ◌≤◌, Bool, List, [], ◌∷◌}
use Rattle.bool_tables.specs.declared.steps.Step.TheVariants.{Same, Leq, Eval}
use Rattle.shelf_model.specs.declared.file_no.FileNo.{FileNo}
use Rattle.canon_file.specs.Canon.{canon_bytes}
use Rattle.canon_file.specs.Laws.{HasForm}
use Rattle.file_numbers.specs.Files.{node_file}
use Rattle.step_work.specs.Works.{work_for}
use Rattle.step_going.specs.Standing.{IsLastOf}
use Rattle.sweep_core.specs.declared.checkpoint.Checkpoint.{Checkpoint}
use Rattle.sweep_core.specs.Saving.{Saving}
use Rattle.sweep_checkpoint.specs.Going.{IsPaid}
use Rattle.copy_sweep.specs.Resumes.{copy_saving}
use Rattle.top_down_sweep.specs.declared.beginning.OperandFiles.{OperandFiles}
use Rattle.sweep_operations.specs.declared.steps.StepOperation.{StepOperation}
use Rattle.table_work.specs.Given.{Tables}
use Rattle.table_work.specs.Tables.{work_of}
use Rattle.reduce_sweep.specs.Remaining.{Diagram}
use Rattle.reduce_sweep.specs.Resumes as reductions
use Rattle.reduce_sweep.specs.Resumes.{reduce_saving}
use Rattle.reduce_sweep.specs.Sweeps as reduce
use Rattle.restrict_eval.specs.EvalResumes.{eval_saving}
use Rattle.restrict_eval.specs.SameResumes.{same_saving}
use Rattle.product_sweep.specs.LeqSaving.{leq_saving}
use Rattle.resumable.specs.Diagrams.{made_by, tuples_by, work_by, arcs_saving, arcs_of, copy_of}
use Rattle.resumable.specs.Answers.{comparison_of, two_tables, evaluation_of, one_table, two_files}

module _ {Task Job : Type 0} (saving : Saving Task Job) where
  -- it is the last gated checkpoint of the step, of the kind, and of the step's first or second sweep; few part numbers
  -- were taken for its turns; and with what the files hold it does the job, in no more turns than so many
  pub record IsFrom (number sweep : ℕ) (task : Task) (job : Job) (r : FileNo → List ℕ) (c : Checkpoint)
      : Type 0 where
    pub last : IsLastOf number r c
    pub sweep_is : c.sweep ≡ sweep
    pub paid : IsPaid c
    pub names : saving.names c task
    pub fits : saving.fits c (saving.text task)
    pub left : ℕ
    pub stands : saving.stands c (saving.text task) r job left

module _ (operation : StepOperation) (n : ℕ) (operands : OperandFiles) (number : ℕ) (g : Tables)
    (r : FileNo → List ℕ) (c : Checkpoint) where
  -- from it the copy of an operand goes on, within the step's work
  pub record CopiesFrom : Type 0 where
    pub from : FileNo
    pub operand : (from ≡ operands.first) ⊎ (from ≡ operands.second)
    pub form : HasForm n (made_by operation n g)
    pub goes : IsFrom copy_saving number 0 (copy_of from number (canon_bytes n (made_by operation n g)))
        (canon_bytes n (made_by operation n g)) r c
    pub few : c.turns + goes.left < work_by operation n g

  -- the step's arcs do, and leave the turns of a reduction
  pub record ArcsFrom : Type 0 where
    pub goes : IsFrom arcs_saving number 0 (arcs_of n operands number) (work_of operation n g) r c
    pub few : c.turns + goes.left + (10 * tuples_by operation n g + 10) ≤ work_by operation n g

-- the reduction to the step's node file does
pub record ReducesFrom (n number : ℕ) (table : List Bool) (work : ℕ) (r : FileNo → List ℕ) (c : Checkpoint)
    : Type 0 where
  pub task : reduce.Task
  pub inner_own : task.inner.step ≡ number
  pub ends_own : task.ends.step ≡ number
  pub diagram : Diagram
  pub table_is : diagram.table ≡ table
  pub form : HasForm n table
  pub goes : IsFrom reduce_saving number 1 task diagram r c
  pub makes : reductions.Makes c (node_file number) n
  pub few : c.turns + goes.left < work

-- one of them does
abbrev pub DiagramFrom : StepOperation → ℕ → OperandFiles → ℕ → Tables → (FileNo → List ℕ) → Checkpoint → Type 0
DiagramFrom operation n operands number g r c = CopiesFrom operation n operands number g r c
    ⊎ (ArcsFrom operation n operands number g r c
    ⊎ ReducesFrom n number (made_by operation n g) (work_by operation n g) r c)

-- the comparison of two files does
pub record ComparesFrom (n : ℕ) (left right : FileNo) (number : ℕ) (t u : List Bool) (r : FileNo → List ℕ)
    (c : Checkpoint) : Type 0 where
  pub goes : IsFrom same_saving number 0 (comparison_of n left right number) (two_tables n t u) r c
  pub few : c.turns + goes.left < work_for n (Same 0 1) (t ∷ u ∷ [])

-- the evaluation of a file does
pub record EvaluatesFrom (n : ℕ) (file : FileNo) (text : List ℕ) (at number : ℕ) (t : List Bool)
    (r : FileNo → List ℕ) (c : Checkpoint) : Type 0 where
  pub goes : IsFrom eval_saving number 0 (evaluation_of n file text at number) (one_table n t) r c
  pub few : c.turns + goes.left < work_for n (Eval 0 at) (t ∷ [])

-- the arcs of "left and not right" do
pub record RefutesFrom (n : ℕ) (left right : FileNo) (number : ℕ) (t u : List Bool) (r : FileNo → List ℕ)
    (c : Checkpoint) : Type 0 where
  pub goes : IsFrom leq_saving number 0 (arcs_of n (two_files left right) number)
      (record { n = n; left = t; right = u }) r c
  pub few : c.turns + goes.left < work_for n (Leq 0 1) (t ∷ u ∷ [])
