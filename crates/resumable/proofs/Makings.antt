-- A step goes on where one of its sweeps does, within its work.
use Rattle.std.specs.Prelude.{◌≡◌, ◌⊎◌, ℕ, ◌+◌, ◌*◌, ◌<◌, ◌≤◌, Bool, List, [], ◌∷◌}
use Rattle.std.proofs.Common.{◌∙◌, inl, inr}
use Rattle.bool_tables.specs.declared.steps.Step.TheVariants.{Same, Leq, Eval}
use Rattle.shelf_model.specs.declared.file_no.FileNo.{FileNo}
use Rattle.canon_file.specs.Canon.{canon_bytes}
use Rattle.canon_file.specs.Laws.{HasForm}
use Rattle.file_numbers.specs.Files.{node_file}
use Rattle.step_work.specs.Works.{work_for}
use Rattle.sweep_core.specs.declared.checkpoint.Checkpoint.{Checkpoint}
use Rattle.sweep_checkpoint.specs.Going.{GoesOn}
use Rattle.copy_sweep.specs.Resumes.{copy_saving}
use Rattle.top_down_sweep.specs.declared.beginning.OperandFiles.{OperandFiles}
use Rattle.sweep_operations.specs.declared.steps.StepOperation.{StepOperation}
use Rattle.table_work.specs.Given.{Tables}
use Rattle.table_work.specs.Tables.{work_of}
use Rattle.reduce_sweep.specs.Remaining.{Diagram}
use Rattle.reduce_sweep.specs.Resumes.{reduce_saving}
use Rattle.reduce_sweep.specs.Resumes as reductions
use Rattle.reduce_sweep.specs.Sweeps as reduce
use Rattle.product_sweep.specs.LeqSaving.{leq_saving}
use Rattle.restrict_eval.specs.EvalResumes.{eval_saving}
use Rattle.restrict_eval.specs.SameResumes.{same_saving}
use Rattle.resumable.specs.Answers.{comparison_of, two_tables, evaluation_of, one_table, two_files}
use Rattle.resumable.specs.Answers.{ComparisonGoesOn, EvaluationGoesOn, ImplicationGoesOn}
use Rattle.resumable.specs.Diagrams.{made_by, tuples_by, work_by, arcs_saving, arcs_of, copy_of, DiagramGoesOn}

-- a reduction whose task names the file and the variables makes that diagram
pub names_makes : (c : Checkpoint) (task : reduce.Task) (out : FileNo) (n : ℕ) → reductions.Names c task
    → task.out ≡ out → task.variables ≡ n → reductions.Makes c out n
names_makes c task out n names out_is variables_are = record {
  saved = names.saved;
  holds = names.holds;
  out_is = names.out_is ∙ out_is;
  variables_are = names.variables_are ∙ variables_are;
}

module _ (operation : StepOperation) (n : ℕ) (operands : OperandFiles) (number : ℕ) (g : Tables) (turns : ℕ)
    (r : FileNo → List ℕ) where
  -- the copy of an operand whose bytes are those of the step's table
  pub copy_goes : (from : FileNo) → (from ≡ operands.first) ⊎ (from ≡ operands.second)
      → HasForm n (made_by operation n g) → GoesOn copy_saving number 0 (copy_of from number (canon_bytes n (made_by operation n g)))
      (canon_bytes n (made_by operation n g)) turns r → turns < work_by operation n g
      → DiagramGoesOn operation n operands number g r
  copy_goes from operand form goes few = inl (record {
    from = from;
    operand = operand;
    form = form;
    turns = turns;
    goes_on = goes;
    few = few;
  })

  -- the sweep that makes its arcs, where the turns of a reduction are left
  pub arcs_go : GoesOn arcs_saving number 0 (arcs_of n operands number) (work_of operation n g) turns r
      → turns + (10 * tuples_by operation n g + 10) ≤ work_by operation n g
      → DiagramGoesOn operation n operands number g r
  arcs_go goes few = inr (inl (record { turns = turns; goes_on = goes; few = few }))

  -- the reduction of its arcs to its node file
  pub reduction_goes : (task : reduce.Task) (diagram : Diagram) → task.out ≡ node_file number → task.variables ≡ n
      → task.inner.step ≡ number → task.ends.step ≡ number → diagram.table ≡ made_by operation n g
      → HasForm n (made_by operation n g) → GoesOn reduce_saving number 1 task diagram turns r → turns < work_by operation n g
      → DiagramGoesOn operation n operands number g r
  reduction_goes task diagram out_is variables_are inner_own ends_own table_is form goes few = inr (inr (record {
    task = task;
    inner_own = inner_own;
    ends_own = ends_own;
    diagram = diagram;
    table_is = table_is;
    form = form;
    turns = turns;
    goes_on = goes;
    makes = names_makes goes.point task (node_file number) n goes.names out_is variables_are;
    few = few;
  }))

module _ (n : ℕ) (left right : FileNo) (number : ℕ) (t u : List Bool) (turns : ℕ) (r : FileNo → List ℕ) where
  -- the comparison of two files
  pub comparison_goes : GoesOn same_saving number 0 (comparison_of n left right number) (two_tables n t u) turns
      r → turns < work_for n (Same 0 1) (t ∷ u ∷ []) → ComparisonGoesOn n left right number t u r
  comparison_goes goes few = record { turns = turns; goes_on = goes; few = few }

  -- the sweep that makes the arcs of "left and not right"
  pub implication_goes : GoesOn leq_saving number 0 (arcs_of n (two_files left right) number)
      (record { n = n; left = t; right = u }) turns r → turns < work_for n (Leq 0 1) (t ∷ u ∷ [])
      → ImplicationGoesOn n left right number t u r
  implication_goes goes few = record { turns = turns; goes_on = goes; few = few }

-- the evaluation of a file
pub evaluation_goes : (n : ℕ) (file : FileNo) (text : List ℕ) (at number : ℕ) (t : List Bool) (turns : ℕ)
    (r : FileNo → List ℕ)
    → GoesOn eval_saving number 0 (evaluation_of n file text at number) (one_table n t) turns r
    → turns < work_for n (Eval 0 at) (t ∷ []) → EvaluationGoesOn n file text at number t r
evaluation_goes n file text at number t turns r goes few = record { turns = turns; goes_on = goes; few = few }
