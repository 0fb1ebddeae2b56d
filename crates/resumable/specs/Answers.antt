-- When a step that answers goes on from its last gated checkpoint.
use Rattle.std.specs.Prelude.{ℕ, ◌<◌, Bool, List, [], ◌∷◌}
use Rattle.bool_tables.specs.declared.steps.Step.TheVariants.{Same, Leq, Eval}
use Rattle.shelf_model.specs.declared.file_no.FileNo.{FileNo}
use Rattle.file_numbers.specs.Files.{inner_part}
use Rattle.run_tiers.specs.declared.parts.Parts.{Parts}
use Rattle.step_work.specs.Works.{work_for}
use Rattle.sweep_core.specs.declared.checkpoint.Checkpoint.{Checkpoint}
use Rattle.sweep_checkpoint.specs.Going.{GoesOn}
use Rattle.restrict_eval.specs.Same.{Compared, Tables}
use Rattle.restrict_eval.specs.SameResumes.{same_saving}
use Rattle.restrict_eval.specs.Eval.{Evaluated, OneTable}
use Rattle.restrict_eval.specs.EvalResumes.{eval_saving}
use Rattle.product_sweep.specs.LeqSaving.{leq_saving}
use Rattle.top_down_sweep.specs.declared.beginning.OperandFiles.{OperandFiles}
use Rattle.resumable.specs.Diagrams.{arcs_of}

-- no part number was taken of the step
abbrev pub no_parts : ℕ → Parts
no_parts number = record { step = number; next = inner_part }

-- the comparison of two files of diagrams of n variables
abbrev pub comparison_of : ℕ → FileNo → FileNo → ℕ → Compared
comparison_of n left right number = record {
  first = left;
  second = right;
  first_variables = n;
  second_variables = n;
  parts = no_parts number;
}

abbrev pub two_tables : ℕ → List Bool → List Bool → Tables
two_tables n t u = record { n = n; first = t; second = u }

-- the files are compared, and it goes on to whether the tables are the same. The turns that were made, those that
-- remain and the one that ends the sweep are within the step's work
pub record ComparisonGoesOn (n : ℕ) (left right : FileNo) (number : ℕ) (t u : List Bool)
    (r : FileNo → List ℕ) : Type 0 where
  pub turns : ℕ
  pub goes_on : GoesOn same_saving number 0 (comparison_of n left right number) (two_tables n t u) turns r
  pub few : turns < work_for n (Same 0 1) (t ∷ u ∷ [])

-- the evaluation of a file of a diagram of n variables at the bits that stand in the text from a byte on
abbrev pub evaluation_of : ℕ → FileNo → List ℕ → ℕ → ℕ → Evaluated
evaluation_of n file text at number = record {
  file = file;
  variables = n;
  text = text;
  at = at;
  parts = no_parts number;
}

abbrev pub one_table : ℕ → List Bool → OneTable
one_table n t = record { n = n; table = t }

-- the file is evaluated, and it goes on to the table's value at the bits
pub record EvaluationGoesOn (n : ℕ) (file : FileNo) (text : List ℕ) (at number : ℕ) (t : List Bool)
    (r : FileNo → List ℕ) : Type 0 where
  pub turns : ℕ
  pub goes_on : GoesOn eval_saving number 0 (evaluation_of n file text at number) (one_table n t) turns r
  pub few : turns < work_for n (Eval 0 at) (t ∷ [])

-- two files as the operands of an operator
abbrev pub two_files : FileNo → FileNo → OperandFiles
two_files left right = record { first = left; second = right; third = right }

-- the arcs of "left and not right" are made of the files, and it goes on to whether the left table implies the right
-- one
pub record ImplicationGoesOn (n : ℕ) (left right : FileNo) (number : ℕ) (t u : List Bool)
    (r : FileNo → List ℕ) : Type 0 where
  pub turns : ℕ
  pub goes_on : GoesOn leq_saving number 0 (arcs_of n (two_files left right) number)
      (record { n = n; left = t; right = u }) turns r
  pub few : turns < work_for n (Leq 0 1) (t ∷ u ∷ [])

-- what checkpoints of these steps rest on
abbrev pub comparison_rests : Checkpoint → FileNo → ℕ → Type 0
comparison_rests = same_saving.rests

abbrev pub evaluation_rests : Checkpoint → FileNo → ℕ → Type 0
evaluation_rests = eval_saving.rests

abbrev pub implication_rests : Checkpoint → FileNo → ℕ → Type 0
implication_rests = leq_saving.rests
