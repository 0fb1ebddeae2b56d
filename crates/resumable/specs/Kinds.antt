-- When a step of a plan goes on from its last gated checkpoint, by the kind of the step. A reading gives the bytes of
-- each file.
use Rattle.std.specs.Prelude.{ℕ, List}
use Rattle.bool_tables.specs.declared.steps.Planned.{Planned}
use Rattle.bool_tables.specs.declared.steps.Step.{Step}
use Rattle.bool_tables.specs.declared.steps.Step.TheVariants.{Const, Var, Pair, Ite, Quantify, Restrict, Drop}
use Rattle.bool_tables.specs.declared.steps.Step.TheVariants.{Same, Leq, Eval, Size}
use Rattle.shelf_model.specs.declared.file_no.FileNo.{FileNo}
use Rattle.file_numbers.specs.Files.{node_file}
use Rattle.sweep_core.specs.declared.checkpoint.Checkpoint.{Checkpoint}
use Rattle.step_work.specs.Plans.{table_at}
use Rattle.table_work.specs.Given.{Tables}
use Rattle.top_down_sweep.specs.declared.beginning.OperandFiles.{OperandFiles}
use Rattle.sweep_operations.specs.declared.steps.StepOperation.TheVariants as operations
use Rattle.resumable.specs.Diagrams.{DiagramGoesOn, diagram_rests}
use Rattle.resumable.specs.Answers.{ComparisonGoesOn, EvaluationGoesOn, ImplicationGoesOn}
use Rattle.resumable.specs.Answers.{comparison_rests, evaluation_rests, implication_rests}

-- the node files of three steps, and their tables
abbrev pub files_of : ℕ → ℕ → ℕ → OperandFiles
files_of a b c = record { first = node_file a; second = node_file b; third = node_file c }

abbrev pub tables_of : ℕ → List Planned → ℕ → ℕ → ℕ → Tables
tables_of n steps a b c = record { first = table_at n steps a; second = table_at n steps b; third = table_at n steps c }

-- step j of the plan, which is this one, goes on from its last gated checkpoint. A step that takes one turn has none
abbrev pub StepGoesOn : ℕ → List ℕ → List Planned → ℕ → Step → (FileNo → List ℕ) → Type 0
StepGoesOn n text steps j (Const value) r = ⊥
StepGoesOn n text steps j (Var level) r = ⊥
StepGoesOn n text steps j (Pair op left right) r = DiagramGoesOn (operations.Operator op) n
    (files_of left right right) j (tables_of n steps left right right) r
StepGoesOn n text steps j (Ite test if_one if_zero) r = DiagramGoesOn operations.Choice n
    (files_of test if_one if_zero) j (tables_of n steps test if_one if_zero) r
StepGoesOn n text steps j (Quantify kind operand level) r = DiagramGoesOn (operations.Quantifier kind level) n
    (files_of operand operand operand) j (tables_of n steps operand operand operand) r
StepGoesOn n text steps j (Restrict operand level value) r = DiagramGoesOn (operations.Restriction level value) n
    (files_of operand operand operand) j (tables_of n steps operand operand operand) r
StepGoesOn n text steps j (Drop gone) r = ⊥
StepGoesOn n text steps j (Same left right) r = ComparisonGoesOn n (node_file left) (node_file right) j
    (table_at n steps left) (table_at n steps right) r
StepGoesOn n text steps j (Leq left right) r = ImplicationGoesOn n (node_file left) (node_file right) j
    (table_at n steps left) (table_at n steps right) r
StepGoesOn n text steps j (Eval operand at) r = EvaluationGoesOn n (node_file operand) text at j
    (table_at n steps operand) r
StepGoesOn n text steps j (Size operand) r = ⊥

-- a checkpoint of the step rests on so many first bytes of the file
abbrev pub RestsOn : Step → Checkpoint → FileNo → ℕ → Type 0
RestsOn (Const value) c f many = ⊥
RestsOn (Var level) c f many = ⊥
RestsOn (Pair op left right) c f many = diagram_rests c f many
RestsOn (Ite test if_one if_zero) c f many = diagram_rests c f many
RestsOn (Quantify kind operand level) c f many = diagram_rests c f many
RestsOn (Restrict operand level value) c f many = diagram_rests c f many
RestsOn (Drop gone) c f many = ⊥
RestsOn (Same left right) c f many = comparison_rests c f many
RestsOn (Leq left right) c f many = implication_rests c f many
RestsOn (Eval operand at) c f many = evaluation_rests c f many
RestsOn (Size operand) c f many = ⊥
