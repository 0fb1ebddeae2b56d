-- A step of a plan goes on from its last gated checkpoint, by that and by what it rests on alone: files of the step,
-- and those of its operands.
use Rattle.std.specs.Prelude.{◌≡◌, ◌⊎◌, ℕ, List, [], ◌∷◌}
use Rattle.std.specs.List.{Any}
use Rattle.std.proofs.Common.{refl, inl, inr, arith}
use Rattle.bool_tables.specs.declared.steps.Planned.{Planned}
use Rattle.bool_tables.specs.declared.steps.Step.{Step}
use Rattle.bool_tables.specs.declared.steps.Step.TheVariants.{Const, Var, Pair, Ite, Quantify, Restrict, Drop}
use Rattle.bool_tables.specs.declared.steps.Step.TheVariants.{Same, Leq, Eval, Size}
use Rattle.bool_tables.specs.Plans.{operands}
use Rattle.file_numbers.specs.Files.{node_file}
use Rattle.shelf_model.specs.declared.file_no.FileNo.{FileNo}
use Rattle.step_going.specs.Standing.{IsLastOf, IsLocal, IsFromLast}
use Rattle.step_work.specs.Plans.{step_at, table_at}
use Rattle.sweep_core.specs.declared.checkpoint.Checkpoint.{Checkpoint}
use Rattle.table_work.specs.Given.{Tables}
use Rattle.top_down_sweep.specs.declared.beginning.OperandFiles.{OperandFiles}
use Rattle.sweep_operations.specs.declared.steps.StepOperation.{StepOperation}
use Rattle.sweep_operations.specs.declared.steps.StepOperation.TheVariants as operations
use Rattle.resumable.specs.Diagrams.{DiagramGoesOn, diagram_rests}
use Rattle.resumable.specs.Kinds.{files_of, tables_of, StepGoesOn, RestsOn}
use Rattle.resumable.specs.Resumable.{GoesOnAt}
use Rattle.resumable.proofs.AnswerPoints.{comparison_local, comparison_last, evaluation_local, evaluation_last}
use Rattle.resumable.proofs.AnswerPoints.{implication_local, implication_last}
use Rattle.resumable.proofs.DiagramPoints.{diagram_local, diagram_last}
use Rattle.resumable.proofs.Resting.{IsNear, diagram_near, comparison_near, evaluation_near, implication_near}

-- what is said of the checkpoints of a step that goes on so: whether it does depends on the last gated one and on what
-- that rests on alone; and of the files on which that rests no sweep of the step takes one, and all are among these
pub record AreItsPoints (Q : (FileNo → List ℕ) → Type 0) (rests : Checkpoint → FileNo → ℕ → Type 0)
    (files : FileNo → Type 0) (number : ℕ) : Type 0 where
  pub local : IsLocal Q rests number
  pub last : IsFromLast Q rests number
  pub within : (r : FileNo → List ℕ) (c : Checkpoint) → Q r → IsLastOf number r c → (f : FileNo) (n : ℕ)
      → rests c f n → files f

-- no step goes on so
no_points : (rests : Checkpoint → FileNo → ℕ → Type 0) (files : FileNo → Type 0) (number : ℕ)
    → AreItsPoints (λ r. ⊥) rests files number
no_points rests files number = record {
  local = λ c old new is last same q. absurd q;
  last = λ r q. absurd q;
  within = λ r c q. absurd q;
}

diagram_points : (operation : StepOperation) (n : ℕ) (files : OperandFiles) (j : ℕ) (g : Tables)
    (near : FileNo → Type 0) → ((f : FileNo) → IsNear j files f → near f)
    → AreItsPoints (DiagramGoesOn operation n files j g) diagram_rests near j
diagram_points operation n files j g near all = record {
  local = diagram_local operation n files j g;
  last = diagram_last operation n files j g;
  within = λ r c q is f many on. all f (diagram_near operation n files j g r c f many on q is);
}

-- the file is one of the step's, or the node file of one of its operands
abbrev pub IsItsOrOperand : ℕ → Step → FileNo → Type 0
IsItsOrOperand j step f = (f.step ≡ j) ⊎ Any (λ k. f ≡ node_file k) (operands step)

module _ (j : ℕ) (f : FileNo) where
  abbrev IsAmong : List ℕ → Type 0
  IsAmong ks = (f.step ≡ j) ⊎ Any (λ k. f ≡ node_file k) ks

  among_three : (a b c : ℕ) → IsNear j (files_of a b c) f → IsAmong (a ∷ b ∷ c ∷ [])
  among_three a b c (inl own) = inl own
  among_three a b c (inr (inl is)) = inr (0, a, omega arith, refl, is)
  among_three a b c (inr (inr (inl is))) = inr (1, b, omega arith, refl, is)
  among_three a b c (inr (inr (inr is))) = inr (2, c, omega arith, refl, is)

  among_two : (a b : ℕ) → IsNear j (files_of a b b) f → IsAmong (a ∷ b ∷ [])
  among_two a b (inl own) = inl own
  among_two a b (inr (inl is)) = inr (0, a, omega arith, refl, is)
  among_two a b (inr (inr (inl is))) = inr (1, b, omega arith, refl, is)
  among_two a b (inr (inr (inr is))) = inr (1, b, omega arith, refl, is)

  among_one : (a : ℕ) → IsNear j (files_of a a a) f → IsAmong (a ∷ [])
  among_one a (inl own) = inl own
  among_one a (inr (inl is)) = inr (0, a, omega arith, refl, is)
  among_one a (inr (inr (inl is))) = inr (0, a, omega arith, refl, is)
  among_one a (inr (inr (inr is))) = inr (0, a, omega arith, refl, is)

  either_file : (a b : ℕ) → (f ≡ node_file a) ⊎ (f ≡ node_file b) → IsAmong (a ∷ b ∷ [])
  either_file a b (inl is) = inr (0, a, omega arith, refl, is)
  either_file a b (inr is) = inr (1, b, omega arith, refl, is)

  own_or_either : (a b : ℕ) → (f.step ≡ j) ⊎ ((f ≡ node_file a) ⊎ (f ≡ node_file b)) → IsAmong (a ∷ b ∷ [])
  own_or_either a b (inl own) = inl own
  own_or_either a b (inr either) = either_file a b either

module _ (n : ℕ) (text : List ℕ) (steps : List Planned) (j : ℕ) where
  pub step_points : (step : Step)
      → AreItsPoints (StepGoesOn n text steps j step) (RestsOn step) (IsItsOrOperand j step) j
  step_points (Const value) = no_points (RestsOn (Const value)) (IsItsOrOperand j (Const value)) j
  step_points (Var level) = no_points (RestsOn (Var level)) (IsItsOrOperand j (Var level)) j
  step_points (Pair op left right) = diagram_points (operations.Operator op) n (files_of left right right) j
      (tables_of n steps left right right) (IsItsOrOperand j (Pair op left right)) (λ f. among_two j f left right)
  step_points (Ite test if_one if_zero) = diagram_points operations.Choice n (files_of test if_one if_zero) j
      (tables_of n steps test if_one if_zero) (IsItsOrOperand j (Ite test if_one if_zero))
      (λ f. among_three j f test if_one if_zero)
  step_points (Quantify kind operand level) = diagram_points (operations.Quantifier kind level) n
      (files_of operand operand operand) j (tables_of n steps operand operand operand)
      (IsItsOrOperand j (Quantify kind operand level)) (λ f. among_one j f operand)
  step_points (Restrict operand level value) = diagram_points (operations.Restriction level value) n
      (files_of operand operand operand) j (tables_of n steps operand operand operand)
      (IsItsOrOperand j (Restrict operand level value)) (λ f. among_one j f operand)
  step_points (Drop gone) = no_points (RestsOn (Drop gone)) (IsItsOrOperand j (Drop gone)) j
  step_points (Same left right) =
      let t = table_at n steps left in
      let u = table_at n steps right in
      record {
        local = comparison_local n (node_file left) (node_file right) j t u;
        last = comparison_last n (node_file left) (node_file right) j t u;
        within = λ r c q is f many on. either_file j f left right
            (comparison_near n (node_file left) (node_file right) j t u r c is f many q on);
      }
  step_points (Leq left right) =
      let t = table_at n steps left in
      let u = table_at n steps right in
      record {
        local = implication_local n (node_file left) (node_file right) j t u;
        last = implication_last n (node_file left) (node_file right) j t u;
        within = λ r c q is f many on. own_or_either j f left right
            (implication_near n (node_file left) (node_file right) j t u r c is f many q on);
      }
  step_points (Eval operand at) =
      let t = table_at n steps operand in
      record {
        local = evaluation_local n (node_file operand) text at j t;
        last = evaluation_last n (node_file operand) text at j t;
        within = λ r c q is f many on. inr (
          0,
          operand,
          omega arith,
          refl,
          evaluation_near n (node_file operand) text at j t r c is f many q on,
        );
      }
  step_points (Size operand) = no_points (RestsOn (Size operand)) (IsItsOrOperand j (Size operand)) j

  -- so it is with step j of the plan: whether it goes on depends on its last gated checkpoint and on what that rests on
  -- alone
  pub at_local : IsLocal (GoesOnAt n text steps j) (RestsOn (step_at steps j)) j
  at_local = (step_points (step_at steps j)).local

  -- and no sweep of the step takes a file on which that rests
  pub at_last : IsFromLast (GoesOnAt n text steps j) (RestsOn (step_at steps j)) j
  at_last = (step_points (step_at steps j)).last

  -- which are files of the step, and its operands'
  pub at_near : (r : FileNo → List ℕ) (c : Checkpoint) → GoesOnAt n text steps j r → IsLastOf j r c
      → (f : FileNo) (many : ℕ) → RestsOn (step_at steps j) c f many → IsItsOrOperand j (step_at steps j) f
  at_near = (step_points (step_at steps j)).within
