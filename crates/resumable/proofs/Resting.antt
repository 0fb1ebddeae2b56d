-- In which files that lies on which a checkpoint of a step rests: those of the step, and those of its operands.
use Rattle.std.specs.Prelude.{◌≡◌, ◌≢◌, ◌⊎◌, ℕ, ◌<◌, Bool, List}
use Rattle.std.proofs.Common.{ap, subst, ◌∙◌, inl, inr, arith}
use Rattle.std.proofs.lemmas.List.Elements.{All-get_or}
use Rattle.shelf_model.specs.declared.file_no.FileNo.{FileNo}
use Rattle.canon_file.specs.Canon.{canon_bytes}
use Rattle.file_numbers.specs.Files.{nodes_part, node_file}
use Rattle.run_tiers.specs.declared.run.Run.{Run}
use Rattle.run_tiers.specs.Tables.{IsInUse, IsSlot}
use Rattle.saved_words.specs.declared.carried.Carried.{Ghosts}
use Rattle.step_going.specs.Standing.{IsLastOf}
use Rattle.sweep_core.specs.declared.checkpoint.Checkpoint.{Checkpoint}
use Rattle.sweep_checkpoint.specs.Going.{GoesOn}
use Rattle.copy_sweep.specs.declared.copy.CopyTask.{CopyTask}
use Rattle.copy_sweep.specs.Resumes.{copy_saving, one_copy}
use Rattle.copy_sweep.specs.Resumes as copies
use Rattle.top_down_sweep.specs.declared.beginning.OperandFiles.{OperandFiles}
use Rattle.tuple_asks.specs.declared.files.Files.{Files}
use Rattle.sweep_operations.specs.declared.steps.StepOperation.{StepOperation}
use Rattle.top_down_sweep.specs.ResumeLaws.{one_machine}
use Rattle.top_down_sweep.specs.Resumes as top_down
use Rattle.tuple_asks.specs.Resuming.{saved_files}
use Rattle.tuple_asks.specs.SavedRules.{table_in, IsOfRuns}
use Rattle.top_down_sweep.specs.Resumes.{HasQueue, Fits}
use Rattle.top_down_sweep.specs.Resumes.{OnOperand, OnInner, OnEnds, OnRun}
use Rattle.top_down_sweep.specs.Sweeps.{SweepTask}
use Rattle.tuple_asks.specs.Operands.{IsRead}
use Rattle.table_work.specs.Given.{Tables}
use Rattle.table_work.specs.Jobs.{TableWork}
use Rattle.product_sweep.specs.LeqSaving.{product_words}
use Rattle.reduce_sweep.specs.ResumeLaws.{one_reduction}
use Rattle.reduce_sweep.specs.Remaining.{Diagram}
use Rattle.reduce_sweep.specs.Resumes.{reduce_saving}
use Rattle.reduce_sweep.specs.Resumes as reductions
use Rattle.reduce_sweep.specs.Sweeps as reduce
use Rattle.restrict_eval.specs.Eval.{Evaluated}
use Rattle.restrict_eval.specs.EvalResumes.{one_evaluation}
use Rattle.restrict_eval.specs.EvalResumes as evaluations
use Rattle.restrict_eval.specs.Same.{Compared}
use Rattle.restrict_eval.specs.SameResumes.{one_comparison}
use Rattle.restrict_eval.specs.SameResumes as comparisons
use Rattle.resumable.specs.Answers.{comparison_of, evaluation_of, two_files}
use Rattle.resumable.specs.Answers.{ComparisonGoesOn, EvaluationGoesOn, ImplicationGoesOn}
use Rattle.resumable.specs.Answers.{comparison_rests, evaluation_rests, implication_rests}
use Rattle.resumable.specs.Diagrams.{made_by, step_words, arcs_saving, arcs_of, copy_of, DiagramGoesOn, diagram_rests}
use Rattle.resumable.specs.Points.{CopiesFrom, DiagramFrom}
use Rattle.resumable.proofs.AnswerPoints.{compares_from, evaluates_from, refutes_from}
use Rattle.resumable.proofs.DiagramPoints.{diagram_from}
use Rattle.resumable.proofs.Rests.{copy_rests, arcs_rests, reduction_rests}

-- the file is one of three operands'
abbrev pub IsOneOf : OperandFiles → FileNo → Type 0
IsOneOf operands f = (f ≡ operands.first) ⊎ ((f ≡ operands.second) ⊎ (f ≡ operands.third))

-- or one of the step
abbrev pub IsNear : ℕ → OperandFiles → FileNo → Type 0
IsNear number operands f = (f.step ≡ number) ⊎ IsOneOf operands f

-- a copy rests on the file that is read, and on the one that is made
copy_near : (c : Checkpoint) (f : FileNo) (n : ℕ) (task : CopyTask) → copies.Names c task → copies.RestsOn c f n
    → (f ≡ task.from) ⊎ (f ≡ task.to)
copy_near c f n task names on =
    let one = one_copy c on.saved names.saved on.holds names.holds in
    let same : on.saved.task ≡ task = (λ i. (one i).task) ∙ names.task_is in
    elim on.rests [
      | inl read ↦ inl (read ∙ ap (λ (t : CopyTask). t.from) same)
      | inr made ↦ inr (made.0 ∙ ap (λ (t : CopyTask). t.to) same)
    ]

-- a sweep that makes arcs rests on its operands, on those arcs and on the runs of its queue
arcs_near : {O : Type 0} (o : Ghosts O) (n : ℕ) (operands : OperandFiles) (number : ℕ) (c : Checkpoint) (f : FileNo)
    (many : ℕ) → c.step ≡ number → top_down.Names o c (arcs_of n operands number) → top_down.RestsOn o c f many
    → IsNear number operands f
arcs_near o n operands number c f many step_is names on =
    let one = one_machine o c on.saved names.saved on.operation names.operation on.holds names.holds in
    let files : saved_files on.saved ≡ (arcs_of n operands number).files =
    (λ i. saved_files (one i)) ∙ names.files_are in
    let step : FileNo → ℕ = λ g. g.step in
    elim on.rests [
      | OnOperand read ↦ inr (subst (λ (x : Files). IsRead x f) files read)
      | OnInner is upto ↦ inl (ap step (is ∙ (λ i. (files i).inner)))
      | OnEnds is upto ↦ inl (ap step (is ∙ (λ i. (files i).ends)))
      | OnRun (slot, r, within, is, (used, file_is, upto)) ↦ inl (ap step file_is ∙ step_is)
    ]

-- a reduction on the files of its arcs, on its nodes and on its runs
reduction_near : (n number : ℕ) (task : reduce.Task) (c : Checkpoint) (f : FileNo) (many : ℕ) → c.step ≡ number
    → task.inner.step ≡ number → task.ends.step ≡ number → reductions.Names c task
    → reductions.Makes c (node_file number) n → reductions.RestsOn c f many → f.step ≡ number
reduction_near n number task c f many step_is inner_own ends_own names makes on =
    let one = one_reduction c on.saved names.saved on.holds names.holds in
    let made = one_reduction c on.saved makes.saved on.holds makes.holds in
    let inner : on.saved.arcs.inner ≡ task.inner = (λ i. (one i).arcs.inner) ∙ names.inner_is in
    let ends : on.saved.arcs.ends ≡ task.ends = (λ i. (one i).arcs.ends) ∙ names.ends_are in
    let out : on.saved.out ≡ node_file number = (λ i. (made i).out) ∙ makes.out_is in
    let step : FileNo → ℕ = λ g. g.step in
    elim on.rests [
      | inl (inl arcs) ↦ ap step (arcs.0 ∙ inner) ∙ inner_own
      | inl (inr arcs) ↦ ap step (arcs.0 ∙ ends) ∙ ends_own
      | inr (inl nodes) ↦ ap step (nodes.0 ∙ out)
      | inr (inr (k, below, (slot, r, within, is, (used, file_is, upto)))) ↦ ap step file_is ∙ step_is
    ]

-- a comparison rests on its two files
compared_near : (c : Checkpoint) (f : FileNo) (n : ℕ) (task : Compared) → comparisons.Names c task
    → comparisons.RestsOn c f n → (f ≡ task.first) ⊎ (f ≡ task.second)
compared_near c f n task names on =
    let one = one_comparison c on.saved names.saved on.holds names.holds in
    elim on.read [
      | inl read ↦ inl (read ∙ (λ i. (one i).left.file) ∙ names.first_is)
      | inr read ↦ inr (read ∙ (λ i. (one i).right.file) ∙ names.second_is)
    ]

-- and an evaluation on its one
evaluated_near : (c : Checkpoint) (f : FileNo) (n : ℕ) (task : Evaluated) → evaluations.Names c task
    → evaluations.RestsOn c f n → f ≡ task.file
evaluated_near c f n task names on =
    let one = one_evaluation c on.saved names.saved on.holds names.holds in
    on.read ∙ (λ i. (one i).unread.file) ∙ names.file_is

-- so a step's checkpoint from which it goes on rests on the step's files and on those of its operands alone
module _ (operation : StepOperation) (n : ℕ) (operands : OperandFiles) (number : ℕ) (g : Tables)
    (r : FileNo → List ℕ) (c : Checkpoint) (f : FileNo) (many : ℕ) (on : diagram_rests c f many) where
  copied_near : CopiesFrom operation n operands number g r c → IsNear number operands f
  copied_near from =
      let goes = from.goes in
      let task = copy_of from.from number (canon_bytes n (made_by operation n g)) in
      elim (copy_near c f many task goes.names (copy_rests c f many goes.sweep_is goes.fits on)) [
        | inl read ↦ elim from.operand [
          | inl is ↦ inr (inl (read ∙ is))
          | inr is ↦ inr (inr (inl (read ∙ is)))
        ]
        | inr made ↦ inl (ap (λ (h : FileNo). h.step) made)
      ]

  pub from_near : DiagramFrom operation n operands number g r c → IsNear number operands f
  from_near (inl from) = copied_near from
  from_near (inr (inl from)) = arcs_near step_words n operands number c f many from.goes.last.rules.step_is
      from.goes.names (arcs_rests c f many from.goes.sweep_is from.goes.fits on)
  from_near (inr (inr from)) = inl (reduction_near n number from.task c f many from.goes.last.rules.step_is
      from.inner_own from.ends_own from.goes.names from.makes (reduction_rests c f many from.goes.sweep_is on))

  pub diagram_near : DiagramGoesOn operation n operands number g r → IsLastOf number r c
      → IsNear number operands f
  diagram_near q last = from_near (diagram_from operation n operands number g r c last q)

module _ (n : ℕ) (left right : FileNo) (number : ℕ) (t u : List Bool) (r : FileNo → List ℕ) (c : Checkpoint)
    (last : IsLastOf number r c) (f : FileNo) (many : ℕ) where
  pub comparison_near : ComparisonGoesOn n left right number t u r → comparison_rests c f many
      → (f ≡ left) ⊎ (f ≡ right)
  comparison_near q on =
      let from = compares_from n left right number t u r c last q in
      compared_near c f many (comparison_of n left right number) from.goes.names on

  pub implication_near : ImplicationGoesOn n left right number t u r → implication_rests c f many
      → (f.step ≡ number) ⊎ ((f ≡ left) ⊎ (f ≡ right))
  implication_near q on =
      let from = refutes_from n left right number t u r c last q in
      elim (arcs_near product_words n (two_files left right) number c f many last.rules.step_is from.goes.names on) [
        | inl own ↦ inl own
        | inr (inl is) ↦ inr (inl is)
        | inr (inr (inl is)) ↦ inr (inr is)
        | inr (inr (inr is)) ↦ inr (inr is)
      ]

pub evaluation_near : (n : ℕ) (file : FileNo) (text : List ℕ) (at number : ℕ) (t : List Bool)
    (r : FileNo → List ℕ) (c : Checkpoint) → IsLastOf number r c → (f : FileNo) (many : ℕ)
    → EvaluationGoesOn n file text at number t r → evaluation_rests c f many → f ≡ file
evaluation_near n file text at number t r c last f many q on =
    let from = evaluates_from n file text at number t r c last q in
    evaluated_near c f many (evaluation_of n file text at number) from.goes.names on

-- what the step sees of the checkpoint of one of its sweeps: it rests on what the sweep says
module _ (number turns : ℕ) (r : FileNo → List ℕ) where
  pub copy_sees : (task : CopyTask) (bytes : List ℕ) (goes : GoesOn copy_saving number 0 task bytes turns r)
      (f : FileNo) (many : ℕ) → diagram_rests goes.point f many → copy_saving.rests goes.point f many
  copy_sees task bytes goes f many = copy_rests goes.point f many goes.sweep_is goes.fits

  pub arcs_see : (task : SweepTask) (work : TableWork) (goes : GoesOn arcs_saving number 0 task work turns r)
      (f : FileNo) (many : ℕ) → diagram_rests goes.point f many → arcs_saving.rests goes.point f many
  arcs_see task work goes f many = arcs_rests goes.point f many goes.sweep_is goes.fits

  pub reduction_sees : (task : reduce.Task) (diagram : Diagram)
      (goes : GoesOn reduce_saving number 1 task diagram turns r) (f : FileNo) (many : ℕ)
      → diagram_rests goes.point f many → reduce_saving.rests goes.point f many
  reduction_sees task diagram goes f many = reduction_rests goes.point f many goes.sweep_is

-- a run of a step's queue is none of its nodes
queue_apart : (c : Checkpoint) (f : FileNo) → HasQueue c → IsOfRuns c.step (table_in c 0).runs f → f.part ≢ nodes_part
queue_apart c f queue (k, r, within, is, (used, file_is)) same =
    let lawful : IsSlot r = subst (λ (q : Run). IsInUse q → IsSlot q) is
    (All-get_or (λ (q : Run). IsInUse q → IsSlot q) (table_in c 0).runs k r within queue.are.first.slots) used in
    let from = lawful.past_made in
    let part : f.part ≡ r.part = ap (λ (g : FileNo). g.part) file_is in
    omega (arith, from, part, same)

-- the checkpoints of the sweep that makes a step's arcs of operands of steps before don't rest on the step's nodes
pub arcs_spare_nodes : (n : ℕ) (operands : OperandFiles) (number : ℕ) (c : Checkpoint) → Fits step_words c
    → top_down.Names step_words c (arcs_of n operands number) → operands.first.step < number
    → operands.second.step < number → operands.third.step < number → (f : FileNo) (many : ℕ)
    → arcs_saving.rests c f many → f ≢ node_file number
arcs_spare_nodes n operands number c fits names first second third f many on same =
    let one = one_machine step_words c on.saved names.saved on.operation names.operation on.holds names.holds in
    let files : saved_files on.saved ≡ (arcs_of n operands number).files =
    (λ i. saved_files (one i)) ∙ names.files_are in
    let step_is : f.step ≡ number = ap (λ (g : FileNo). g.step) same in
    let part_is : f.part ≡ 0 = ap (λ (g : FileNo). g.part) same in
    let step : FileNo → ℕ = λ g. g.step in
    let part : FileNo → ℕ = λ g. g.part in
    elim on.rests [
      | OnOperand read ↦ elim (subst (λ (x : Files). IsRead x f) files read) [
        | inl is ↦ let at = ap step is in omega (arith, at, step_is, first)
        | inr (inl is) ↦ let at = ap step is in omega (arith, at, step_is, second)
        | inr (inr is) ↦ let at = ap step is in omega (arith, at, step_is, third)
      ]
      | OnInner is upto ↦ let at : f.part ≡ 3 = ap part (is ∙ (λ i. (files i).inner)) in omega (arith, at, part_is)
      | OnEnds is upto ↦ let at : f.part ≡ 4 = ap part (is ∙ (λ i. (files i).ends)) in omega (arith, at, part_is)
      | OnRun (k, r, within, is, (used, file_is, upto)) ↦
          queue_apart c f fits.queue (k, r, within, is, (used, file_is)) part_is
    ]

pub arcs_see_no_nodes : (n : ℕ) (operands : OperandFiles) (number : ℕ) (work : TableWork) (turns : ℕ)
    (r : FileNo → List ℕ) (goes : GoesOn arcs_saving number 0 (arcs_of n operands number) work turns r)
    → operands.first.step < number → operands.second.step < number → operands.third.step < number
    → (f : FileNo) (many : ℕ) → diagram_rests goes.point f many → f ≢ node_file number
arcs_see_no_nodes n operands number work turns r goes first second third f many on =
    arcs_spare_nodes n operands number goes.point goes.fits goes.names first second third f many
    (arcs_rests goes.point f many goes.sweep_is goes.fits on)
