-- Of each file on which the checkpoint rests from which a step goes on, so many bytes are there as it rests on, or it
-- rests on all of it.
use Rattle.std.specs.Prelude.{◌≡◌, ◌⊎◌, ℕ, zero, suc, ◌+◌, ◌*◌, ◌-◌, ◌<◌, ◌≤◌, Bool, List, [], length, take, get_or}
use Rattle.std.specs.Prelude.{Option, Some, None}
use Rattle.std.specs.declared.cmp.Ordering.{Ordering}
use Rattle.std.proofs.Common.{refl, sym, ap, subst, ◌∙◌, inl, inr, arith}
use Rattle.std.proofs.lemmas.List.{length-take, length-append, length-map, get_or-map, get_or_default}
use Rattle.std.proofs.lemmas.List.Elements.{All-get_or}
use Rattle.shelf_model.specs.declared.file_no.FileNo.{FileNo}
use Rattle.canon_file.specs.Canon.{canon_nodes, canon_root, canon_bytes, node_bytes, trailer_bytes}
use Rattle.canon_file.proofs.ByteLaws.{length-node_bytes}
use Rattle.canon_file.proofs.CanonLaws.{canon_bytes-is}
use Rattle.run_files.specs.declared.head.Head.{Head}
use Rattle.run_files.specs.Heads.{IsRun, bytes_of, no_head}
use Rattle.run_tiers.specs.declared.run.Run.{Run}
use Rattle.run_tiers.specs.declared.run.RunTable.{RunTable}
use Rattle.run_tiers.specs.Tables.{no_run, head_of, heads_of, IsInUse, IsEmptyTable}
use Rattle.run_tiers.proofs.TableLaws.{anew, head_used}
use Rattle.run_merge.specs.Tables.{IsBeforeEnd, BeginsAs, TableShows}
use Rattle.level_queue.specs.Tables.{table_at}
use Rattle.saved_words.specs.declared.carried.Carried.{Ghosts}
use Rattle.sweep_core.specs.declared.checkpoint.Checkpoint.{Checkpoint}
use Rattle.sweep_core.specs.Saving.{Saving}
use Rattle.sweep_checkpoint.specs.Going.{GoesOn}
use Rattle.step_going.specs.Standing.{IsLastOf}
use Rattle.copy_sweep.specs.Resumes.{copy_saving, pieces_of, one_copy}
use Rattle.copy_sweep.specs.Resumes as copies
use Rattle.tuple_asks.specs.declared.ask.Ask.{Ask}
use Rattle.tuple_asks.specs.declared.place.Asking.{Asking}
use Rattle.top_down_sweep.specs.Meaning.{Task}
use Rattle.top_down_sweep.specs.Resumes as machines
use Rattle.top_down_sweep.specs.Resumes.{OnOperand, OnInner, OnEnds, OnRun, queue_tables, Shows, GoesOnAt, top_saving}
use Rattle.top_down_sweep.specs.ResumeLaws.{one_machine}
use Rattle.sweep_operations.specs.Operations.{rule_of, begins_of}
use Rattle.top_down_sweep.specs.declared.beginning.OperandFiles.{OperandFiles}
use Rattle.sweep_operations.specs.declared.steps.StepOperation.{StepOperation}
use Rattle.table_work.specs.TableSaving.{table_saving}
use Rattle.table_work.specs.Given.{Tables}
use Rattle.table_work.specs.Tables.{work_of}
use Rattle.reduce_sweep.specs.declared.phase.Phase.{Phase}
use Rattle.reduce_sweep.specs.declared.phase.Phase.TheVariants.{Between, Collect, Number, Forward, Ended}
use Rattle.reduce_sweep.specs.Remaining.{Diagram}
use Rattle.reduce_sweep.specs.SavedTables.{tables_of, AreSavedTables}
use Rattle.reduce_sweep.specs.Resumes as reductions
use Rattle.reduce_sweep.specs.Resumes.{IsKeptAt, IsKeptAtEnd, HasEnded, StandsAt, reduce_saving}
use Rattle.reduce_sweep.specs.ResumeLaws.{one_reduction, fits_at}
use Rattle.restrict_eval.specs.SameResumes.{same_saving}
use Rattle.restrict_eval.specs.EvalResumes.{eval_saving}
use Rattle.product_sweep.specs.Implications.{Implication, refutation}
use Rattle.product_sweep.specs.LeqSaving.{leq_saving, product_words}
use Rattle.product_sweep.specs.Products as products
use Rattle.resumable.proofs.OnePoint.{one_last}
use Rattle.resumable.specs.Diagrams.{made_by, arcs_saving, step_words, arcs_of, copy_of, DiagramGoesOn, diagram_rests}
use Rattle.resumable.specs.Answers.{comparison_of, two_tables, ComparisonGoesOn, comparison_rests}
use Rattle.resumable.specs.Answers.{evaluation_of, one_table, EvaluationGoesOn, evaluation_rests}
use Rattle.resumable.specs.Answers.{two_files, ImplicationGoesOn, implication_rests}

-- of each file on which it rests so many bytes are there as it rests on, or it rests on all of it
abbrev pub AreThere : (FileNo → ℕ → Type 0) → (FileNo → List ℕ) → Type 0
AreThere rests r = (f : FileNo) (m : ℕ) → rests f m → (m ≤ length (r f)) ⊎ ((k : ℕ) → rests f k)

-- so it is of each checkpoint of the kind that stands
abbrev pub AllThere : {Task Job : Type 0} → Saving Task Job → Type 0
AllThere {Task} {Job} saving = (c : Checkpoint) (text : List ℕ) (r : FileNo → List ℕ) (job : Job) (turns : ℕ)
    → saving.fits c text → saving.stands c text r job turns → AreThere (saving.rests c) r

-- so many first bytes are all there where they are as many
enough : (n : ℕ) (bytes front : List ℕ) → take n bytes ≡ front → n ≤ length front → n ≤ length bytes
enough n bytes front is more =
    let many = length-take n bytes in
    let same : length (take n bytes) ≡ length front = ap length is in
    omega (arith, many, same, more)

-- where a table shows what it stands for, its runs are there up to where they end
module _ {T : Type 0} {is_value : T → Type 0} {words : T → List ℕ} {cmp : T → T → Ordering} (step : ℕ)
    (table : RunTable) (r : FileNo → List ℕ) (xs : List T) (shows : TableShows is_value words cmp step table r xs) where
  run_there : (q : Run) → IsInUse q → BeginsAs r shows.world (anew step q)
      → IsRun is_value words (anew step q) (bytes_of shows.world (anew step q))
      → q.end * 64 ≤ length (r (record { step = step; part = q.part }))
  run_there q used begins run =
      let f : FileNo = record { step = step; part = q.part } in
      let bytes : List ℕ = bytes_of shows.world (anew step q) in
      let whole = (run (q.end - 1) (omega (arith, used)) (omega (arith, used))).whole in
      let many = length-take (q.end * 64) bytes in
      enough (q.end * 64) (r f) (take (q.end * 64) bytes) (begins used) (omega (arith, whole, used, many))

  front_there : (f : FileNo) (n : ℕ) → IsBeforeEnd step table f n → n ≤ length (r f)
  front_there f n (slot, q, within, is, (used, file_is, front)) =
      let same : get_or table.runs slot no_run ≡ q = get_or_default table.runs slot no_run q within ∙ is in
      let head : get_or (heads_of step table) slot no_head ≡ anew step q =
      get_or-map (head_of step) table.runs slot no_run no_head within ∙ ap (head_of step) same
      ∙ head_used step q used in
      let all = length-map table.runs (head_of step) in
      let begins : BeginsAs r shows.world (anew step q) = subst (BeginsAs r shows.world) head
      (All-get_or (BeginsAs r shows.world) (heads_of step table) slot no_head (omega (arith, within, all))
      shows.begin) in
      let Runs : Head → Type 0 = λ h. IsRun is_value words h (bytes_of shows.world h) in
      let run : Runs (anew step q) = subst Runs head
      (All-get_or Runs (heads_of step table) slot no_head (omega (arith, within, all)) shows.lists.runs) in
      let there = run_there q used begins run in
      let long = ap (λ (g : FileNo). length (r g)) file_is in
      omega (arith, there, front, long)

-- a table of which no run has records left has none
no_front : (step : ℕ) (table : RunTable) (f : FileNo) (n : ℕ) → IsEmptyTable table → ¬ IsBeforeEnd step table f n
no_front step table f n none (slot, q, within, is, (used, file_is, front)) =
    let same : get_or table.runs slot no_run ≡ q = get_or_default table.runs slot no_run q within ∙ is in
    All-get_or (λ (q : Run). ¬ IsInUse q) table.runs slot no_run within none (subst IsInUse (sym same) used)

-- a sweep from the root down: of the files that it reads it rests on all, and its arcs and its runs are there
module _ (c : Checkpoint) (m : _) (r : FileNo → List ℕ) where
  shown_there : (asks : List Ask) (inner ends : List _) → Shows c m r asks inner ends
      → AreThere (machines.IsRest c m) r
  shown_there asks inner ends shows f n (OnOperand read) = inr (λ k. OnOperand read)
  shown_there asks inner ends shows f n (OnInner is upto) =
      let whole = shows.inner_are.items.whole in
      let many = shows.inner_are.count_is in
      let long = ap (λ (g : FileNo). length (r g)) is in
      inl (omega (arith, whole, many, long, upto))
  shown_there asks inner ends shows f n (OnEnds is upto) =
      let whole = shows.ends_are.items.whole in
      let many = shows.ends_are.count_is in
      let long = ap (λ (g : FileNo). length (r g)) is in
      inl (omega (arith, whole, many, long, upto))
  shown_there asks inner ends shows f n (OnRun before) =
      inl (front_there c.step (table_at (queue_tables c) 0) r asks shows.asks_are.sorter f n before)

  going_there : (a : Option Asking) (t : Task) (tuples turns : ℕ) → GoesOnAt a t c m r tuples turns
      → AreThere (machines.IsRest c m) r
  going_there None t tuples turns at = shown_there [] [] [] at.shows
  going_there (Some s) t tuples turns at = shown_there at.asks at.inner at.ends at.shows

-- whatever its operation
pub top_there : {O : Type 0} (o : Ghosts O) (rule : O → _) (begins : O → _ → _)
    → AllThere (table_saving (top_saving o rule begins))
top_there o rule begins c text r job turns fits stands f n on =
    let at = stands.stands in
    let same : at.saved ≡ on.saved =
    one_machine o c at.saved on.saved at.operation on.operation at.holds on.holds in
    let there : AreThere (machines.IsRest c on.saved) r = subst (λ m. AreThere (machines.IsRest c m) r) same
    (going_there c at.saved r at.saved.asking stands.work.task (length stands.work.tuples) turns at.goes_on.goes_on) in
    elim (there f n on.rests) [
      | inl within ↦ inl within
      | inr all ↦ inr (λ k. record { saved = on.saved; operation = on.operation; holds = on.holds; rests = all k })
    ]

pub arcs_there : AllThere arcs_saving
arcs_there = top_there step_words rule_of begins_of

pub implication_there : AllThere leq_saving
implication_there c text r d turns fits stands =
    top_there product_words products.rule_of products.begins_of c text r (refutation d) turns fits stands.makes

-- a reduction: of the files of which arcs are left it rests on all, and its nodes and its runs are there
module _ (c : Checkpoint) (x : _) (r : FileNo → List ℕ) (d : Diagram) (turns : ℕ) where
  tables_there : (p : Phase) (part : ℕ) → AreSavedTables c part → reductions.GoesOn c x p r d turns → (k : ℕ) → k < 5
      → (f : FileNo) (n : ℕ) → IsBeforeEnd c.step (table_at (tables_of c) k) f n → n ≤ length (r f)
  tables_there p part tables goes zero below f n before =
      front_there c.step (table_at (tables_of c) 0) r goes.contents.queue goes.queue_shown.sorter f n before
  tables_there p part tables goes (suc zero) below f n before =
      absurd (no_front c.step (table_at (tables_of c) 1) f n tables.second before)
  tables_there p part tables goes (suc (suc zero)) below f n before =
      absurd (no_front c.step (table_at (tables_of c) 2) f n tables.third before)
  tables_there p part tables goes (suc (suc (suc zero))) below f n before =
      front_there c.step (table_at (tables_of c) 3) r goes.contents.rows goes.rows_shown f n before
  tables_there p part tables goes (suc (suc (suc (suc zero)))) below f n before =
      front_there c.step (table_at (tables_of c) 4) r goes.contents.names goes.names_shown f n before
  tables_there p part tables goes (suc (suc (suc (suc (suc k))))) below f n before = absurd (omega (arith, below))

  working_there : (p : Phase) (part : ℕ) → AreSavedTables c part → reductions.GoesOn c x p r d turns
      → AreThere (reductions.IsRest c x) r
  working_there p part tables goes f n (inl arcs) = inr (λ k. inl arcs)
  working_there p part tables goes f n (inr (inl (is, upto))) =
      let many = length-node_bytes goes.contents.nodes in
      let kept = goes.nodes_many in
      let whole = enough (24 * x.kept) (r x.out) (node_bytes goes.contents.nodes) goes.nodes_are
      (omega (arith, many, kept)) in
      let long = ap (λ (g : FileNo). length (r g)) is in
      inl (omega (arith, whole, long, upto))
  working_there p part tables goes f n (inr (inr (k, below, before))) =
      let count = tables.count in
      inl (tables_there p part tables goes k (omega (arith, below, count)) f n before)

  ended_there : (count : ℕ) → IsKeptAtEnd c x count → HasEnded x count r d → AreThere (reductions.IsRest c x) r
  ended_there count kept ended f n (inl arcs) = inr (λ k. inl arcs)
  ended_there count kept ended f n (inr (inl (is, upto))) =
      let nodes = canon_nodes x.variables d.table in
      let trailer = trailer_bytes (canon_root x.variables d.table) (length nodes) x.variables in
      let many : length (canon_bytes x.variables d.table) ≡ 24 * length nodes + 24 =
      ap length (canon_bytes-is x.variables d.table) ∙ length-append (node_bytes nodes) trailer
      ∙ ap (λ k. k + 24) (length-node_bytes nodes) in
      let all = ended.count_is in
      let whole = enough (24 * (count + 1)) (r x.out) (canon_bytes x.variables d.table) ended.bytes_are
      (omega (arith, many, all)) in
      let long = ap (λ (g : FileNo). length (r g)) is in
      let kept_is = kept.kept_is in
      inl (omega (arith, whole, long, upto, kept_is))
  ended_there count kept ended f n (inr (inr (k, below, before))) =
      let none = kept.no_tables in absurd (omega (arith, none, below))

  phase_there : (p : Phase) → IsKeptAt p c x → StandsAt p c x r d turns → AreThere (reductions.IsRest c x) r
  phase_there Between kept stands = working_there Between x.out.part kept stands
  phase_there (Collect s) kept stands = working_there (Collect s) x.out.part kept stands
  phase_there (Number s) kept stands = working_there (Number s) x.out.part kept stands
  phase_there Forward kept stands = working_there Forward x.out.part kept stands
  phase_there (Ended count) kept stands = ended_there count kept stands

pub reduction_there : AllThere reduce_saving
reduction_there c text r d turns fits stands f n on =
    let same : stands.saved ≡ on.saved = one_reduction c stands.saved on.saved stands.holds on.holds in
    let rules = fits_at c stands.saved stands.phase fits stands.holds stands.phase_is in
    let there : AreThere (reductions.IsRest c on.saved) r = subst (λ x. AreThere (reductions.IsRest c x) r) same
    (phase_there c stands.saved r d turns stands.phase rules.kept_at stands.stands) in
    elim (there f n on.rests) [
      | inl within ↦ inl within
      | inr all ↦ inr (λ k. record { saved = on.saved; holds = on.holds; rests = all k })
    ]

-- a copy: of the file that it reads it rests on all, and what was copied is there
copied_there : (x : _) (r : FileNo → List ℕ) (bytes : List ℕ) (turns : ℕ) → copies.GoesOn x r bytes turns
    → AreThere (copies.IsRest x) r
copied_there x r bytes turns goes f n (inl read) = inr (λ k. inl read)
copied_there x r bytes turns goes f n (inr (is, upto)) =
    let many = length-take (pieces_of x) (r x.task.from) in
    let kept = goes.kept_is in
    let whole = enough x.kept (r x.task.to) (take (pieces_of x) (r x.task.from)) goes.copied
    (omega (arith, many, kept)) in
    let long = ap (λ (g : FileNo). length (r g)) is in
    inl (omega (arith, whole, long, upto))

pub copy_there : AllThere copy_saving
copy_there c text r bytes turns fits stands f n on =
    let same : stands.saved ≡ on.saved = one_copy c stands.saved on.saved stands.holds on.holds in
    let there : AreThere (copies.IsRest on.saved) r = subst (λ x. AreThere (copies.IsRest x) r) same
    (copied_there stands.saved r bytes turns stands.goes_on) in
    elim (there f n on.rests) [
      | inl within ↦ inl within
      | inr all ↦ inr (λ k. record { saved = on.saved; holds = on.holds; rests = all k })
    ]

-- a comparison and an evaluation rest on all of the files that they read
pub comparison_there : AllThere same_saving
comparison_there c text r d turns fits stands f n on =
    inr (λ k. record { saved = on.saved; holds = on.holds; read = on.read })

pub evaluation_there : AllThere eval_saving
evaluation_there c text r d turns fits stands f n on =
    inr (λ k. record { saved = on.saved; holds = on.holds; read = on.read })

module _ {Task Job : Type 0} (saving : Saving Task Job) (all : AllThere saving) (step sweep : ℕ) (task : Task)
    (job : Job) (turns : ℕ) (r : FileNo → List ℕ) (goes : GoesOn saving step sweep task job turns r) where
  -- so it is of the checkpoint from which a sweep goes on
  pub goes_there : AreThere (saving.rests goes.point) r
  goes_there = all goes.point (saving.text task) r job goes.left goes.fits goes.stands

  -- which is the last gated one
  last_there : (rests : Checkpoint → FileNo → ℕ → Type 0) (c : Checkpoint) → IsLastOf step r c
      → AreThere (rests goes.point) r → AreThere (rests c) r
  last_there rests c is = subst (λ (d : Checkpoint). AreThere (rests d) r)
      (one_last step r goes.point c (record { last = goes.last; rules = goes.rules; words = goes.words }) is)

-- a checkpoint with that sweep and so many tables
abbrev of_sweep : ℕ → ℕ → Checkpoint → Checkpoint
of_sweep sweep tables c = record {
  step = c.step;
  sweep = sweep;
  turns = c.turns;
  next_part = c.next_part;
  budget = c.budget;
  tables = tables;
  carry = c.carry;
  runs = c.runs;
}

-- what a checkpoint rests on is told by its sweep and its tables
told_there : (rests : Checkpoint → FileNo → ℕ → Type 0) (r : FileNo → List ℕ) (c : Checkpoint) (sweep tables : ℕ)
    → c.sweep ≡ sweep → c.tables ≡ tables
    → (AreThere (rests (of_sweep sweep tables c)) r → AreThere (diagram_rests (of_sweep sweep tables c)) r)
    → AreThere (rests c) r → AreThere (diagram_rests c) r
told_there rests r c sweep tables sweep_is tables_are told there =
    let same : c ≡ of_sweep sweep tables c = λ i. record {
      step = c.step;
      sweep = sweep_is i;
      turns = c.turns;
      next_part = c.next_part;
      budget = c.budget;
      tables = tables_are i;
      carry = c.carry;
      runs = c.runs;
    } in
    subst (λ (d : Checkpoint). AreThere (diagram_rests d) r) (sym same)
    (told (subst (λ (d : Checkpoint). AreThere (rests d) r) same there))

-- and so it is of the last gated checkpoint of a step that goes on from it: of one that makes a diagram
pub diagram_there : (operation : StepOperation) (n : ℕ) (operands : OperandFiles) (number : ℕ) (g : Tables)
    (r : FileNo → List ℕ) (c : Checkpoint) → DiagramGoesOn operation n operands number g r
    → IsLastOf number r c → AreThere (diagram_rests c) r
diagram_there operation n operands number g r c (inl q) is =
    let bytes = canon_bytes n (made_by operation n g) in
    let task = copy_of q.from number bytes in
    let point = q.goes_on.point in
    last_there copy_saving copy_there number 0 task bytes q.turns r q.goes_on diagram_rests c is
    (told_there copy_saving.rests r point 0 0 q.goes_on.sweep_is q.goes_on.fits.tables (λ there. there)
    (goes_there copy_saving copy_there number 0 task bytes q.turns r q.goes_on))
diagram_there operation n operands number g r c (inr (inl q)) is =
    let task = arcs_of n operands number in
    let work = work_of operation n g in
    let point = q.goes_on.point in
    last_there arcs_saving arcs_there number 0 task work q.turns r q.goes_on diagram_rests c is
    (told_there arcs_saving.rests r point 0 3 q.goes_on.sweep_is q.goes_on.fits.queue.tables (λ there. there)
    (goes_there arcs_saving arcs_there number 0 task work q.turns r q.goes_on))
diagram_there operation n operands number g r c (inr (inr q)) is =
    let point = q.goes_on.point in
    last_there reduce_saving reduction_there number 1 q.task q.diagram q.turns r q.goes_on diagram_rests c is
    (told_there reduce_saving.rests r point 1 point.tables q.goes_on.sweep_is refl (λ there. there)
    (goes_there reduce_saving reduction_there number 1 q.task q.diagram q.turns r q.goes_on))

-- of one that compares, evaluates, or answers an implication
pub compared_there : (n : ℕ) (left right : FileNo) (number : ℕ) (t u : List Bool) (r : FileNo → List ℕ)
    (c : Checkpoint) → ComparisonGoesOn n left right number t u r → IsLastOf number r c
    → AreThere (comparison_rests c) r
compared_there n left right number t u r c q is =
    let task = comparison_of n left right number in
    let job = two_tables n t u in
    last_there same_saving comparison_there number 0 task job q.turns r q.goes_on comparison_rests c is
    (goes_there same_saving comparison_there number 0 task job q.turns r q.goes_on)

pub evaluated_there : (n : ℕ) (file : FileNo) (text : List ℕ) (at number : ℕ) (t : List Bool)
    (r : FileNo → List ℕ) (c : Checkpoint) → EvaluationGoesOn n file text at number t r
    → IsLastOf number r c → AreThere (evaluation_rests c) r
evaluated_there n file text at number t r c q is =
    let task = evaluation_of n file text at number in
    let job = one_table n t in
    last_there eval_saving evaluation_there number 0 task job q.turns r q.goes_on evaluation_rests c is
    (goes_there eval_saving evaluation_there number 0 task job q.turns r q.goes_on)

pub implied_there : (n : ℕ) (left right : FileNo) (number : ℕ) (t u : List Bool) (r : FileNo → List ℕ)
    (c : Checkpoint) → ImplicationGoesOn n left right number t u r → IsLastOf number r c
    → AreThere (implication_rests c) r
implied_there n left right number t u r c q is =
    let task = arcs_of n (two_files left right) number in
    let job : Implication = record { n = n; left = t; right = u } in
    last_there leq_saving implication_there number 0 task job q.turns r q.goes_on implication_rests c is
    (goes_there leq_saving implication_there number 0 task job q.turns r q.goes_on)
