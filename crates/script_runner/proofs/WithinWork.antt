-- The turns that a sound image shows are within the work of its job.
use Rattle.std.proofs.Common.{◌≡◌, ◌∙◌, ℕ, zero, suc, ◌+◌, ◌*◌, ◌<◌, ◌≤◌, List, length, take, cond, refl, sym, ap, subst, inl, inr, arith}
use Rattle.std.specs.Prelude.{Some, sum_by}
use Rattle.std.proofs.lemmas.Bool.{cases_lt, le-ltb}
use Rattle.std.proofs.lemmas.List.Sums.{sum_by_more, sum_by-take-le}
use Rattle.bool_tables.specs.declared.steps.Planned.{Planned}
use Rattle.bool_tables.specs.declared.steps.Step.{Step}
use Rattle.bool_tables.specs.declared.steps.Step.TheVariants.{Const, Var, Pair, Ite, Quantify, Restrict, Drop}
use Rattle.bool_tables.specs.declared.steps.Step.TheVariants.{Same, Leq, Eval, Size}
use Rattle.shelf_model.specs.declared.file_no.FileNo.{FileNo}
use Rattle.catalogue.specs.Counts.{count_in}
use Rattle.step_going.proofs.Gated.{none_gated}
use Rattle.step_work.specs.Plans.{no_step, step_at, work_at}
use Rattle.sweep_core.specs.declared.checkpoint.Checkpoint.{Checkpoint}
use Rattle.sweep_checkpoint.specs.Points.{point_bytes, Fits}
use Rattle.sweep_checkpoint.specs.Gated.{last_gated}
use Rattle.sweep_checkpoint.specs.Stops.{turns_in, shown_turns}
use Rattle.sweep_checkpoint.proofs.PointTurns.{point_turns}
use Rattle.table_work.specs.Given.{Tables}
use Rattle.top_down_sweep.specs.declared.beginning.OperandFiles.{OperandFiles}
use Rattle.sweep_operations.specs.declared.steps.StepOperation.{StepOperation}
use Rattle.sweep_operations.specs.declared.steps.StepOperation.TheVariants as operations
use Rattle.resumable.specs.Diagrams.{DiagramGoesOn, work_by}
use Rattle.resumable.specs.Kinds.{files_of, tables_of, StepGoesOn}
use Rattle.resumable.specs.Resumable.{StartsOrGoesOn}
use Rattle.resumable.proofs.Works.{work_at_step}
use Rattle.sound_image.specs.Jobs.{Job}
use Rattle.sound_image.specs.Jobs as jobs
use Rattle.sound_image.specs.Entries.{work_of}
use Rattle.sound_image.specs.Sound.{ShowsSteps, IsSound}
use Rattle.script_runner.specs.Stops.{turns_at, committed_turns, paid_in}
use Rattle.script_runner.specs.LivesCost.{job_work}
use Rattle.script_runner.proofs.RunPaying.{none_shown}
use Rattle.script_runner.proofs.StopLaws.{entry_turns, paid_here}

-- what the last gated checkpoint shows is no more than the turns that are needed with it
shown_few : (step : ℕ) (r : FileNo → List ℕ) (c : Checkpoint) (left turns : ℕ) → last_gated step r ≡ Some (point_bytes c)
    → Fits c → c.turns + left ≤ turns → shown_turns step r ≤ turns
shown_few step r c left turns last fits few =
    let same : shown_turns step r ≡ c.turns = ap turns_in last ∙ point_turns c fits in
    omega (arith, same, few)

-- the turns that are shown of a step that makes a diagram are within its work
diagram_few : (operation : StepOperation) (n : ℕ) (files : OperandFiles) (j : ℕ) (g : Tables) (r : FileNo → List ℕ)
    → DiagramGoesOn operation n files j g r → shown_turns j r ≤ work_by operation n g
diagram_few operation n files j g r (inl copy) =
    let shown = shown_few j r copy.goes_on.point copy.goes_on.left copy.turns copy.goes_on.last copy.goes_on.words copy.goes_on.few in
    let few = copy.few in
    omega (arith, shown, few)
diagram_few operation n files j g r (inr (inl arcs)) =
    let shown = shown_few j r arcs.goes_on.point arcs.goes_on.left arcs.turns arcs.goes_on.last arcs.goes_on.words arcs.goes_on.few in
    let few = arcs.few in
    omega (arith, shown, few)
diagram_few operation n files j g r (inr (inr reduction)) =
    let shown = shown_few j r reduction.goes_on.point reduction.goes_on.left reduction.turns reduction.goes_on.last
    reduction.goes_on.words reduction.goes_on.few in
    let few = reduction.few in
    omega (arith, shown, few)

module _ (n : ℕ) (text : List ℕ) (steps : List Planned) (j : ℕ) (r : FileNo → List ℕ) where
  -- of any step that goes on they are
  step_few : (step : Step) → step_at steps j ≡ step → StepGoesOn n text steps j step r
      → shown_turns j r ≤ work_at n steps j
  step_few (Const value) is goes = absurd goes
  step_few (Var level) is goes = absurd goes
  step_few (Pair op left right) is goes = subst (λ k. shown_turns j r ≤ k)
      (sym (work_at_step n steps j (Pair op left right) (Pair op 0 1) is refl (λ i h pieces. refl)))
      (diagram_few (operations.Operator op) n (files_of left right right) j (tables_of n steps left right right) r goes)
  step_few (Ite test if_one if_zero) is goes = subst (λ k. shown_turns j r ≤ k)
      (sym (work_at_step n steps j (Ite test if_one if_zero) (Ite 0 1 2) is refl (λ i h pieces. refl)))
      (diagram_few operations.Choice n (files_of test if_one if_zero) j (tables_of n steps test if_one if_zero) r goes)
  step_few (Quantify kind operand level) is goes = subst (λ k. shown_turns j r ≤ k)
      (sym (work_at_step n steps j (Quantify kind operand level) (Quantify kind 0 level) is refl (λ i h pieces. refl)))
      (diagram_few (operations.Quantifier kind level) n (files_of operand operand operand) j
      (tables_of n steps operand operand operand) r goes)
  step_few (Restrict operand level value) is goes = subst (λ k. shown_turns j r ≤ k)
      (sym (work_at_step n steps j (Restrict operand level value) (Restrict 0 level value) is refl (λ i h pieces. refl)))
      (diagram_few (operations.Restriction level value) n (files_of operand operand operand) j
      (tables_of n steps operand operand operand) r goes)
  step_few (Drop gone) is goes = absurd goes
  step_few (Same left right) is goes =
      let shown = shown_few j r goes.goes_on.point goes.goes_on.left goes.turns goes.goes_on.last goes.goes_on.words goes.goes_on.few in
      let few = goes.few in
      let work = work_at_step n steps j (Same left right) (Same 0 1) is refl (λ i h pieces. refl) in
      omega (arith, shown, few, work)
  step_few (Leq left right) is goes =
      let shown = shown_few j r goes.goes_on.point goes.goes_on.left goes.turns goes.goes_on.last goes.goes_on.words goes.goes_on.few in
      let few = goes.few in
      let work = work_at_step n steps j (Leq left right) (Leq 0 1) is refl (λ i h pieces. refl) in
      omega (arith, shown, few, work)
  step_few (Eval operand at) is goes =
      let shown = shown_few j r goes.goes_on.point goes.goes_on.left goes.turns goes.goes_on.last goes.goes_on.words goes.goes_on.few in
      let few = goes.few in
      let work = work_at_step n steps j (Eval operand at) (Eval 0 at) is refl (λ i h pieces. refl) in
      omega (arith, shown, few, work)
  step_few (Size operand) is goes = absurd goes

  -- and of the step that starts or goes on
  starts_few : StartsOrGoesOn n text steps j r → shown_turns j r ≤ work_at n steps j
  starts_few (inl none) =
      let nothing : shown_turns j r ≡ 0 = ap turns_in (none_gated j r none) in
      omega (arith, nothing)
  starts_few (inr goes) = step_few (step_at steps j) refl goes

module _ (job : Job) (r : FileNo → List ℕ) where
  -- the work of the steps before that one
  abbrev work_before : ℕ → ℕ
  work_before k = sum_by (λ (p : Planned). work_of job p.step) (take k job.steps)

  work_next : (k : ℕ) → k < length job.steps → work_before (k + 1) ≡ work_before k + work_of job (jobs.step_at job k).step
  work_next k within = sum_by_more (λ (p : Planned). work_of job p.step) job.steps k no_step within

  work_all : (k : ℕ) → work_before k ≤ job_work job
  work_all k = sum_by-take-le (λ (p : Planned). work_of job p.step) job.steps k

  -- the turns of committed steps are within it
  committed_within : ShowsSteps job r → (k : ℕ) → k ≤ count_in r → committed_turns k r ≤ work_before k
  unfolding committed_turns
  committed_within shows zero counted = omega arith
  committed_within shows (suc k) counted =
      let entry = shows.entries k (omega (arith, counted)) in
      let turns : turns_at k r ≡ entry.0.turns = entry_turns k r entry.0 entry.1.entry_is.fits entry.2 in
      let few : entry.0.turns ≤ work_of job (jobs.step_at job k).step = entry.1.turns_are.1 in
      let before : committed_turns k r ≤ work_before k = committed_within shows k (omega (arith, counted)) in
      let counts = shows.few in
      let next : work_before (k + 1) ≡ work_before k + work_of job (jobs.step_at job k).step =
      work_next k (omega (arith, counted, counts)) in
      let number : suc k ≡ k + 1 = omega arith in
      let same : work_before (suc k) ≡ work_before (k + 1) = ap work_before number in
      omega (arith, turns, few, before, next, same)

  -- and with those that are shown of the next step all are
  shows_within : ShowsSteps job r → IsSound job r → paid_in job r ≤ 256 * job_work job
  shows_within shows sound = elim (cases_lt (count_in r) (length job.steps)) [
    | inl within ↦
        let paid : paid_in job r ≡ 256 * (committed_turns (count_in r) r + shown_turns (count_in r) r) =
        paid_here job (count_in r) r refl within in
        let shown : shown_turns (count_in r) r ≤ work_of job (jobs.step_at job (count_in r)).step =
        starts_few job.n job.text job.steps (count_in r) r (sound.resumable.goes_on.this_step within) in
        let next = work_next (count_in r) within in
        let most = work_all (count_in r + 1) in
        omega (arith, paid, shown, next, most, committed)
    | inr all ↦
        let paid : paid_in job r ≡ 256 * (committed_turns (count_in r) r + 0) =
        ap (λ b. 256 * (committed_turns (count_in r) r + cond b (shown_turns (count_in r) r) 0))
        (le-ltb (count_in r) (length job.steps) all) in
        let most = work_all (count_in r) in
        omega (arith, paid, most, committed)
  ]
    where
      committed : committed_turns (count_in r) r ≤ work_before (count_in r)
      committed = committed_within shows (count_in r) (omega arith)

-- what a sound image pays for is within 256 calls for each turn of the work
pub paid_within : (job : Job) (r : FileNo → List ℕ) → IsSound job r → paid_in job r ≤ 256 * job_work job
paid_within job r sound = elim sound.shown [
  | inl unstored ↦
      let none : paid_in job r ≡ 0 = none_shown job r unstored.0 (sound.resumable.unstored unstored.0) in
      omega (arith, none)
  | inr shows ↦ shows_within job r shows sound
]
