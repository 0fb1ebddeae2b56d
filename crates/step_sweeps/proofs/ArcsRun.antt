-- The sweep that makes a step's arcs, which was begun, and then run and saved.
use Rattle.std.proofs.Common.{◌≡◌, ◌⊎◌, ◌∙◌, ℕ, ◌+◌, ◌-◌, ◌*◌, ◌^◌, ◌<◌, ◌≤◌, max, Bool, List, refl, sym, subst, inl, inr, arith}
use Rattle.std.specs.Prelude.{IsTrue, Option, Some, None, Result, Ok, Err, OnOk, IfErr, IsErrOf}
use Rattle.shelf_model.specs.declared.file_no.FileNo.{FileNo}
use Rattle.shelf_model.specs.declared.sort_fault.SortFault.{SortFault}
use Rattle.shelf_model.specs.declared.sort_fault.SortFault.TheVariants.{RunsSpent}
use Rattle.shelf_model.specs.Calls.{Told}
use Rattle.shelf_model.specs.Faults.{Faults}
use Rattle.shelf_model.specs.Folder.{AreFiles, Image, IsImage, bytes_in}
use Rattle.shelf_model.specs.Moments.{Ran, Throughout, OnlyChanged}
use Rattle.shelf_model.specs.World.{Moment, World, now}
use Rattle.shelf_model.proofs.Changing.{told_changed_then}
use Rattle.shelf_model.proofs.Runs.{joins}
use Rattle.run_tiers.specs.Faults.{OnlySortShelf}
use Rattle.run_tiers.proofs.FaultLaws.{sort_shelf_on, sort_shelf_then}
use Rattle.step_going.proofs.GoneOn.{GoesOnBy}
use Rattle.step_going.proofs.Shown.{stops_more}
use Rattle.sweep_checkpoint.specs.Going.{IsOfGoing, IsAsBefore, GoesOn, AreSure, IsPaidTo, SameGoing, TakesParts, TakesCalls, interval_of, first_owed}
use Rattle.sweep_checkpoint.specs.declared.going.Going.{Going}
use Rattle.sweep_checkpoint.specs.Stops.{StopsCost}
use Rattle.sweep_core.specs.declared.checkpoint.Checkpoint.{Checkpoint}
use Rattle.sweep_core.specs.Saving.{reads_of}
use Rattle.sweep_core.specs.Sweeps.{IsNoDamage}
use Rattle.top_down_sweep.specs.declared.beginning.OperandFiles.{OperandFiles}
use Rattle.sweep_operations.specs.declared.steps.StepOperation.{StepOperation}
use Rattle.top_down_sweep.specs.ResumeLaws as laws
use Rattle.top_down_sweep.specs.Sweeps.{task_of}
use Rattle.table_work.specs.declared.sweep.TableSweep.{TableSweep}
use Rattle.table_work.specs.Jobs.{TableWork}
use Rattle.table_work.specs.Tables.{sweep_of, work_of}
use Rattle.resumable.specs.Diagrams.{arcs_of, arcs_saving, step_words, diagram_rests}
use Rattle.resumable.proofs.Makings.{arcs_go}
use Rattle.resumable.proofs.Resting.{arcs_see}
use Rattle.step_sweeps.specs.declared.task.Making.{Making}
use Rattle.step_sweeps.specs.Damage.{IsFoundFault}
use Rattle.step_sweeps.specs.Given.{Tables, tuples_by}
use Rattle.step_sweeps.specs.Going.{rest_calls}
use Rattle.step_sweeps.specs.Kinds.{arcs_kind}
use Rattle.step_sweeps.specs.Makes.{IsGivenFor, HasNoGate, goes_on_by, operand_nodes, nodes_for, work_for}
use Rattle.step_sweeps.specs.Started.{Starts, IsUnderWay}
use Rattle.step_sweeps.specs.Stops.{shown_by, arcs_stop}
use Rattle.step_sweeps.specs.Sweeping.{MaySweep, IsEarly, SweepsArcs, TakesFew, arcs_most, most_turns, owed_parts, IsCovered, calls_of}
use Rattle.step_sweeps.proofs.Costs.{few_saves, spent_turns}
use Rattle.step_sweeps.proofs.Running.{the_fault}
use Rattle.step_sweeps.proofs.Stops.{RunStops, come_shown, started_stops}
use Rattle.step_sweeps.proofs.UnderWay.{IsSafeAt, way_sure, way_covered, way_safe}

-- what a run leaves, whichever way it ended
pub record HasRun {S : Type 0} (tells : S → Bool) (world : S → World) (counts : S → Faults) (going later : Going)
    (s t : TableSweep StepOperation) (mid after : S) (result : Result Unit SortFault) : Type 0 where
  pub going_is : SameGoing going later
  pub took : IsTrue (tells after) → (job : TableWork) → arcs_kind.remains s (world mid) job → (saves : ℕ)
      × (interval_of going.budget * saves + going.shown
      ≤ max going.shown (going.turns + arcs_kind.left s (world mid) job))
      × OnOk result (interval_of going.budget * saves + going.shown ≤ later.shown)
      × TakesParts arcs_kind.accounts (arcs_kind.left s (world mid) job + 1) saves s t
      × TakesCalls arcs_kind.accounts (arcs_kind.left s (world mid) job + 1) saves
      (first_owed going.last (arcs_kind.accounts.next s)) (world mid) (world after) s t
  pub undamaged : IfErr result (λ e. IsTrue (tells after) → (job : TableWork) → arcs_kind.remains s (world mid) job
      → IsCovered going.step (world mid) → IsNoDamage e)
  pub changes : Told tells mid after (Ran (OnlyChanged (IsOfGoing (arcs_kind.accounts.makes s) going.step)
      (now (world mid))) (world mid) (world after))
  pub images : IsTrue (tells after) → (job : TableWork) → arcs_kind.remains s (world mid) job
      → AreSure (arcs_kind.saving.operands (arcs_kind.task s)) going.step (now (world mid)).folder
      → IsPaidTo arcs_kind.accounts going s
      → Throughout (world mid) (world after) (λ (m : Moment). (image : Image) → IsImage m.folder image
      → IsAsBefore (arcs_kind.accounts.makes s) going.step (arcs_kind.accounts.next s) (now (world mid)).folder
      (bytes_in image) ⊎ GoesOn arcs_kind.saving going.step going.sweep (arcs_kind.task s) job
      (going.turns + arcs_kind.left s (world mid) job) (bytes_in image))
  pub stops : IsTrue (tells after) → RunStops arcs_kind going s (world mid) (world after)
  pub spent : IsErrOf result RunsSpent → 2 ^ 32 ≤ arcs_kind.accounts.next t
  pub faults : OnlySortShelf (counts mid) (counts after) result

ok_then : {P Q : Type 0} (r : Result Unit SortFault) → (P → Q) → OnOk r P → OnOk r Q
ok_then (Ok x) more is = more is
ok_then (Err e) more is = tt

-- what the step may take at most is within its work, and leaves the turns of a reduction
pub most_fits : (last : Option Checkpoint) (making : Making) (going : Going) (g : Tables)
    → (last ≡ None → going.turns ≤ 2 * nodes_for making g + 1)
    → (most_turns last making going g ≤ work_for making g)
    × (10 * tuples_by making.operation making.n g + 10 ≤ most_turns last making going g)
most_fits None making going g early = let few = early refl in (omega (arith, few), omega arith)
most_fits (Some c) making going g early = (omega arith, omega arith)

-- a checkpoint of such arcs is one of them, whatever the operation
abbrev of_files : (number n : ℕ) (operands : OperandFiles) (operation : StepOperation) (work : TableWork) (turns : ℕ)
    (r : FileNo → List ℕ) → GoesOn arcs_kind.saving number 0 (arcs_of n operands number, operation) work turns r
    → GoesOn arcs_saving number 0 (arcs_of n operands number) work turns r
of_files number n operands operation work turns r goes = record {
  point = goes.point;
  last = goes.last;
  rules = goes.rules;
  paid = goes.paid;
  sweep_is = goes.sweep_is;
  words = goes.words;
  names = goes.names;
  fits = goes.fits;
  left = goes.left;
  stands = goes.stands;
  few = goes.few;
}

module _ {S : Type 0} (tells : S → Bool) (world : S → World) (counts : S → Faults) (making : Making) (going : Going)
    (may : MaySweep making.number going) (before mid after : S) (early : IsEarly tells world making going before) (s t : TableSweep StepOperation)
    (started : Starts tells world counts arcs_kind (λ g job s. job ≡ work_of making.operation making.n g)
    (arcs_most making going) 8 making going before mid s)
    (task : task_of (sweep_of s) ≡ arcs_of making.n making.operands making.number)
    (files_at : IsTrue (tells mid) → AreFiles (now (world mid)).folder) (later : Going) (result : Result Unit SortFault)
    (run : HasRun tells world counts going later s t mid after result) where
  pub run_content : Told tells before after
      (Ran (OnlyChanged (λ q. q.step ≡ making.number) (now (world before))) (world before) (world after))
  run_content = told_changed_then tells world (λ q. q.step ≡ making.number)
      (IsOfGoing (arcs_kind.accounts.makes s) going.step) before mid after
      (λ f is. elim is [
        | inl mine ↦ (started.may.files.made f mine).step_is
        | inr own ↦ own.0 ∙ may.step_is
      ]) started.content run.changes

  module _ (told : IsTrue (tells after)) (g : Tables) (given : IsGivenFor making going (world before) g) where
    pub way : IsUnderWay arcs_kind making g going.last (work_of making.operation making.n g) s (world mid)
    way =
        let at = started.under_way (run.changes.before told) g given in
        subst (λ job. IsUnderWay arcs_kind making g going.last job s (world mid)) at.1 at.2

    pub few : going.turns + arcs_kind.left s (world mid) (work_of making.operation making.n g) ≤ arcs_most making going g
    few =
        let at = started.under_way (run.changes.before told) g given in
        subst (λ job. going.turns + arcs_kind.left s (world mid) job ≤ arcs_most making going g) at.1 at.3

    abbrev pub turns : ℕ
    turns = going.turns + arcs_kind.left s (world mid) (work_of making.operation making.n g)

    pub by : GoesOnBy arcs_kind.saving (λ r. goes_on_by making g r) diagram_rests making.number
        going.sweep (arcs_kind.task s) (work_of making.operation making.n g) turns
    by = subst (λ k. GoesOnBy arcs_kind.saving (λ r. goes_on_by making g r) diagram_rests making.number
        k (arcs_kind.task s) (work_of making.operation making.n g) turns) (sym may.sweep_is)
        (subst (λ u. GoesOnBy arcs_kind.saving (λ r. goes_on_by making g r) diagram_rests making.number
        0 (u, (sweep_of s).operation) (work_of making.operation making.n g) turns) (sym task) (record {
          goes_on = λ r goes. arcs_go making.operation making.n making.operands making.number g turns r
              (of_files making.number making.n making.operands (sweep_of s).operation (work_of making.operation making.n g) turns r goes) within;
          rests_within = λ r goes f n. arcs_see making.number turns r
              (arcs_of making.n making.operands making.number) (work_of making.operation making.n g)
              (of_files making.number making.n making.operands (sweep_of s).operation (work_of making.operation making.n g) turns r goes) f n;
          apart = laws.apart step_words;
        }))
      where
        within : turns + (10 * tuples_by making.operation making.n g + 10) ≤ work_for making g
        within =
            let most = most_fits going.last making going g
            (early (started.content.before (run.changes.before told)) g given.given) in
            let one = most.0 in
            let two = most.1 in
            let within = few in
            omega (arith, one, two, within)

    pub run_safe : Throughout (world before) (world after) (IsSafeAt making g)
    run_safe = joins (world before) (world mid) (world after) (IsSafeAt making g)
        (started.images (run.changes.before told) g given)
        (way_safe arcs_kind making going g going.last (work_of making.operation making.n g) s (world mid) way may.step_is by
        (world after) (run.images told (work_of making.operation making.n g) way.remains
        (way_sure arcs_kind making going g going.last (work_of making.operation making.n g) s (world mid) way may.step_is)
        started.may.paid))

    -- what a stop costs
    pub run_stops : work_for making g < 2 ^ 61 → StopsCost making.number (shown_by going.last) ((world before).clock
        + (arcs_stop + rest_calls going.last (operand_nodes making (reads_of (world before)))))
        (world before) (world after)
    run_stops within =
        let told_mid = run.changes.before told in
        let most = most_fits going.last making going g (early (started.content.before told_mid) g given.given) in
        let one = most.0 in
        stops_more making.number (shown_by going.last) _ _ (world before) (world after) (omega arith)
        (started_stops tells world counts arcs_kind (λ g job s. job ≡ work_of making.operation making.n g)
        (arcs_most making going) 8 making going before mid s started told_mid g given after may.step_is
        (come_shown making.number going may) (omega (arith, one, within)) (run.changes.did told).moments.past
        (run.stops told))

    run_covered : IsCovered going.step (world mid)
    run_covered = subst (λ k. IsCovered k (world mid)) (sym may.step_is)
        (way_covered arcs_kind making going g going.last (work_of making.operation making.n g) s (world mid) way
        may.step_is (files_at (run.changes.before told)))

    -- it takes few turns, parts and saves, and few calls with those of the beginning
    pub run_few : (f : TakesFew making going g)
        × OnOk result (16384 * f.takes.saves + going.shown ≤ later.shown)
        × (arcs_kind.accounts.next t ≤ arcs_kind.accounts.next s + f.takes.parts)
        × ((world after).clock + 2 * owed_parts going.last ≤ (world before).clock
        + (calls_of f.takes + 8 + rest_calls going.last (operand_nodes making (reads_of (world before)))))
    run_few =
        let took = run.took told (work_of making.operation making.n g) way.remains in
        let most = most_fits going.last making going g
        (early (started.content.before (run.changes.before told)) g given.given) in
        let one = most.1 in
        let fewer = few in
        let shown : going.shown ≡ going.turns = may.shown_is in
        let begun = started.calls (run.changes.before told) in
        let paid = took.4.paid in
        let owed = started.owed in
        let stock = started.stock in
        let spent = took.3.spent in
        let enough = few_saves (interval_of going.budget) took.0 going.shown
        (max going.shown (going.turns + arcs_kind.left s (world mid) (work_of making.operation making.n g)))
        started.may.paid.interval took.1 in (
          record {
            left = arcs_kind.left s (world mid) (work_of making.operation making.n g);
            few = omega (arith, one, fewer);
            takes = record {
              saves = took.0;
              parts = arcs_kind.accounts.next t - arcs_kind.accounts.next s;
              few_saves = omega (arith, enough, shown);
              few_parts = omega (arith, stock, spent);
            };
          },
          ok_then result (λ linked. few_saves (interval_of going.budget) took.0 going.shown later.shown
              started.may.paid.interval linked) took.2,
          omega arith,
          omega (arith, begun, paid, owed),
        )

    pub run_spent : 2 ^ 32 ≤ arcs_kind.accounts.next t → 2 ^ 35 ≤ work_for making g
    run_spent spent =
        let took = run.took told (work_of making.operation making.n g) way.remains in
        let most = most_fits going.last making going g
        (early (started.content.before (run.changes.before told)) g given.given) in
        let one = most.0 in
        let two = most.1 in
        let fewer = few in
        spent_turns going.turns going.shown (arcs_kind.left s (world mid) (work_of making.operation making.n g)) took.0
        (arcs_kind.accounts.next s) (arcs_kind.accounts.next t) (arcs_kind.accounts.stock s) (arcs_kind.accounts.stock t)
        (work_for making g) started.may.paid.shown started.may.paid.paid
        (few_saves (interval_of going.budget) took.0 going.shown
        (max going.shown (going.turns + arcs_kind.left s (world mid) (work_of making.operation making.n g)))
        started.may.paid.interval took.1) took.3.spent (omega (arith, one, two, fewer)) spent

-- it was refused on the way
module _ {S : Type 0} (tells : S → Bool) (world : S → World) (counts : S → Faults) (making : Making) (going : Going)
    (may : MaySweep making.number going) (before mid after : S) (early : IsEarly tells world making going before)
    (s t : TableSweep StepOperation)
    (started : Starts tells world counts arcs_kind (λ g job s. job ≡ work_of making.operation making.n g)
    (arcs_most making going) 8 making going before mid s)
    (task : task_of (sweep_of s) ≡ arcs_of making.n making.operands making.number)
    (files_at : IsTrue (tells mid) → AreFiles (now (world mid)).folder) (later : Going) where
  pub run_refused : (e : SortFault) → HasRun tells world counts going later s t mid after (Err e)
      → (IsTrue (tells after) → going.last ≡ None → HasNoGate making.number (world before)
      → IsFoundFault making.operation making.n making.operands (world before) e)
      → SweepsArcs tells world counts making going later before after (Err e)
  run_refused e run damaged = record {
    going = run.going_is;
    files = tt;
    parts = tt;
    made = tt;
    undamaged = λ told g given. run.undamaged told (work_of making.operation making.n g)
        (way tells world counts making going may before mid after early s t started task files_at later (Err e) run told g
        given).remains
        (run_covered tells world counts making going may before mid after early s t started task files_at later (Err e)
        run told g given);
    spent = λ was told g given. run_spent tells world counts making going may before mid after early s t started task
        files_at later (Err e) run told g given (run.spent (the_fault e was));
    images = λ told g given. run_safe tells world counts making going may before mid after early s t started task files_at
        later (Err e) run told g given;
    damaged = damaged;
    ordered = tt;
    content = run_content tells world counts making going may before mid after early s t started task files_at later
        (Err e) run;
    grew = tt;
    paid = tt;
    taken = tt;
    untaken = tt;
    recent = tt;
    calls = tt;
    few_calls = λ told g given.
        let few = run_few tells world counts making going may before mid after early s t started task files_at later
        (Err e) run told g given in (few.0, tt, few.3);
    stops = λ told g given within. run_stops tells world counts making going may before mid after early s t started task
        files_at later (Err e) run told g given within;
    faults = sort_shelf_then (counts before) (counts mid) (counts after) (Ok s) (Err e) started.faults
        (sort_shelf_on (counts mid) (counts after) e (Err e) refl run.faults);
  }
