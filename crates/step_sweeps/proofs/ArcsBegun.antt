-- The sweep that makes a step's arcs, begun or rebuilt, or refused to be.
use Rattle.std.proofs.Common.{◌≡◌, ◌≢◌, ℕ, ◌+◌, ◌*◌, ◌^◌, ◌≤◌, Bool, [], refl, sym, subst, arith}
use Rattle.std.specs.Prelude.{IsTrue, Some, None, Result, Ok, Err, IfOk, IfErr}
use Rattle.shelf_model.specs.declared.sort_fault.SortFault.{SortFault}
use Rattle.shelf_model.specs.declared.sort_fault.SortFault.TheVariants.{RunsSpent}
use Rattle.shelf_model.specs.Calls.{Told}
use Rattle.shelf_model.specs.Faults.{Faults}
use Rattle.shelf_model.specs.Folder.{AreFiles}
use Rattle.shelf_model.specs.Moments.{Ran, Stays}
use Rattle.shelf_model.specs.World.{World, now}
use Rattle.run_tiers.specs.Faults.{OnlySortShelf}
use Rattle.run_tiers.proofs.FaultLaws.{sort_shelf_on}
use Rattle.sweep_checkpoint.specs.declared.going.Going.{Going}
use Rattle.sweep_core.specs.declared.checkpoint.Checkpoint.{Checkpoint}
use Rattle.sweep_core.specs.Carries.{OnlyCutBehind}
use Rattle.sweep_core.specs.Saving.{IsOfStep, reads_of}
use Rattle.sweep_core.specs.Sweeps.{IsNoDamage}
use Rattle.sweep_core.specs.Tables.{records_named}
use Rattle.sweep_operations.specs.declared.steps.StepOperation.{StepOperation}
use Rattle.sweep_operations.specs.Operations.{rule_of, begins_of}
use Rattle.top_down_sweep.specs.Resumes.{Names, RestsOn, Fits, Blames}
use Rattle.top_down_sweep.specs.Sweeps.{SweepTask, task_of}
use Rattle.table_work.specs.declared.sweep.TableSweep.{TableSweep}
use Rattle.table_work.specs.Jobs.{TableWork}
use Rattle.table_work.specs.Tables.{sweep_of, work_of, StartsTable}
use Rattle.resumable.specs.Diagrams.{arcs_of, arcs_saving, step_words}
use Rattle.step_sweeps.specs.declared.task.Making.{Making}
use Rattle.step_sweeps.specs.Given.{AreEarlier}
use Rattle.step_sweeps.specs.Kinds.{arcs_kind}
use Rattle.step_sweeps.specs.Parts.{parts_of}
use Rattle.step_sweeps.specs.Started.{Starts}
use Rattle.step_sweeps.specs.Sweeping.{MaySweep, IsEarly, SweepsArcs, arcs_most}
use Rattle.step_sweeps.proofs.ArcsStart.{starts_arcs, start_refused}
use Rattle.step_sweeps.proofs.ArcsAgain.{Rebuilds, again_task, restarts_arcs, again_refused, foreign_refused}
use Rattle.step_sweeps.proofs.Faults.{never_blamed}

module _ {S : Type 0} (tells : S → Bool) (world : S → World) (counts : S → Faults) (making : Making)
    (earlier : AreEarlier making.number making.operands) (before mid : S) (result : Result (TableSweep StepOperation) SortFault)
  where
    -- it is begun, or it is refused
    abbrev pub IsBegunBy : Going → Type 0
    IsBegunBy going = IfOk result (Starts tells world counts arcs_kind
        (λ g job s. job ≡ work_of making.operation making.n g) (arcs_most making going) 8 making going before mid)
        × IfErr result (λ e. SweepsArcs tells world counts making going going before mid (Err e))

    -- from its beginning on
    pub begun_anew : (going : Going) → going.last ≡ None → MaySweep making.number going
        → IsEarly tells world making going before
        → StartsTable rule_of begins_of tells world counts making.operation making.n making.operands
        (parts_of making.number) before mid result → IsBegunBy going
    begun_anew going none may early started =
        subst (λ o. MaySweep making.number (record going { last = o })
        → IsEarly tells world making (record going { last = o }) before → IsBegunBy (record going { last = o })) (sym none)
        (λ may early. by result may early started) may early
      where
        by : (r : Result (TableSweep StepOperation) SortFault) → MaySweep making.number (record going { last = None })
            → IsEarly tells world making (record going { last = None }) before
            → StartsTable rule_of begins_of tells world counts making.operation making.n making.operands
            (parts_of making.number) before mid r
            → IfOk r (Starts tells world counts arcs_kind (λ g job s. job ≡ work_of making.operation making.n g)
            (arcs_most making (record going { last = None })) 8 making (record going { last = None }) before mid)
            × IfErr r (λ e. SweepsArcs tells world counts making (record going { last = None })
            (record going { last = None }) before mid (Err e))
        by (Ok s) may early started = (starts_arcs tells world counts making going before mid may earlier early s started, tt)
        by (Err e) may early started = (tt, start_refused tells world counts making going before mid earlier e started)

module _ {S : Type 0} (tells : S → Bool) (world : S → World) (counts : S → Faults) (making : Making)
    (earlier : AreEarlier making.number making.operands) (c : Checkpoint) (before mid : S)
    (fits : Fits step_words c) (names : Names step_words c (arcs_of making.n making.operands making.number))
    (files_at : IsTrue (tells before) → AreFiles (now (world before)).folder) where
  -- what a rebuild leaves, whether it was refused or not
  pub record Rebuilt (result : Result (TableSweep StepOperation) SortFault) : Type 0 where
    pub ready : IfOk result arcs_kind.ready
    pub in_step : IfOk result (λ s. IsTrue (tells mid) → arcs_kind.in_step s (world mid))
    pub parts : IfOk result (λ s. (arcs_kind.accounts.step s ≡ c.step) × (arcs_kind.accounts.next s ≡ c.next_part))
    pub files : IfOk result (λ s. IsOfStep (arcs_kind.accounts.makes s) (arcs_kind.saving.operands (arcs_kind.task s))
        (arcs_kind.accounts.step s) (arcs_kind.accounts.next s))
    pub names_it : IfOk result (λ s. Names step_words c (task_of (sweep_of s)))
    pub remains : IfOk result (λ s. IsTrue (tells mid) → (job : TableWork) (turns : ℕ)
        → arcs_saving.stands c [] (reads_of (world before)) job turns
        → arcs_kind.remains s (world mid) job × (arcs_kind.left s (world mid) job ≤ turns))
    pub damage : IfErr result (λ e. IsTrue (tells mid) → Blames step_words c (world before) e)
    pub undamaged : IfErr result (λ e. IsTrue (tells mid) → (job : TableWork) (turns : ℕ)
        → arcs_saving.stands c [] (reads_of (world before)) job turns → IsNoDamage e)
    pub content : Told tells before mid
        (Ran (OnlyCutBehind c (RestsOn step_words c) (now (world before))) (world before) (world mid))
    pub calls : IsTrue (tells mid) → (task : SweepTask) → Names step_words c task → (world mid).clock
        ≤ (world before).clock + 2 ^ 20 + arcs_saving.reading task (reads_of (world before))
    pub credit : IfOk result (λ s. arcs_kind.accounts.credit s ≤ 64 * records_named c)
    pub stock : IfOk result (λ s. arcs_kind.accounts.stock s ≤ 50688)
    pub faults : OnlySortShelf (counts before) (counts mid) result

  -- and what that is for the step
  abbrev pub IsTakenUp : Going → Result (TableSweep StepOperation) SortFault → Type 0
  IsTakenUp going result = IfOk result (Starts tells world counts arcs_kind
      (λ g job s. job ≡ work_of making.operation making.n g) (arcs_most making going) 8 making going before mid)
      × IfOk result (λ s. task_of (sweep_of s) ≡ arcs_of making.n making.operands making.number)
      × IfErr result (λ e. SweepsArcs tells world counts making going going before mid (Err e))

  pub begun_again : (going : Going) → going.last ≡ Some c → MaySweep making.number going
      → (result : Result (TableSweep StepOperation) SortFault) → Rebuilt result → IsTakenUp going result
  begun_again going last may result rebuilt =
      subst (λ o. MaySweep making.number (record going { last = o }) → IsTakenUp (record going { last = o }) result)
      (sym last) (λ may. by may result rebuilt) may
    where
      by : MaySweep making.number (record going { last = Some c }) → (r : Result (TableSweep StepOperation) SortFault)
          → Rebuilt r → IsTakenUp (record going { last = Some c }) r
      by may (Ok s) it =
          let is : Rebuilds tells world counts making going c before mid may fits names it.content files_at s = record {
            ready = it.ready;
            in_step = it.in_step;
            step_is = it.parts.0;
            next_is = it.parts.1;
            files = it.files;
            names_it = it.names_it;
            remains = it.remains;
            calls = it.calls;
            credit = it.credit;
            stock = it.stock;
            faults = it.faults;
          } in (
            restarts_arcs tells world counts making going c before mid may fits names it.content files_at earlier s is,
            again_task tells world counts making going c before mid may fits names it.content files_at earlier s is,
            tt,
          )
      by may (Err e) it = (
        tt,
        tt,
        again_refused tells world counts making going c before mid may fits names it.content files_at e
            (λ told same. never_blamed step_words c (world before)
            (subst (Blames step_words c (world before)) same (it.damage told))) it.undamaged
            (λ told. let calls = it.calls told (arcs_of making.n making.operands making.number) names in
            omega (arith, calls))
            (sort_shelf_on (counts before) (counts mid) e (Err e) refl it.faults),
      )

module _ {S : Type 0} (tells : S → Bool) (world : S → World) (counts : S → Faults) (making : Making) (c : Checkpoint)
    (before mid : S) where
  -- it is none of such a sweep
  pub begun_foreign : (going : Going) → going.last ≡ Some c → MaySweep making.number going → (Fits step_words c
      → Names step_words c (arcs_of making.n making.operands making.number) → ⊥) → (e : SortFault) → e ≢ RunsSpent
      → Told tells before mid (Ran (Stays (now (world before))) (world before) (world mid))
      → OnlySortShelf {T = Unit} (counts before) (counts mid) (Err e)
      → SweepsArcs tells world counts making going going before mid (Err e)
  begun_foreign going last may never e not_spent content faults =
      subst (λ o. MaySweep making.number (record going { last = o })
      → SweepsArcs tells world counts making (record going { last = o }) (record going { last = o }) before mid (Err e))
      (sym last) (λ may. foreign_refused tells world counts making going c before mid may never e not_spent content
      (sort_shelf_on (counts before) (counts mid) e (Err e) refl faults)) may
