-- The sweep that makes a step's arcs, rebuilt from the step's last checkpoint.
use Rattle.std.proofs.Common.{◌≡◌, ◌≢◌, ◌∙◌, ℕ, ◌+◌, ◌*◌, ◌^◌, ◌/◌, ◌≤◌, Bool, List, [], ap, sym, subst, refl, inr, arith}
use Rattle.std.specs.Prelude.{IsTrue, Some, Ok, Err}
use Rattle.shelf_model.specs.declared.file_no.FileNo.{FileNo}
use Rattle.shelf_model.specs.declared.sort_fault.SortFault.{SortFault}
use Rattle.shelf_model.specs.declared.sort_fault.SortFault.TheVariants.{RunsSpent}
use Rattle.shelf_model.specs.Calls.{Told}
use Rattle.shelf_model.specs.Faults.{Faults}
use Rattle.shelf_model.specs.Folder.{AreFiles}
use Rattle.shelf_model.specs.Moments.{Ran, Stays, Throughout}
use Rattle.shelf_model.specs.World.{Moment, World, now}
use Rattle.shelf_model.proofs.Runs.{told, ran_weakens, ran_end}
use Rattle.run_tiers.specs.Faults.{OnlySortShelf}
use Rattle.step_going.specs.Standing.{IsLocal, StandsIn}
use Rattle.step_going.proofs.Kept.{MadeSure, standing_rebuilt, safe_rebuilt}
use Rattle.step_going.proofs.Shown.{quiet_stops}
use Rattle.sweep_checkpoint.specs.Stops.{SamePoints}
use Rattle.sweep_checkpoint.specs.declared.going.Going.{Going}
use Rattle.sweep_core.specs.declared.checkpoint.Checkpoint.{Checkpoint}
use Rattle.sweep_core.specs.Accounts.{NoneFilled}
use Rattle.sweep_core.specs.Carries.{OnlyCutBehind}
use Rattle.sweep_core.specs.Saving.{IsOfStep, reads_of}
use Rattle.sweep_core.specs.Sweeps.{IsNoDamage}
use Rattle.sweep_core.specs.Tables.{records_named}
use Rattle.tuple_asks.specs.declared.files.Files.{Files}
use Rattle.sweep_operations.specs.declared.steps.StepOperation.{StepOperation}
use Rattle.top_down_sweep.specs.ResumeLaws.{one_machine}
use Rattle.tuple_asks.specs.Resuming.{saved_files}
use Rattle.top_down_sweep.specs.Resumes.{Names, RestsOn, Fits}
use Rattle.top_down_sweep.specs.Sweeps.{SweepTask, IsMade, files_of, task_of}
use Rattle.tuple_asks.specs.Operands.{IsRead}
use Rattle.table_work.specs.declared.sweep.TableSweep.{TableSweep}
use Rattle.table_work.specs.Jobs.{TableWork}
use Rattle.table_work.specs.Tables.{sweep_of, work_of}
use Rattle.resumable.specs.Diagrams.{arcs_of, arcs_saving, step_words, diagram_rests}
use Rattle.resumable.specs.Points.{ArcsFrom}
use Rattle.resumable.proofs.DiagramPoints.{diagram_local, makes_arcs_from}
use Rattle.resumable.proofs.MadeFronts.{AreThere, arcs_there}
use Rattle.resumable.proofs.Rests.{arcs_rests}
use Rattle.step_sweeps.specs.declared.arcs.MadeArcs.{MadeArcs}
use Rattle.step_sweeps.specs.declared.task.Making.{Making}
use Rattle.step_sweeps.specs.Given.{Tables, AreEarlier}
use Rattle.step_sweeps.specs.Kinds.{arcs_kind}
use Rattle.step_sweeps.specs.Made.{OnlyStep}
use Rattle.step_sweeps.specs.Makes.{IsGivenFor, goes_on_by, operand_nodes}
use Rattle.step_sweeps.specs.Started.{IsUnderWay, Starts}
use Rattle.step_sweeps.specs.Sweeping.{MaySweep, SweepsArcs, arcs_most}
use Rattle.step_sweeps.proofs.ArcsPoints.{front_there}
use Rattle.step_sweeps.proofs.ArcsStart.{read_firm}
use Rattle.step_sweeps.proofs.Rebuilt.{made_sure, sure_still}
use Rattle.step_sweeps.proofs.Running.{earlier_stays, stays_step}
use Rattle.step_sweeps.proofs.Stops.{along_cuts, given_shows}
use Rattle.step_sweeps.proofs.UnderWay.{IsSafeAt}
use Rattle.step_sweeps.proofs.Unfilled.{none_cut}

-- the words of a checkpoint are those of one task
one_task : (c : Checkpoint) (t u : SweepTask) → Names step_words c t → Names step_words c u → t ≡ u
one_task c t u first second =
    let same = one_machine step_words c first.saved second.saved first.operation second.operation first.holds second.holds in
    λ i. record {
      files = (sym first.files_are ∙ (λ j. saved_files (same j)) ∙ second.files_are) i;
      variables = (sym first.variables_are ∙ (λ j. (same j).variables) ∙ second.variables_are) i;
    }

-- a rebuild changes files of the step alone
pub cut_step : {S : Type 0} (tells : S → Bool) (world : S → World) (c : Checkpoint) (held : FileNo → ℕ → Type 0)
    (before mid : S) → Told tells before mid (Ran (OnlyCutBehind c held (now (world before))) (world before) (world mid))
    → Told tells before mid (Ran (OnlyStep c.step (now (world before))) (world before) (world mid))
cut_step tells world c held before mid content = told tells before mid _ _ content
    (λ _ ran. ran_weakens (world before) (world mid) (OnlyCutBehind c held (now (world before)))
    (OnlyStep c.step (now (world before))) (λ m only f outside. only.unmade f (λ made. outside made.step_is)) ran)

module _ {S : Type 0} (tells : S → Bool) (world : S → World) (counts : S → Faults) (making : Making) (base : Going)
    (c : Checkpoint) (before mid : S) where
  -- it goes on from that checkpoint
  abbrev pub again : Going
  again = record base { last = Some c }

  abbrev Q : Tables → (FileNo → List ℕ) → Type 0
  Q g r = goes_on_by making g r

  module _ (may : MaySweep making.number again) (fits : Fits step_words c)
      (names : Names step_words c (arcs_of making.n making.operands making.number))
      (content : Told tells before mid
      (Ran (OnlyCutBehind c (RestsOn step_words c) (now (world before))) (world before) (world mid)))
      (files_at : IsTrue (tells before) → AreFiles (now (world before)).folder) where
    step_is : c.step ≡ making.number
    step_is = may.come_to.0.rules.step_is ∙ may.step_is

    first : c.sweep ≡ 0
    first = sym may.come_to.0.sweep_is ∙ may.sweep_is

    pub again_content : Told tells before mid
        (Ran (OnlyStep making.number (now (world before))) (world before) (world mid))
    again_content = subst (λ k. Told tells before mid (Ran (OnlyStep k (now (world before))) (world before) (world mid)))
        step_is (cut_step tells world c (RestsOn step_words c) before mid content)

    -- the checkpoints and their gate stay
    again_points : IsTrue (tells mid) → Throughout (world before) (world mid)
        (λ (m : Moment). SamePoints making.number (now (world before)).folder m.folder)
    again_points told = along_cuts making.number c (RestsOn step_words c) (world before) (world mid) step_is
        (content.did told)

    module _ (told : IsTrue (tells mid)) (g : Tables) (given : IsGivenFor making again (world before) g) where
      from : ArcsFrom making.operation making.n making.operands making.number g (reads_of (world before)) c
      from = makes_arcs_from making.operation making.n making.operands making.number g
          (reads_of (world before)) c given.standing.last first may.come_to.1 given.standing.goes_on

      within : (f : FileNo) (k : ℕ) → diagram_rests c f k → RestsOn step_words c f k
      within f k = arcs_rests c f k from.goes.sweep_is fits

      -- the arcs that were put are there
      there : AreThere (RestsOn step_words c) (reads_of (world before))
      there = arcs_there c [] (reads_of (world before)) (work_of making.operation making.n g) from.goes.left fits
          from.goes.stands

      local : IsLocal (Q g) diagram_rests making.number
      local = diagram_local making.operation making.n making.operands making.number g

      sure : MadeSure diagram_rests (RestsOn step_words c) (now (world before)).folder c
      sure = made_sure (Q g) diagram_rests making.number c.next_part (RestsOn step_words c) c
          (now (world before)).folder given.standing (λ f k on made. there f k (within f k on))

      pub again_safe : Throughout (world before) (world mid) (IsSafeAt making g)
      again_safe = safe_rebuilt (Q g) diagram_rests making.number local (RestsOn step_words c) c.next_part
          (world before) (world mid) c (files_at (content.before told)) (content.did told) within sure given.standing

      only : OnlyCutBehind c (RestsOn step_words c) (now (world before)) (now (world mid))
      only = ran_end (world before) (world mid) (OnlyCutBehind c (RestsOn step_words c) (now (world before)))
          (content.did told)

      stands : StandsIn (Q g) diagram_rests making.number c.next_part (now (world mid)).folder c
      stands = standing_rebuilt (Q g) diagram_rests making.number local (RestsOn step_words c) c.next_part
          (now (world before)) (now (world mid)) c (files_at (content.before told)) only within sure given.standing

      -- and the sweep is under way
      pub again_way : AreEarlier making.number making.operands → (s : TableSweep StepOperation)
          → (sweep_of s).machine.parts.next ≡ c.next_part
          → IsOfStep (IsMade (files_of (sweep_of s))) (IsRead (files_of (sweep_of s))) making.number c.next_part
          → task_of (sweep_of s) ≡ arcs_of making.n making.operands making.number
          → arcs_kind.remains s (world mid) (work_of making.operation making.n g)
          → IsUnderWay arcs_kind making g (Some c) (work_of making.operation making.n g) s (world mid)
      again_way earlier s next files task remains =
          let are : files_of (sweep_of s) ≡ (arcs_of making.n making.operands making.number).files =
          ap (λ (t : SweepTask). t.files) task in
          record {
            remains = remains;
            operands = λ f read. read_firm making (files_of (sweep_of s)) (world before) (world mid) f earlier are
                given.firm (earlier_stays making.number (world before) (world mid) (again_content.did told)) read;
            standing = subst (λ k. StandsIn (Q g) diagram_rests making.number k (now (world mid)).folder c)
                (sym next) stands;
            sure = λ d is f k on mine.
                let same : c ≡ d = cc in
                sure_still (Q g) diagram_rests making.number c.next_part (RestsOn step_words c) c
                (IsMade (files_of (sweep_of s))) (now (world before)) (now (world mid)) only stands within
                (λ h j at made. front_there step_words c (arcs_of making.n making.operands making.number) fits names
                (reads_of (world before)) there h (subst (λ (x : Files). IsMade x h) are made) j (within h j at))
                f k (subst (λ e. diagram_rests e f k) (sym same) on) mine;
          }

    -- what a rebuild says of the sweep
    pub record Rebuilds (s : TableSweep StepOperation) : Type 0 where
      pub ready : arcs_kind.ready s
      pub in_step : IsTrue (tells mid) → arcs_kind.in_step s (world mid)
      pub step_is : arcs_kind.accounts.step s ≡ c.step
      pub next_is : arcs_kind.accounts.next s ≡ c.next_part
      pub files : IsOfStep (arcs_kind.accounts.makes s) (arcs_kind.saving.operands (arcs_kind.task s))
          (arcs_kind.accounts.step s) (arcs_kind.accounts.next s)
      pub names_it : Names step_words c (task_of (sweep_of s))
      pub remains : IsTrue (tells mid) → (job : TableWork) (turns : ℕ)
          → arcs_saving.stands c [] (reads_of (world before)) job turns
          → arcs_kind.remains s (world mid) job × (arcs_kind.left s (world mid) job ≤ turns)
      pub calls : IsTrue (tells mid) → (task : SweepTask) → Names step_words c task → (world mid).clock
          ≤ (world before).clock + 2 ^ 20 + arcs_saving.reading task (reads_of (world before))
      pub credit : arcs_kind.accounts.credit s ≤ 64 * records_named c
      pub stock : arcs_kind.accounts.stock s ≤ 50688
      pub faults : OnlySortShelf (counts before) (counts mid) (Ok s)

    module _ (earlier : AreEarlier making.number making.operands) (s : TableSweep StepOperation) (it : Rebuilds s) where
      pub again_task : task_of (sweep_of s) ≡ arcs_of making.n making.operands making.number
      again_task = one_task c (task_of (sweep_of s)) (arcs_of making.n making.operands making.number) it.names_it names

      of_step : IsOfStep (IsMade (files_of (sweep_of s))) (IsRead (files_of (sweep_of s))) making.number c.next_part
      of_step = subst (λ k. IsOfStep (IsMade (files_of (sweep_of s))) (IsRead (files_of (sweep_of s))) k c.next_part)
          (it.step_is ∙ step_is)
          (subst (λ k. IsOfStep (IsMade (files_of (sweep_of s))) (IsRead (files_of (sweep_of s)))
          (sweep_of s).machine.parts.step k) it.next_is it.files)

      pub restarts_arcs : Starts tells world counts arcs_kind (λ g job s. job ≡ work_of making.operation making.n g)
          (arcs_most making again) 8 making again before mid s
      restarts_arcs =
          let next : (sweep_of s).machine.parts.next ≡ c.next_part = it.next_is in
          let stock = it.stock in
          let shown : base.shown ≡ base.turns = may.shown_is in
          let turns : base.turns ≡ c.turns = may.come_to.0.turns_are in
          let budget = may.budget in
          let paid = may.come_to.0.paid in
          record {
            may = record {
              ready = it.ready;
              works = inr (omega (arith, shown, budget));
              step_is = it.step_is ∙ step_is;
              files = subst (λ k. IsOfStep (IsMade (files_of (sweep_of s))) (IsRead (files_of (sweep_of s)))
                  making.number k) (sym next) of_step;
              paid = record {
                interval = omega (arith, budget);
                shown = omega (arith, shown);
                paid = omega (arith, next, stock, shown, turns, paid);
              };
            };
            in_step = it.in_step;
            under_way = λ told g given.
                let at = from told g given in
                let work = work_of making.operation making.n g in
                let does = it.remains told work at.goes.left at.goes.stands in
                let few = at.few in
                let fewer = does.1 in (
                  work,
                  refl,
                  again_way told g given earlier s next of_step again_task does.0,
                  omega (arith, few, fewer, turns),
                );
            images = again_safe;
            content = again_content;
            within = let most = may.come_to.0.rules.parts.1 in omega (arith, next, most);
            untaken = λ told. subst (λ k. NoneFilled making.number k (world before) (world mid)) (sym next)
                (none_cut c (RestsOn step_words c) making.number (world before) (world mid) step_is
                may.come_to.0.rules.parts.0 (content.did told));
            owed = omega (arith, next);
            stock = omega (arith, stock);
            calls = λ told.
                let calls = it.calls told (arcs_of making.n making.operands making.number) names in
                let credit = it.credit in
                omega (arith, calls, credit);
            points = again_points;
            faults = it.faults;
          }

    -- it was refused to rebuild it
    pub again_refused : (e : SortFault) → (IsTrue (tells mid) → e ≢ RunsSpent)
        → (IsTrue (tells mid) → (job : TableWork) (turns : ℕ)
        → arcs_saving.stands c [] (reads_of (world before)) job turns → IsNoDamage e)
        → (IsTrue (tells mid) → (world mid).clock ≤ (world before).clock
        + (2 ^ 20 + operand_nodes making (reads_of (world before)) / 8))
        → OnlySortShelf {T = MadeArcs} (counts before) (counts mid) (Err e)
        → SweepsArcs tells world counts making again again before mid (Err e)
    again_refused e not_spent undamaged calls faults = record {
      going = record { step_is = refl; sweep_is = refl; budget_is = refl };
      files = tt;
      parts = tt;
      made = tt;
      undamaged = λ told g given.
          let at = from told g given in
          undamaged told (work_of making.operation making.n g) at.goes.left at.goes.stands;
      spent = λ was told. absurd (not_spent told cc);
      images = again_safe;
      damaged = λ told last. absurd (cc);
      ordered = tt;
      content = again_content;
      grew = tt;
      paid = tt;
      taken = tt;
      untaken = tt;
      recent = tt;
      calls = tt;
      few_calls = λ told g given.
          let at = from told g given in
          let few = at.few in
          let made = calls told in
          let turns : base.turns ≡ c.turns = may.come_to.0.turns_are in (
            record {
              left = at.goes.left;
              few = omega (arith, few, turns);
              takes = record { saves = 0; parts = 0; few_saves = omega arith; few_parts = omega arith };
            },
            tt,
            omega (arith, made),
          );
      stops = λ told g given few.
          let made = calls told in
          quiet_stops making.number c.turns _ (world before) (world mid) (given_shows making again (world before) g given)
          (again_points told) (omega (arith, made));
      faults = faults;
    }

  -- it is none of such a sweep
  pub foreign_refused : MaySweep making.number again → (Fits step_words c
      → Names step_words c (arcs_of making.n making.operands making.number) → ⊥) → (e : SortFault) → e ≢ RunsSpent
      → Told tells before mid (Ran (Stays (now (world before))) (world before) (world mid))
      → OnlySortShelf {T = MadeArcs} (counts before) (counts mid) (Err e)
      → SweepsArcs tells world counts making again again before mid (Err e)
  foreign_refused may never e not_spent content faults = record {
    going = record { step_is = refl; sweep_is = refl; budget_is = refl };
    files = tt;
    parts = tt;
    made = tt;
    undamaged = λ told g given. absurd (not_given g given);
    spent = λ was. absurd (not_spent cc);
    images = λ told g given. absurd (not_given g given);
    damaged = λ told last. absurd (cc);
    ordered = tt;
    content = stays_step tells world making.number before mid content;
    grew = tt;
    paid = tt;
    taken = tt;
    untaken = tt;
    recent = tt;
    calls = tt;
    few_calls = λ told g given. absurd (not_given g given);
    stops = λ told g given. absurd (not_given g given);
    faults = faults;
  }
    where
      not_given : (g : Tables) → IsGivenFor making again (world before) g → ⊥
      not_given g given =
          let from = makes_arcs_from making.operation making.n making.operands making.number g
          (reads_of (world before)) c given.standing.last (sym may.come_to.0.sweep_is ∙ may.sweep_is) may.come_to.1
          given.standing.goes_on in
          never from.goes.fits from.goes.names
