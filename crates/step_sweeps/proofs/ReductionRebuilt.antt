-- A reduction that is rebuilt from a step's last checkpoint.
use Rattle.std.proofs.Common.{◌≡◌, ◌≢◌, ◌∙◌, ℕ, ◌+◌, ◌-◌, ◌*◌, ◌^◌, ◌≤◌, Bool, IsTrue, [], refl, ap, sym, subst, inl, inr, arith}
use Rattle.std.proofs.lemmas.List.Elements.{All-get_or}
use Rattle.std.specs.Prelude.{Some, Result, Ok, Err, IfOk, IfErr, length}
use Rattle.shelf_model.specs.declared.file_no.FileNo.{FileNo}
use Rattle.shelf_model.specs.declared.sort_fault.SortFault.{SortFault}
use Rattle.shelf_model.specs.declared.sort_fault.SortFault.TheVariants.{RunsSpent}
use Rattle.shelf_model.specs.Calls.{Told}
use Rattle.shelf_model.specs.Faults.{Faults}
use Rattle.shelf_model.specs.Folder.{AreFiles}
use Rattle.shelf_model.specs.Moments.{Ran, Stays, Throughout}
use Rattle.shelf_model.specs.World.{Moment, World, now}
use Rattle.shelf_model.proofs.Runs.{told, ran_end, ran_weakens}
use Rattle.run_tiers.specs.declared.run.Run.{Run}
use Rattle.run_tiers.specs.declared.run.RunTable.{RunTable}
use Rattle.run_tiers.specs.Faults.{OnlySortShelf}
use Rattle.run_tiers.specs.Tables.{IsInUse}
use Rattle.run_tiers.proofs.FaultLaws.{sort_shelf_on}
use Rattle.run_merge.specs.Tables.{IsBeforeEnd}
use Rattle.step_going.specs.Standing.{AreSafe, IsStanding, StandsIn}
use Rattle.step_going.proofs.Kept.{MadeSure, safe_rebuilt, standing_rebuilt}
use Rattle.step_going.proofs.Shown.{quiet_stops}
use Rattle.sweep_checkpoint.specs.Gated.{present}
use Rattle.sweep_checkpoint.specs.Going.{first_owed}
use Rattle.sweep_checkpoint.specs.declared.going.Going.{Going}
use Rattle.sweep_checkpoint.specs.Stops.{SamePoints}
use Rattle.sweep_core.specs.declared.checkpoint.Checkpoint.{Checkpoint}
use Rattle.sweep_core.specs.Accounts.{NoneFilled}
use Rattle.sweep_core.specs.Carries.{OnlyCutBehind}
use Rattle.sweep_core.specs.Saving.{IsOfStep, reads_of}
use Rattle.sweep_core.specs.Sweeps.{IsNoDamage}
use Rattle.sweep_core.specs.Tables.{records_named}
use Rattle.resumable.specs.Diagrams.{diagram_rests}
use Rattle.resumable.specs.Points.{ReducesFrom}
use Rattle.resumable.proofs.DiagramPoints.{diagram_local, reduces_from}
use Rattle.resumable.proofs.MadeFronts.{diagram_there}
use Rattle.resumable.proofs.Rests.{reductions_local}
use Rattle.canon_file.specs.Laws.{HasForm}
use Rattle.reduce_sweep.specs.declared.phase.Phase.{Phase}
use Rattle.reduce_sweep.specs.declared.phase.Phase.TheVariants.{Between, Collect, Number, Forward, Ended}
use Rattle.reduce_sweep.specs.declared.reduce.ReduceSweep.{ReduceSweep}
use Rattle.reduce_sweep.specs.Calls.{IsInStep}
use Rattle.reduce_sweep.specs.Remaining as sweep
use Rattle.reduce_sweep.specs.Resumes as resumes
use Rattle.reduce_sweep.specs.ResumeLaws.{one_reduction}
use Rattle.reduce_sweep.specs.SavedTables.{IsSavedTable, AreSavedTables, IsRunFront}
use Rattle.reduce_sweep.specs.Sweeps as reduce
use Rattle.step_sweeps.specs.declared.task.Making.{Making}
use Rattle.step_sweeps.specs.Given.{Tables}
use Rattle.step_sweeps.specs.Going.{next_of, rest_calls}
use Rattle.step_sweeps.specs.Kinds.{reduce_kind}
use Rattle.step_sweeps.specs.Made.{node_file, OnlyStep}
use Rattle.step_sweeps.specs.Makes.{IsGivenFor, goes_on_by, table_by, work_for, operand_nodes}
use Rattle.step_sweeps.specs.Reduced.{ReducesTo}
use Rattle.step_sweeps.specs.Started.{Starts, MayRun, IsUnderWay}
use Rattle.step_sweeps.specs.Stops.{shown_by, sweeps_stop}
use Rattle.step_sweeps.specs.Sweeping.{MayResume, Sweeps, IsReductionFor, most_turns, owed_parts}
use Rattle.step_sweeps.proofs.Rebuilt.{made_sure, sure_still, all_sure}
use Rattle.step_sweeps.proofs.Running.{stays_step}
use Rattle.step_sweeps.proofs.Stops.{along_cuts, given_shows}
use Rattle.step_sweeps.proofs.Unfilled.{none_cut}

-- a run's part is none of the file that is made
not_a_run : (c : Checkpoint) (part : ℕ) (table : RunTable) (f : FileNo) (n : ℕ) → IsSavedTable c part table
    → IsBeforeEnd c.step table f n → f.part ≢ part
not_a_run c part table f n saved (slot, r, within, is, (in_use, file_is, front)) same =
    let other : r.part ≢ part = subst (λ (q : Run). IsInUse q → q.part ≢ part) is
    (All-get_or (λ (q : Run). IsInUse q → q.part ≢ part) table.runs slot r within saved.apart) in_use in
    other (sym (ap (λ (g : FileNo). g.part) file_is) ∙ same)

not_of_runs : (c : Checkpoint) (part : ℕ) (f : FileNo) (n : ℕ) → AreSavedTables c part → IsRunFront c f n
    → f.part ≢ part
not_of_runs c part f n tables (k, below, before) =
    let count = tables.count in
    not_a_run c part _ f n (tables.each k (omega (arith, below, count))) before

kept_other : (p : Phase) (c : Checkpoint) (x : _) (f : FileNo) (n : ℕ) → resumes.IsKeptAt p c x
    → IsRunFront c f n → f.part ≢ x.out.part
kept_other Between c x f n kept run = not_of_runs c x.out.part f n kept run
kept_other (Collect s) c x f n kept run = not_of_runs c x.out.part f n kept run
kept_other (Number s) c x f n kept run = not_of_runs c x.out.part f n kept run
kept_other Forward c x f n kept run = not_of_runs c x.out.part f n kept run
kept_other (Ended count) c x f n kept (k, below, before) =
    let none = kept.no_tables in absurd (omega (arith, none, below))

-- so of that file a checkpoint rests on the nodes that are kept alone
kept_most : (c : Checkpoint) (x : _) (p : Phase) (f : FileNo) (n : ℕ) → resumes.KeepsRules c x p
    → resumes.IsRest c x f n → f ≡ x.out → n ≤ 24 * x.kept
kept_most c x p f n rules (inl (inl (is, some))) same = absurd (rules.inner_apart (sym is ∙ same))
kept_most c x p f n rules (inl (inr (is, some))) same = absurd (rules.ends_apart (sym is ∙ same))
kept_most c x p f n rules (inr (inl (is, few))) same = few
kept_most c x p f n rules (inr (inr run)) same =
    absurd (kept_other p c x f n rules.kept_at run (ap (λ (g : FileNo). g.part) same))

rests_most : (c : Checkpoint) (fits : resumes.Fits c) (f : FileNo) (n : ℕ) → resumes.RestsOn c f n
    → f ≡ fits.saved.out → n ≤ 24 * fits.saved.kept
rests_most c fits f n on same = kept_most c fits.saved fits.phase f n fits.rules
    (subst (λ x. resumes.IsRest c x f n) (one_reduction c on.saved fits.saved on.holds fits.holds) on.rests)
    same

-- the task that a checkpoint names is that of which it says more
pub task_made : (making : Making) (c : Checkpoint) (task : reduce.Task) → resumes.Names c task → IsReductionFor making c
    → (task.out ≡ node_file making.number) × (task.variables ≡ making.n)
task_made making c task names is =
    let one = one_reduction c names.saved is.makes.saved names.holds is.makes.holds in (
      sym names.out_is ∙ (λ i. (one i).out) ∙ is.makes.out_is,
      sym names.variables_are ∙ (λ i. (one i).variables) ∙ is.makes.variables_are,
    )

pub task_own : (making : Making) (c : Checkpoint) (task : reduce.Task) → resumes.Names c task → IsReductionFor making c
    → (task.inner.step ≡ making.number) × (task.ends.step ≡ making.number)
task_own making c task names is =
    let one = one_reduction c names.saved is.own.saved names.holds is.own.holds in
    let step : FileNo → ℕ = λ f. f.step in (
      ap step (sym names.inner_is ∙ (λ i. (one i).arcs.inner)) ∙ is.own.inner_own,
      ap step (sym names.ends_are ∙ (λ i. (one i).arcs.ends)) ∙ is.own.ends_own,
    )

-- what is said of a reduction that was rebuilt from a checkpoint
pub record WasRebuilt {S : Type 0} (tells : S → Bool) (world : S → World) (counts : S → Faults) (c : Checkpoint)
    (s : ReduceSweep) (old mid : S) : Type 0 where
  pub ready : reduce.IsSound s
  pub in_step : IsTrue (tells mid) → IsInStep s (world mid)
  pub parts : (s.parts.step ≡ c.step) × (s.parts.next ≡ c.next_part)
  pub files : IsOfStep (reduce.accounts.makes s) (resumes.IsOperand (reduce.task_of s)) s.parts.step s.parts.next
  pub operands : (f : FileNo) → resumes.IsOperand (reduce.task_of s) f → (n : ℕ) → resumes.RestsOn c f n
  pub names : resumes.Names c (reduce.task_of s)
  pub remains : IsTrue (tells mid) → (d : sweep.Diagram) (turns : ℕ)
      → resumes.StandsFor c (reads_of (world old)) d turns
      → (sweep.RemainsOf s (world mid) d) × (reduce.turns_left s ≤ turns)
  pub content : Told tells old mid (Ran (OnlyCutBehind c (resumes.RestsOn c) (now (world old))) (world old) (world mid))
  pub calls : IsTrue (tells mid) → (task : reduce.Task) → resumes.Names c task
      → (world mid).clock ≤ (world old).clock + 2 ^ 20 + 0
  pub credit : reduce.credit_of s ≤ 64 * records_named c
  pub stock : reduce.stock_of s ≤ 50688
  pub faults : OnlySortShelf (counts old) (counts mid) (Ok s)

-- what is said where none was
pub record WasRefused {S : Type 0} (tells : S → Bool) (world : S → World) (counts : S → Faults) (c : Checkpoint)
    (r : Result ReduceSweep SortFault) (old mid : S) : Type 0 where
  pub not_spent : IfErr r (λ e. e ≢ RunsSpent)
  pub undamaged : IfErr r (λ e. IsTrue (tells mid) → (d : sweep.Diagram) (turns : ℕ)
      → resumes.StandsFor c (reads_of (world old)) d turns → IsNoDamage e)
  pub content : Told tells old mid (Ran (OnlyCutBehind c (resumes.RestsOn c) (now (world old))) (world old) (world mid))
  pub calls : IsTrue (tells mid) → (task : reduce.Task) → resumes.Names c task
      → (world mid).clock ≤ (world old).clock + 2 ^ 20 + 0
  pub faults : OnlySortShelf (counts old) (counts mid) r

module _ (making : Making) (going : Going) (may : MayResume making.number going) (second : going.sweep ≡ 1) where
  abbrev c : Checkpoint
  c = may.point

  pub of_second : c.sweep ≡ 1
  of_second = sym may.at_point.sweep_is ∙ second

  pub of_number : c.step ≡ making.number
  of_number = may.at_point.rules.step_is ∙ may.step_is

  -- a step that is given its tables stands with the checkpoint, and that is one of a reduction
  module _ (world : World) (g : Tables) (given : IsGivenFor making going world g) where
    pub stands : StandsIn (goes_on_by making g) diagram_rests making.number c.next_part
        (now world).folder c
    stands = subst (λ last. IsStanding (goes_on_by making g) diagram_rests making.number
        (next_of last) (now world).folder last) may.at_point.last_is given.standing

    pub from : ReducesFrom making.n making.number (table_by making g) (work_for making g)
        (present (now world).folder) c
    from = reduces_from making.operation making.n making.operands making.number g
        (present (now world).folder) c stands.last of_second stands.goes_on

    pub within : (f : FileNo) (n : ℕ) → diagram_rests c f n → resumes.RestsOn c f n
    within f n = reductions_local.told c [] of_second from.goes.fits f n

    pub sure_to_be : MadeSure diagram_rests (resumes.RestsOn c) (now world).folder c
    sure_to_be = made_sure (goes_on_by making g) diagram_rests making.number c.next_part
        (resumes.RestsOn c) c (now world).folder stands
        (λ f n on made. elim (diagram_there making.operation making.n making.operands making.number g
        (present (now world).folder) c stands.goes_on stands.last f n on) [
          | inl long ↦ inl long
          | inr all ↦ inr (λ k. within f k (all k))
        ])

    -- of the file that is made as many bytes are there as the checkpoint rests on
    pub out_there : (s : ReduceSweep) → resumes.Names c (reduce.task_of s) → (f : FileNo) (n : ℕ) → diagram_rests c f n
        → f ≡ reduce.out_of s → n ≤ length (present (now world).folder f)
    out_there s names f n on mine =
        let fits = from.goes.fits in
        let one = one_reduction c names.saved fits.saved names.holds fits.holds in
        let same : reduce.out_of s ≡ fits.saved.out = sym names.out_is ∙ (λ i. (one i).out) in
        elim (diagram_there making.operation making.n making.operands making.number g
        (present (now world).folder) c stands.goes_on stands.last f n on) [
          | inl long ↦ long
          | inr all ↦ (let most = rests_most c fits f (24 * fits.saved.kept + 1)
              (within f (24 * fits.saved.kept + 1) (all (24 * fits.saved.kept + 1))) (mine ∙ same) in
              absurd (omega (arith, most)))
        ]

  -- a step that can't go on with a reduction from the checkpoint isn't given its tables
  pub none_given : (world : World) → (resumes.Fits c → IsReductionFor making c → ⊥)
      → (g : Tables) → ¬ (IsGivenFor making going world g)
  none_given world never g given =
      let point = from world g given in
      let names = point.goes.names in
      let step : FileNo → ℕ = λ f. f.step in
      never point.goes.fits (record {
        makes = point.makes;
        own = record {
          saved = names.saved;
          holds = names.holds;
          inner_own = ap step names.inner_is ∙ point.inner_own;
          ends_own = ap step names.ends_are ∙ point.ends_own;
        };
      })

  -- what cuts files behind the checkpoint changes those of the step alone, and each image is safe meanwhile
  module _ {S : Type 0} (tells : S → Bool) (world : S → World) (old mid : S)
      (files_are : IsTrue (tells old) → AreFiles (now (world old)).folder)
      (cut : Told tells old mid (Ran (OnlyCutBehind c (resumes.RestsOn c) (now (world old))) (world old) (world mid)))
    where
      pub cut_content : Told tells old mid (Ran (OnlyStep making.number (now (world old))) (world old) (world mid))
      cut_content = told tells old mid _ _ cut (λ _ run. ran_weakens (world old) (world mid)
          (OnlyCutBehind c (resumes.RestsOn c) (now (world old))) (OnlyStep making.number (now (world old)))
          (λ x only f outside. only.unmade f (λ made. outside (made.step_is ∙ of_number))) run)

      -- the checkpoints and their gate stay
      pub cut_points : IsTrue (tells mid) → Throughout (world old) (world mid)
          (λ (x : Moment). SamePoints making.number (now (world old)).folder x.folder)
      cut_points told_mid = along_cuts making.number c (resumes.RestsOn c) (world old) (world mid) of_number
          (cut.did told_mid)

      pub cut_safe : IsTrue (tells mid) → (g : Tables) → IsGivenFor making going (world old) g
          → Throughout (world old) (world mid)
          (λ (x : Moment). AreSafe (goes_on_by making g) making.number x.folder)
      cut_safe told_mid g given = safe_rebuilt (goes_on_by making g) diagram_rests making.number
          (diagram_local making.operation making.n making.operands making.number g) (resumes.RestsOn c)
          c.next_part (world old) (world mid) c (files_are (cut.before told_mid)) (cut.did told_mid)
          (within (world old) g given) (sure_to_be (world old) g given) (stands (world old) g given)

  module _ {S : Type 0} (tells : S → Bool) (world : S → World) (counts : S → Faults) (old mid : S) where
    -- the checkpoint is none of such a reduction
    pub foreign_refused : (resumes.Fits c → IsReductionFor making c → ⊥) → (e : SortFault)
        → e ≢ RunsSpent → Told tells old mid (Ran (Stays (now (world old))) (world old) (world mid))
        → OnlySortShelf {T = Unit} (counts old) (counts mid) (Err e)
        → Sweeps tells world counts making going old mid (Err e)
    foreign_refused never e not_spent content faults = record {
      made = tt;
      undamaged = λ told g given. absurd (none_given (world old) never g given);
      spent = λ was told g given. absurd (none_given (world old) never g given);
      few_calls = λ told g given. absurd (none_given (world old) never g given);
      images = λ told g given. absurd (none_given (world old) never g given);
      stops = λ told g given. absurd (none_given (world old) never g given);
      damaged = λ told anew none. absurd (let last_is = may.at_point.last_is in cc);
      content = stays_step tells world making.number old mid content;
      counted = tt;
      few_anew = tt;
      untaken = tt;
      calls = tt;
      faults = sort_shelf_on _ _ e (Err e) refl faults;
    }

    -- or it couldn't be rebuilt
    pub rebuild_refused : (files_are : IsTrue (tells old) → AreFiles (now (world old)).folder)
        → (r : Result ReduceSweep SortFault) → WasRefused tells world counts c r old mid
        → IfErr r (λ e. Sweeps tells world counts making going old mid (Err e))
    rebuild_refused files_are (Ok s) it = tt
    rebuild_refused files_are (Err e) it = record {
      made = tt;
      undamaged = λ told g given.
          let point = from (world old) g given in
          it.undamaged told point.diagram point.goes.left point.goes.stands;
      spent = λ was told. absurd (let same : e ≡ RunsSpent = cc in it.not_spent same);
      few_calls = λ told g given. subst (λ last. (world mid).clock + 229 * going.turns ≤ (world old).clock
          + (229 * most_turns last making going g + 11 + rest_calls last (operand_nodes making (reads_of (world old)))))
          (sym may.at_point.last_is)
          (let point = from (world old) g given in
          let few = point.few in
          let turns_are = may.at_point.turns_are in
          let made = it.calls told point.task point.goes.names in
          omega (arith, few, turns_are, made));
      images = cut_safe tells world old mid files_are it.content;
      stops = λ told g given within.
          let point = from (world old) g given in
          let made = it.calls told point.task point.goes.names in
          quiet_stops making.number (shown_by going.last) _ (world old) (world mid)
          (given_shows making going (world old) g given) (cut_points tells world old mid files_are it.content told)
          (subst (λ last. (world mid).clock ≤ (world old).clock
          + (sweeps_stop + rest_calls last (operand_nodes making (reads_of (world old))))) (sym may.at_point.last_is)
          (omega (arith, made)));
      damaged = λ told anew none. absurd (let last_is = may.at_point.last_is in cc);
      content = cut_content tells world old mid files_are it.content;
      counted = tt;
      few_anew = tt;
      untaken = tt;
      calls = tt;
      faults = sort_shelf_on _ _ e (Err e) refl it.faults;
    }

  module _ {S : Type 0} (tells : S → Bool) (world : S → World) (counts : S → Faults) (s : ReduceSweep) (old mid : S)
      (files_are : IsTrue (tells old) → AreFiles (now (world old)).folder)
      (rebuilt : WasRebuilt tells world counts c s old mid) where
    -- it may be run and saved
    pub may_run : MayRun reduce_kind making.number going s
    may_run =
        let shown_is = may.shown_is in
        let budget = may.budget in
        let next_is = rebuilt.parts.1 in
        let paid = may.at_point.paid in
        let turns_are = may.at_point.turns_are in
        let stock = rebuilt.stock in
        record {
          ready = rebuilt.ready;
          works = inr (omega (arith, shown_is));
          step_is = rebuilt.parts.0 ∙ of_number;
          files = subst (λ k. IsOfStep (reduce.accounts.makes s) (resumes.IsOperand (reduce.task_of s)) k s.parts.next)
              (rebuilt.parts.0 ∙ of_number) rebuilt.files;
          paid = record {
            interval = omega (arith, budget);
            shown = omega (arith, shown_is);
            paid = omega (arith, next_is, paid, turns_are, shown_is, stock);
          };
        }

    module _ (told_mid : IsTrue (tells mid)) (g : Tables) (given : IsGivenFor making going (world old) g) where
      stands_mid : StandsIn (goes_on_by making g) diagram_rests making.number c.next_part
          (now (world mid)).folder c
      stands_mid = standing_rebuilt (goes_on_by making g) diagram_rests making.number
          (diagram_local making.operation making.n making.operands making.number g) (resumes.RestsOn c)
          c.next_part (now (world old)) (now (world mid)) c (files_are (rebuilt.content.before told_mid))
          (ran_end (world old) (world mid) (OnlyCutBehind c (resumes.RestsOn c) (now (world old)))
          (rebuilt.content.did told_mid)) (within (world old) g given) (sure_to_be (world old) g given)
          (stands (world old) g given)

      -- so the reduction is under way
      pub on_the_way : IsUnderWay reduce_kind making g going.last (from (world old) g given).diagram s
          (world mid)
      on_the_way = record {
        remains = (rebuilt.remains told_mid (from (world old) g given).diagram (from (world old) g given).goes.left
            (from (world old) g given).goes.stands).0;
        operands = λ f is. all_sure (world mid) f (λ n. stands_mid.sure f n
            (reductions_local.said c [] of_second (from (world old) g given).goes.fits f n (rebuilt.operands f is n)));
        standing = subst (λ last. IsStanding (goes_on_by making g) diagram_rests making.number
            s.parts.next (now (world mid)).folder last) (sym may.at_point.last_is)
            (subst (λ k. StandsIn (goes_on_by making g) diagram_rests making.number k
            (now (world mid)).folder c) (sym rebuilt.parts.1) stands_mid);
        sure = λ d is f n on mine.
            let same : c ≡ d = the_same d (sym may.at_point.last_is ∙ is) in
            sure_still (goes_on_by making g) diagram_rests making.number c.next_part
            (resumes.RestsOn c) c (reduce.accounts.makes s) (now (world old)) (now (world mid))
            (ran_end (world old) (world mid) (OnlyCutBehind c (resumes.RestsOn c) (now (world old)))
            (rebuilt.content.did told_mid)) stands_mid (within (world old) g given) (out_there (world old) g given s rebuilt.names) f n
            (subst (λ (e : Checkpoint). diagram_rests e f n) (sym same) on) mine;
      }
        where
          the_same : (d : Checkpoint) → Some c ≡ Some d → c ≡ d
          the_same d is = cc

    -- and so it starts
    pub starts_so : Starts tells world counts reduce_kind (λ g job p. ReducesTo making g job p) (λ g. work_for making g - 1)
        0 making going old mid s
    starts_so = record {
      may = may_run;
      in_step = rebuilt.in_step;
      under_way = λ told_mid g given.
          let point = from (world old) g given in
          let one = one_reduction c rebuilt.names.saved point.goes.names.saved rebuilt.names.holds
          point.goes.names.holds in
          let step : FileNo → ℕ = λ f. f.step in
          let left = (rebuilt.remains told_mid point.diagram point.goes.left point.goes.stands).1 in
          let few = point.few in
          let turns_are = may.at_point.turns_are in (
            point.diagram,
            record {
              table_is = point.table_is;
              form = subst (HasForm making.n) (sym point.table_is) point.form;
              inner_own = ap step (sym rebuilt.names.inner_is ∙ (λ i. (one i).arcs.inner) ∙ point.goes.names.inner_is)
                  ∙ point.inner_own;
              ends_own = ap step (sym rebuilt.names.ends_are ∙ (λ i. (one i).arcs.ends) ∙ point.goes.names.ends_are)
                  ∙ point.ends_own;
            },
            on_the_way told_mid g given,
            omega (arith, left, few, turns_are),
          );
      images = cut_safe tells world old mid files_are rebuilt.content;
      content = cut_content tells world old mid files_are rebuilt.content;
      within = let next_is = rebuilt.parts.1 in let most = may.at_point.rules.parts.1 in omega (arith, next_is, most);
      untaken = λ told_mid. subst (λ k. NoneFilled making.number k (world old) (world mid)) (sym rebuilt.parts.1)
          (none_cut c (resumes.RestsOn c) making.number (world old) (world mid) of_number may.at_point.rules.parts.0
          (rebuilt.content.did told_mid));
      owed = subst (λ last. s.parts.next ≤ first_owed last s.parts.next) (sym may.at_point.last_is)
          (let next_is = rebuilt.parts.1 in omega (arith, next_is));
      stock = subst (λ last. reduce.stock_of s ≤ 256 * owed_parts last) (sym may.at_point.last_is)
          (let stock = rebuilt.stock in omega (arith, stock));
      calls = λ told_mid. subst (λ last. (world mid).clock + reduce.credit_of s + 2 * owed_parts last
          ≤ (world old).clock + (0 + rest_calls last (operand_nodes making (reads_of (world old)))))
          (sym may.at_point.last_is)
          (let calls = rebuilt.calls told_mid (reduce.task_of s) rebuilt.names in
          let credit = rebuilt.credit in
          omega (arith, calls, credit));
      points = cut_points tells world old mid files_are rebuilt.content;
      faults = rebuilt.faults;
    }

-- the same of what a rebuild answers
module _ (making : Making) (going : Going) (may : MayResume making.number going) (second : going.sweep ≡ 1)
    {S : Type 0} (tells : S → Bool) (world : S → World) (counts : S → Faults) (old mid : S)
    (files_are : IsTrue (tells old) → AreFiles (now (world old)).folder) where
  pub starts_of : (r : Result ReduceSweep SortFault)
      → ((s : ReduceSweep) → r ≡ Ok s → WasRebuilt tells world counts may.point s old mid)
      → IfOk r (λ s. Starts tells world counts reduce_kind (λ g job p. ReducesTo making g job p)
      (λ g. work_for making g - 1) 0 making going old mid s)
  starts_of (Ok s) rebuilt = starts_so making going may second tells world counts s old mid files_are (rebuilt s refl)
  starts_of (Err e) rebuilt = tt
