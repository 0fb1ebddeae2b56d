-- A copy that is rebuilt from a step's last checkpoint.
use Rattle.std.proofs.Common.{◌≡◌, ◌≢◌, ◌⊎◌, ◌∙◌, ℕ, ◌+◌, ◌-◌, ◌*◌, ◌^◌, ◌≤◌, Bool, IsTrue, List, [], refl, ap, sym, subst, inl, inr, arith}
use Rattle.std.specs.Prelude.{Some, Result, Ok, Err, IfOk, IfErr, length}
use Rattle.shelf_model.specs.declared.file_no.FileNo.{FileNo}
use Rattle.shelf_model.specs.declared.sort_fault.SortFault.{SortFault}
use Rattle.shelf_model.specs.declared.sort_fault.SortFault.TheVariants.{RunsSpent}
use Rattle.shelf_model.specs.Calls.{Told}
use Rattle.shelf_model.specs.Faults.{Faults}
use Rattle.shelf_model.specs.Folder.{AreFiles}
use Rattle.shelf_model.specs.Moments.{Ran, Stays, Throughout}
use Rattle.shelf_model.specs.World.{Moment, World, now}
use Rattle.shelf_model.proofs.Runs.{told, ran_end, ran_weakens}
use Rattle.canon_file.specs.Canon.{canon_bytes}
use Rattle.run_tiers.specs.Faults.{OnlySortShelf}
use Rattle.run_tiers.proofs.FaultLaws.{sort_shelf_on}
use Rattle.step_going.specs.Standing.{AreSafe, IsStanding, StandsIn}
use Rattle.step_going.proofs.Kept.{MadeSure, safe_rebuilt, standing_rebuilt}
use Rattle.step_going.proofs.Shown.{quiet_stops}
use Rattle.sweep_checkpoint.specs.Gated.{present}
use Rattle.sweep_checkpoint.specs.Going.{first_owed}
use Rattle.sweep_checkpoint.specs.declared.going.Going.{Going}
use Rattle.sweep_checkpoint.specs.Stops.{SamePoints}
use Rattle.sweep_core.specs.declared.checkpoint.Checkpoint.{Checkpoint}
use Rattle.sweep_core.specs.Accounts.{NoneFilled}
use Rattle.sweep_core.specs.Carries.{OnlyCutBehind}
use Rattle.sweep_core.specs.Saving.{IsOfStep, reads_of}
use Rattle.sweep_core.specs.Sweeps.{IsNoDamage}
use Rattle.resumable.specs.Diagrams.{copy_of, diagram_rests}
use Rattle.resumable.specs.Points.{CopiesFrom}
use Rattle.resumable.proofs.DiagramPoints.{diagram_local, copies_from}
use Rattle.resumable.proofs.MadeFronts.{diagram_there}
use Rattle.resumable.proofs.Rests.{copies_local}
use Rattle.copy_sweep.specs.declared.copy.CopySweep.{CopySweep}
use Rattle.copy_sweep.specs.declared.copy.CopyTask.{CopyTask}
use Rattle.copy_sweep.specs.Copies.{accounts, left_of, Copies, IsReady, IsInStep}
use Rattle.copy_sweep.specs.Resumes as resumes
use Rattle.copy_sweep.specs.Resumes.{one_copy}
use Rattle.step_sweeps.specs.declared.diagram.MadeDiagram.{MadeDiagram}
use Rattle.step_sweeps.specs.declared.task.Making.{Making}
use Rattle.step_sweeps.specs.Copied.{CopiesTo}
use Rattle.step_sweeps.specs.Given.{Tables}
use Rattle.step_sweeps.specs.Going.{next_of, rest_calls}
use Rattle.step_sweeps.specs.Kinds.{copy_kind}
use Rattle.step_sweeps.specs.Made.{node_file, OnlyStep}
use Rattle.step_sweeps.specs.Makes.{IsGivenFor, goes_on_by, table_by, work_for, operand_nodes}
use Rattle.step_sweeps.specs.Started.{Starts, MayRun, IsUnderWay}
use Rattle.step_sweeps.specs.Stops.{shown_by, sweeps_stop}
use Rattle.step_sweeps.specs.Sweeping.{MayResume, Sweeps, IsOperand, IsCopyFor, most_turns, owed_parts}
use Rattle.step_sweeps.proofs.Rebuilt.{made_sure, sure_still, all_sure}
use Rattle.step_sweeps.proofs.Running.{stays_step}
use Rattle.step_sweeps.proofs.Stops.{along_cuts, given_shows}
use Rattle.step_sweeps.proofs.Unfilled.{none_cut}

-- both name one task
one_task : (c : Checkpoint) (t u : CopyTask) → resumes.Names c t → resumes.Names c u → t ≡ u
one_task c t u one two =
    let same = one_copy c one.saved two.saved one.holds two.holds in
    sym one.task_is ∙ (λ i. (same i).task) ∙ two.task_is

-- a checkpoint doesn't rest on all of the file that is made
not_whole : (c : Checkpoint) (fits : resumes.Fits c) (f : FileNo) → f ≡ fits.saved.task.to
    → ((k : ℕ) → resumes.RestsOn c f k) → ⊥
not_whole c fits f is all =
    let on = all (fits.saved.kept + 1) in
    elim (subst (λ x. resumes.IsRest x f (fits.saved.kept + 1))
    (one_copy c on.saved fits.saved on.holds fits.holds) on.rests) [
      | inl read ↦ absurd (fits.rules.apart (sym read ∙ is))
      | inr made ↦ let few = made.1 in absurd (omega (arith, few))
    ]

-- what is said of a copy that was rebuilt from a checkpoint
pub record WasRebuilt {S : Type 0} (tells : S → Bool) (world : S → World) (counts : S → Faults) (c : Checkpoint)
    (s : CopySweep) (old mid : S) : Type 0 where
  pub ready : IsReady s
  pub in_step : IsTrue (tells mid) → IsInStep s (world mid)
  pub parts : (s.parts.step ≡ c.step) × (s.parts.next ≡ c.next_part)
  pub files : IsOfStep (accounts.makes s) (λ f. f ≡ s.task.from) s.parts.step s.parts.next
  pub operands : (f : FileNo) → f ≡ s.task.from → (n : ℕ) → resumes.RestsOn c f n
  pub names : resumes.Names c s.task
  pub remains : IsTrue (tells mid) → (bytes : List ℕ) (turns : ℕ)
      → resumes.StandsFor c (reads_of (world old)) bytes turns
      → (Copies s (world mid) bytes) × (left_of s ≤ turns)
  pub content : Told tells old mid (Ran (OnlyCutBehind c (resumes.RestsOn c) (now (world old))) (world old) (world mid))
  pub calls : IsTrue (tells mid) → (task : CopyTask) → resumes.Names c task
      → (world mid).clock ≤ (world old).clock + 2 ^ 20 + 0
  pub faults : OnlySortShelf (counts old) (counts mid) (Ok s)

-- what is said where none was
pub record WasRefused {S : Type 0} (tells : S → Bool) (world : S → World) (counts : S → Faults) (c : Checkpoint)
    (r : Result CopySweep SortFault) (old mid : S) : Type 0 where
  pub kind : IfErr r (λ e. e ≢ RunsSpent)
  pub undamaged : IfErr r (λ e. IsTrue (tells mid) → (job : List ℕ) (turns : ℕ)
      → resumes.StandsFor c (reads_of (world old)) job turns → IsNoDamage e)
  pub content : Told tells old mid (Ran (OnlyCutBehind c (resumes.RestsOn c) (now (world old))) (world old) (world mid))
  pub calls : IsTrue (tells mid) → (task : CopyTask) → resumes.Names c task
      → (world mid).clock ≤ (world old).clock + 2 ^ 20 + 0
  pub faults : OnlySortShelf (counts old) (counts mid) r

module _ (making : Making) (going : Going) (may : MayResume making.number going) (first : going.sweep ≡ 0)
    (none : may.point.tables ≡ 0) where
  abbrev c : Checkpoint
  c = may.point

  pub of_first : c.sweep ≡ 0
  of_first = sym may.at_point.sweep_is ∙ first

  pub of_number : c.step ≡ making.number
  of_number = may.at_point.rules.step_is ∙ may.step_is

  abbrev bytes : Tables → List ℕ
  bytes g = canon_bytes making.n (table_by making g)

  -- a step that is given its tables stands with the checkpoint, and that is one of a copy
  module _ (world : World) (g : Tables) (given : IsGivenFor making going world g) where
    pub stands : StandsIn (goes_on_by making g) diagram_rests making.number c.next_part
        (now world).folder c
    stands = subst (λ last. IsStanding (goes_on_by making g) diagram_rests making.number
        (next_of last) (now world).folder last) may.at_point.last_is given.standing

    pub from : CopiesFrom making.operation making.n making.operands making.number g
        (present (now world).folder) c
    from = copies_from making.operation making.n making.operands making.number g
        (present (now world).folder) c stands.last of_first none stands.goes_on

    pub within : (f : FileNo) (n : ℕ) → diagram_rests c f n → resumes.RestsOn c f n
    within f n = copies_local.told c [] of_first from.goes.fits f n

    fronts : (f : FileNo) (n : ℕ) → diagram_rests c f n
        → (n ≤ length (present (now world).folder f)) ⊎ ((k : ℕ) → resumes.RestsOn c f k)
    fronts f n on = elim (diagram_there making.operation making.n making.operands making.number g
        (present (now world).folder) c stands.goes_on stands.last f n on) [
          | inl long ↦ inl long
          | inr all ↦ inr (λ k. within f k (all k))
        ]

    pub sure_to_be : MadeSure diagram_rests (resumes.RestsOn c) (now world).folder c
    sure_to_be = made_sure (goes_on_by making g) diagram_rests making.number c.next_part
        (resumes.RestsOn c) c (now world).folder stands (λ f n on made. fronts f n on)

    -- it is a copy for the step
    pub is_for : IsCopyFor making c
    is_for = record {
      task = copy_of from.from making.number (bytes g);
      names = from.goes.names;
      operand = from.operand;
      to_is = refl;
    }

  -- while files are cut behind what the checkpoint rests on
  module _ {S : Type 0} (tells : S → Bool) (world : S → World) (counts : S → Faults) (old mid : S)
      (files_are : IsTrue (tells old) → AreFiles (now (world old)).folder)
      (content : Told tells old mid
      (Ran (OnlyCutBehind c (resumes.RestsOn c) (now (world old))) (world old) (world mid))) where
    -- only files of the step are cut
    pub cut_content : Told tells old mid (Ran (OnlyStep making.number (now (world old))) (world old) (world mid))
    cut_content = told tells old mid _ _ content (λ _ run. ran_weakens (world old) (world mid)
        (OnlyCutBehind c (resumes.RestsOn c) (now (world old))) (OnlyStep making.number (now (world old)))
        (λ x cut f outside. cut.unmade f (λ made. outside (made.step_is ∙ of_number))) run)

    -- the checkpoints and their gate stay
    pub cut_points : IsTrue (tells mid) → Throughout (world old) (world mid)
        (λ (x : Moment). SamePoints making.number (now (world old)).folder x.folder)
    cut_points told_mid = along_cuts making.number c (resumes.RestsOn c) (world old) (world mid) of_number
        (content.did told_mid)

    pub cut_safe : IsTrue (tells mid) → (g : Tables) → IsGivenFor making going (world old) g
        → Throughout (world old) (world mid)
        (λ (x : Moment). AreSafe (goes_on_by making g) making.number x.folder)
    cut_safe told_mid g given = safe_rebuilt (goes_on_by making g) diagram_rests making.number
        (diagram_local making.operation making.n making.operands making.number g) (resumes.RestsOn c)
        c.next_part (world old) (world mid) c (files_are (content.before told_mid)) (content.did told_mid)
        (within (world old) g given) (sure_to_be (world old) g given) (stands (world old) g given)

    -- it wasn't rebuilt
    pub copy_not_rebuilt : (e : SortFault) → (IsTrue (tells mid) → e ≢ RunsSpent)
        → (IsTrue (tells mid) → (job : List ℕ) (turns : ℕ)
        → resumes.StandsFor c (reads_of (world old)) job turns → IsNoDamage e)
        → (IsTrue (tells mid) → (task : CopyTask) → resumes.Names c task
        → (world mid).clock ≤ (world old).clock + 2 ^ 20 + 0)
        → OnlySortShelf {T = MadeDiagram} (counts old) (counts mid) (Err e)
        → Sweeps tells world counts making going old mid (Err e)
    copy_not_rebuilt e not_spent undamaged calls faults = record {
      made = tt;
      undamaged = λ told g given. let point = from (world old) g given in
          undamaged told (bytes g) point.goes.left point.goes.stands;
      spent = λ was told. absurd (let same : e ≡ RunsSpent = cc in not_spent told same);
      few_calls = λ told g given.
          let point = from (world old) g given in
          let made = calls told (copy_of point.from making.number (bytes g)) point.goes.names in
          let few = point.few in
          let turns_are = may.at_point.turns_are in
          subst (λ last. (world mid).clock + 229 * going.turns ≤ (world old).clock
          + (229 * most_turns last making going g + 11
          + rest_calls last (operand_nodes making (reads_of (world old))))) (sym may.at_point.last_is)
          (omega (arith, made, few, turns_are));
      images = cut_safe;
      stops = λ told g given within.
          let point = from (world old) g given in
          let made = calls told (copy_of point.from making.number (bytes g)) point.goes.names in
          quiet_stops making.number (shown_by going.last) _ (world old) (world mid)
          (given_shows making going (world old) g given) (cut_points told)
          (subst (λ last. (world mid).clock ≤ (world old).clock
          + (sweeps_stop + rest_calls last (operand_nodes making (reads_of (world old))))) (sym may.at_point.last_is)
          (omega (arith, made)));
      damaged = λ told anew gate. absurd (let last_is = may.at_point.last_is in cc);
      content = cut_content;
      counted = tt;
      few_anew = tt;
      untaken = tt;
      calls = tt;
      faults = faults;
    }

  module _ {S : Type 0} (tells : S → Bool) (world : S → World) (counts : S → Faults) (s : CopySweep) (old mid : S)
      (files_are : IsTrue (tells old) → AreFiles (now (world old)).folder)
      (rebuilt : WasRebuilt tells world counts c s old mid) where
    may_run : MayRun copy_kind making.number going s
    may_run =
        let shown_is = may.shown_is in
        let budget = may.budget in
        let next_is = rebuilt.parts.1 in
        let paid = may.at_point.paid in
        let turns_are = may.at_point.turns_are in
        record {
          ready = rebuilt.ready;
          works = inr (omega (arith, shown_is));
          step_is = rebuilt.parts.0 ∙ of_number;
          files = subst (λ k. IsOfStep (accounts.makes s) (λ f. f ≡ s.task.from) k s.parts.next)
              (rebuilt.parts.0 ∙ of_number) rebuilt.files;
          paid = record {
            interval = omega (arith, budget);
            shown = omega (arith, shown_is);
            paid = omega (arith, next_is, paid, turns_are, shown_is);
          };
        }

    module _ (told_mid : IsTrue (tells mid)) (g : Tables) (given : IsGivenFor making going (world old) g) where
      stands_mid : StandsIn (goes_on_by making g) diagram_rests making.number c.next_part
          (now (world mid)).folder c
      stands_mid = standing_rebuilt (goes_on_by making g) diagram_rests making.number
          (diagram_local making.operation making.n making.operands making.number g) (resumes.RestsOn c)
          c.next_part (now (world old)) (now (world mid)) c (files_are (rebuilt.content.before told_mid))
          (ran_end (world old) (world mid) (OnlyCutBehind c (resumes.RestsOn c) (now (world old)))
          (rebuilt.content.did told_mid)) (within (world old) g given) (sure_to_be (world old) g given)
          (stands (world old) g given)

      task_so : s.task ≡ copy_of (from (world old) g given).from making.number (bytes g)
      task_so = one_task c s.task _ rebuilt.names (from (world old) g given).goes.names

      there : (f : FileNo) (n : ℕ) → diagram_rests c f n → f ≡ s.task.to
          → n ≤ length (present (now (world old)).folder f)
      there f n on is = elim (fronts (world old) g given f n on) [
        | inl long ↦ long
        | inr all ↦ absurd (not_whole c (from (world old) g given).goes.fits f
            (is ∙ ap (λ (x : CopyTask). x.to) (one_task c s.task _ rebuilt.names (record {
              saved = (from (world old) g given).goes.fits.saved;
              holds = (from (world old) g given).goes.fits.holds;
              task_is = refl;
            }))) all)
      ]

      on_the_way : IsUnderWay copy_kind making g going.last (bytes g) s (world mid)
      on_the_way = record {
        remains = (rebuilt.remains told_mid (bytes g) (from (world old) g given).goes.left
            (from (world old) g given).goes.stands).0;
        operands = λ f is. all_sure (world mid) f (λ n. stands_mid.sure f n
            (copies_local.said c [] of_first (from (world old) g given).goes.fits f n (rebuilt.operands f is n)));
        standing = subst (λ last. IsStanding (goes_on_by making g) diagram_rests making.number
            s.parts.next (now (world mid)).folder last) (sym may.at_point.last_is)
            (subst (λ k. StandsIn (goes_on_by making g) diagram_rests making.number k
            (now (world mid)).folder c) (sym rebuilt.parts.1) stands_mid);
        sure = λ d is f n on mine.
            let same : c ≡ d = the_same d (sym may.at_point.last_is ∙ is) in
            sure_still (goes_on_by making g) diagram_rests making.number c.next_part
            (resumes.RestsOn c) c (accounts.makes s) (now (world old)) (now (world mid))
            (ran_end (world old) (world mid) (OnlyCutBehind c (resumes.RestsOn c) (now (world old)))
            (rebuilt.content.did told_mid)) stands_mid (within (world old) g given) there f n
            (subst (λ (e : Checkpoint). diagram_rests e f n) (sym same) on) mine;
      }
        where
          the_same : (d : Checkpoint) → Some c ≡ Some d → c ≡ d
          the_same d is = cc

    -- and so it starts
    pub starts_so : Starts tells world counts copy_kind (λ g job p. CopiesTo making g job p)
        (λ g. work_for making g - 1) 0 making going old mid s
    starts_so = record {
      may = may_run;
      in_step = rebuilt.in_step;
      under_way = λ told_mid g given.
          let point = from (world old) g given in
          let left = (rebuilt.remains told_mid (bytes g) point.goes.left point.goes.stands).1 in
          let few = point.few in
          let turns_are = may.at_point.turns_are in
          let task = task_so told_mid g given in (
            bytes g,
            record {
              form = point.form;
              bytes_are = refl;
              task_is = task ∙ ap (λ f. copy_of f making.number (bytes g)) (sym (ap (λ (x : CopyTask). x.from) task));
            },
            on_the_way told_mid g given,
            omega (arith, left, few, turns_are),
          );
      images = cut_safe tells world counts old mid files_are rebuilt.content;
      content = cut_content tells world counts old mid files_are rebuilt.content;
      within = let next_is = rebuilt.parts.1 in let most = may.at_point.rules.parts.1 in omega (arith, next_is, most);
      untaken = λ told_mid. subst (λ k. NoneFilled making.number k (world old) (world mid)) (sym rebuilt.parts.1)
          (none_cut c (resumes.RestsOn c) making.number (world old) (world mid) of_number may.at_point.rules.parts.0
          (rebuilt.content.did told_mid));
      owed = subst (λ last. s.parts.next ≤ first_owed last s.parts.next) (sym may.at_point.last_is)
          (let next_is = rebuilt.parts.1 in omega (arith, next_is));
      stock = omega arith;
      calls = λ told_mid. subst (λ last. (world mid).clock + 0 + 2 * owed_parts last
          ≤ (world old).clock + (0 + rest_calls last (operand_nodes making (reads_of (world old)))))
          (sym may.at_point.last_is)
          (let calls = rebuilt.calls told_mid s.task rebuilt.names in omega (arith, calls));
      points = cut_points tells world counts old mid files_are rebuilt.content;
      faults = rebuilt.faults;
    }

    -- of an operand, to the step's node file
    pub task_of : IsCopyFor making c → IsOperand making s.task.from × (s.task.to ≡ node_file making.number)
    task_of is =
        let same : s.task ≡ is.task = one_task c s.task is.task rebuilt.names is.names in (
          subst (λ (x : CopyTask). IsOperand making x.from) (sym same) is.operand,
          ap (λ (x : CopyTask). x.to) same ∙ is.to_is,
        )

  -- where it is none of such a copy
  pub copy_foreign : {S : Type 0} (tells : S → Bool) (world : S → World) (counts : S → Faults) (old mid : S)
      → (resumes.Fits c → IsCopyFor making c → ⊥) → (e : SortFault) → e ≢ RunsSpent
      → Told tells old mid (Ran (Stays (now (world old))) (world old) (world mid))
      → OnlySortShelf {T = MadeDiagram} (counts old) (counts mid) (Err e)
      → Sweeps tells world counts making going old mid (Err e)
  copy_foreign tells world counts old mid never e not_spent content faults = record {
    made = tt;
    undamaged = λ told g given. absurd (not_given g given);
    spent = λ was. absurd (let same : e ≡ RunsSpent = cc in not_spent same);
    few_calls = λ told g given. absurd (not_given g given);
    images = λ told g given. absurd (not_given g given);
    stops = λ told g given. absurd (not_given g given);
    damaged = λ told anew gate. absurd (let last_is = may.at_point.last_is in cc);
    content = stays_step tells world making.number old mid content;
    counted = tt;
    few_anew = tt;
    untaken = tt;
    calls = tt;
    faults = faults;
  }
    where
      not_given : (g : Tables) → IsGivenFor making going (world old) g → ⊥
      not_given g given = never (from (world old) g given).goes.fits (is_for (world old) g given)

-- the same of what a rebuild answers
module _ (making : Making) (going : Going) (may : MayResume making.number going) (first : going.sweep ≡ 0)
    (none : may.point.tables ≡ 0) {S : Type 0} (tells : S → Bool) (world : S → World) (counts : S → Faults)
    (old mid : S) (files_are : IsTrue (tells old) → AreFiles (now (world old)).folder) where
  pub starts_of : (r : Result CopySweep SortFault)
      → ((s : CopySweep) → r ≡ Ok s → WasRebuilt tells world counts may.point s old mid)
      → IfOk r (λ s. Starts tells world counts copy_kind (λ g job p. CopiesTo making g job p)
      (λ g. work_for making g - 1) 0 making going old mid s)
  starts_of (Ok s) rebuilt =
      starts_so making going may first none tells world counts s old mid files_are (rebuilt s refl)
  starts_of (Err e) rebuilt = tt

  pub tasks_of : (r : Result CopySweep SortFault)
      → ((s : CopySweep) → r ≡ Ok s → WasRebuilt tells world counts may.point s old mid) → IsCopyFor making may.point
      → IfOk r (λ s. IsOperand making s.task.from × (s.task.to ≡ node_file making.number))
  tasks_of (Ok s) rebuilt is =
      task_of making going may first none tells world counts s old mid files_are (rebuilt s refl) is
  tasks_of (Err e) rebuilt is = tt

  pub refused_of : (r : Result CopySweep SortFault) → WasRefused tells world counts may.point r old mid
      → IfErr r (λ e. Sweeps tells world counts making going old mid (Err e))
  refused_of (Ok s) it = tt
  refused_of (Err e) it = copy_not_rebuilt making going may first none tells world counts old mid files_are it.content e
      (λ told. it.kind) it.undamaged it.calls (sort_shelf_on _ _ e (Err e) refl it.faults)
