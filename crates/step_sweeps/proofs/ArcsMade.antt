-- The sweep that makes a step's arcs, which was run to its end: its arcs, or it took too many parts.
use Rattle.std.proofs.Common.{◌≡◌, ◌≢◌, ◌⊎◌, ◌∙◌, ℕ, ◌+◌, ◌-◌, ◌*◌, ◌^◌, ◌<◌, ◌≤◌, Bool, List, mul-le-mul_right, ap, refl, sym, subst, inl, inr, arith}
use Rattle.std.proofs.lemmas.Bool.{cases_lt}
use Rattle.std.specs.Prelude.{IsTrue, Option, Some, None, IfSome, Result, Ok, Err, OnOk, IsErrAnd}
use Rattle.shelf_model.specs.declared.file_no.FileNo.{FileNo}
use Rattle.shelf_model.specs.declared.sort_fault.SortFault.{SortFault}
use Rattle.shelf_model.specs.declared.sort_fault.SortFault.TheVariants.{RunsSpent}
use Rattle.shelf_model.specs.Faults.{Faults}
use Rattle.shelf_model.specs.Folder.{AreFiles}
use Rattle.shelf_model.specs.Moments.{Ran}
use Rattle.shelf_model.specs.World.{World, now, file}
use Rattle.file_numbers.specs.Files.{ends_file}
use Rattle.run_tiers.specs.declared.parts.Parts.{Parts}
use Rattle.run_tiers.specs.Syncs.{IsFirm}
use Rattle.step_going.specs.Standing.{IsStanding}
use Rattle.step_going.proofs.GoneOn.{StandsBehind}
use Rattle.step_going.proofs.Shown.{standing_shows}
use Rattle.sweep_checkpoint.specs.Going.{IsPaidTo, AreSure, Stands, TakesParts, TakesCalls, SameShown, IsShown, interval_of, first_owed}
use Rattle.sweep_checkpoint.specs.declared.going.Going.{Going}
use Rattle.sweep_core.specs.declared.checkpoint.Checkpoint.{Checkpoint}
use Rattle.sweep_core.specs.Accounts.{NoneFilled, StayEmpty}
use Rattle.sweep_core.specs.Carries.{OnlySaved}
use Rattle.sweep_core.specs.Saving.{reads_of}
use Rattle.sweep_core.specs.Sweeps.{IsNoDamage}
use Rattle.arc_file.specs.declared.unreduced.Unreduced.{Unreduced}
use Rattle.top_down_sweep.specs.declared.beginning.OperandFiles.{OperandFiles}
use Rattle.tuple_asks.specs.declared.files.Files.{Files}
use Rattle.sweep_operations.specs.declared.steps.StepOperation.{StepOperation}
use Rattle.sweep_operations.specs.declared.steps.StepOperation.TheVariants.{Operator, Choice, Quantifier, Restriction}
use Rattle.top_down_sweep.specs.Calls.{IsTrusted}
use Rattle.tuple_asks.specs.Knowing.{FileBytes}
use Rattle.top_down_sweep.specs.Knowing.{bytes_in}
use Rattle.sweep_operations.specs.Operations.{rule_of, begins_of}
use Rattle.top_down_sweep.specs.Sweeps.{SweepTask, HasMade, files_of, parts_of, task_of}
use Rattle.top_down_sweep.specs.Tasks.{AreArcFiles}
use Rattle.top_down_sweep.specs.Waiting.{AreApart}
use Rattle.top_down_sweep.proofs.Makings.{apart_from}
use Rattle.top_down_sweep.proofs.Orders.{ended_in_order}
use Rattle.top_down_sweep.proofs.StepKnown.{AreTwins, step_stays}
use Rattle.table_work.specs.declared.sweep.TableSweep.{TableSweep}
use Rattle.table_work.specs.Jobs.{TableWork, GivesWithin, HasFewSources, table_job}
use Rattle.table_work.specs.Tables.{sweep_of, work_of}
use Rattle.resumable.specs.Diagrams.{arcs_of, arcs_saving, diagram_rests}
use Rattle.resumable.proofs.DiagramPoints.{diagram_local, makes_arcs_from}
use Rattle.resumable.proofs.Resting.{arcs_spare_nodes}
use Rattle.resumable.proofs.Rests.{arcs_rests}
use Rattle.step_sweeps.specs.declared.arcs.MadeArcs.{MadeArcs}
use Rattle.step_sweeps.specs.declared.task.Making.{Making}
use Rattle.step_sweeps.specs.Damage.{MissesAsked, AsksOwn, IsFoundFault}
use Rattle.step_sweeps.specs.Given.{Tables, AreEarlier, tuples_by}
use Rattle.step_sweeps.specs.Kinds.{arcs_kind}
use Rattle.step_sweeps.specs.Made.{node_file, OnlyStep, HasArcFiles}
use Rattle.step_sweeps.specs.Makes.{IsGivenFor, HasNoGate, goes_on_by, table_by}
use Rattle.step_sweeps.specs.Parts as step_parts
use Rattle.step_sweeps.specs.Started.{Starts, IsUnderWay}
use Rattle.step_sweeps.specs.Stops.{IsSaidOf}
use Rattle.step_sweeps.specs.Sweeping.{MaySweep, IsEarly, SweepsArcs, AreArcsOf, IsCovered, arcs_most, owed_parts}
use Rattle.step_sweeps.proofs.ArcsRun.{HasRun, most_fits, run_content, run_safe, run_few, run_spent, run_stops, way, few, by}
use Rattle.step_sweeps.proofs.Costs.{few_saves}
use Rattle.step_sweeps.proofs.Faults.{turn_fault, no_damage}
use Rattle.step_sweeps.proofs.Running.{not_of_step, earlier_stays, faults_ok}
use Rattle.step_sweeps.proofs.Stops.{begun_shows, come_turns, none_stands, said_of}
use Rattle.step_sweeps.proofs.UnderWay.{way_sure, way_stands}
use Rattle.step_sweeps.proofs.Unfilled.{none_swept}

-- what a run to the end leaves
pub record HasEnded {S : Type 0} (tells : S → Bool) (world : S → World) (going later : Going)
    (s t : TableSweep StepOperation) (mid after : S) (result : Result Unit SortFault) : Type 0 where
  pub ready : OnOk result (arcs_kind.ready t)
  pub firm : OnOk result (IsTrue (tells after) → (f : FileNo) → arcs_kind.accounts.makes t f
      → IsFirm (file (world after) f))
  pub task_is : task_of (sweep_of t) ≡ task_of (sweep_of s)
  pub step_is : arcs_kind.accounts.step t ≡ arcs_kind.accounts.step s
  pub next : OnOk result (arcs_kind.accounts.next s ≤ arcs_kind.accounts.next t)
  pub late : going.shown ≤ going.turns → later.shown ≤ later.turns
  pub grew : OnOk result ((going.turns ≤ later.turns) × (0 < later.turns))
  pub owed : OnOk result (first_owed going.last (arcs_kind.accounts.next s)
      ≤ first_owed later.last (arcs_kind.accounts.next t))
  pub counted : OnOk result (later.turns < 2 ^ 64 - 1 → (saves : ℕ)
      × (interval_of going.budget * saves + going.shown ≤ later.shown)
      × TakesParts arcs_kind.accounts (later.turns - going.turns) saves s t
      × (IsTrue (tells after) → TakesCalls arcs_kind.accounts (later.turns - going.turns) saves
      (first_owed going.last (arcs_kind.accounts.next s)) (world mid) (world after) s t))
  pub paid : OnOk result (later.turns < 2 ^ 64 - 1 → IsPaidTo arcs_kind.accounts going s
      → IsPaidTo arcs_kind.accounts later t)
  pub keeps : OnOk result (IsTrue (tells after) → (job : TableWork) → arcs_kind.remains s (world mid) job
      → arcs_kind.remains t (world after) job)
  pub few : OnOk result (IsTrue (tells after) → (job : TableWork) → arcs_kind.remains s (world mid) job
      → later.turns ≤ going.turns + arcs_kind.left s (world mid) job + 1)
  pub stands : OnOk result (IsTrue (tells after) → (job : TableWork) → arcs_kind.remains s (world mid) job
      → AreSure (arcs_kind.saving.operands (arcs_kind.task s)) going.step (now (world mid)).folder
      → IsPaidTo arcs_kind.accounts going s
      → OnlySaved (arcs_kind.accounts.makes s) going.step (arcs_kind.accounts.next s) (now (world mid)) (now (world after))
      ⊎ Stands arcs_kind.saving (arcs_kind.accounts.makes s) (arcs_kind.saving.operands (arcs_kind.task s)) going.step
      (arcs_kind.accounts.next t) going.sweep (arcs_kind.task s) job
      (going.turns + arcs_kind.left s (world mid) job) (now (world after)).folder)
  pub trusts : OnOk result (IsTrue (tells after) → arcs_kind.trusts s (world mid) → arcs_kind.trusts t (world after))
  pub covers : OnOk result (IsTrue (tells after) → IsCovered going.step (world mid)
      → IsCovered going.step (world after))
  pub recent : OnOk result (later.turns < 2 ^ 61 → later.turns - later.shown ≤ interval_of going.budget)
  pub untaken : OnOk result (IsTrue (tells after) → StayEmpty (arcs_kind.accounts.makes s) going.step
      (arcs_kind.accounts.next t) (world mid) (world after))
  pub shown : OnOk result (IsTrue (tells after) →
      SameShown going later (now (world mid)).folder (now (world after)).folder
      ⊎ IsShown going.step later (now (world after)).folder)
  pub word : later.shown < 2 ^ 64

-- what the sweep gives, and what is answered of it
pub record IsGivenBy (t : TableSweep StepOperation) (made : Option Unreduced) (m : MadeArcs) : Type 0 where
  pub gives : GivesWithin rule_of begins_of (sweep_of t) made
  pub is : made ≡ Some m.arcs
  pub parts_are : m.parts ≡ parts_of (sweep_of t)
  pub below : m.parts.next ≤ 2 ^ 32

-- the checkpoint from which the arcs went on rests on none of the step's nodes
before_apart : (making : Making) (going : Going) (world : World) (g : Tables) → AreEarlier making.number making.operands
    → MaySweep making.number going → IsGivenFor making going world g → (o : Option Checkpoint) → going.last ≡ o
    → (c : Checkpoint) → o ≡ Some c → (f : FileNo) (n : ℕ) → diagram_rests c f n → f ≢ node_file making.number
before_apart making going world g earlier may given o last c is f n on =
    by (subst (λ x. MaySweep making.number (record going { last = x })) (last ∙ is) may)
    (subst (λ x. IsGivenFor making (record going { last = x }) world g) (last ∙ is) given)
  where
    by : MaySweep making.number (record going { last = Some c })
        → IsGivenFor making (record going { last = Some c }) world g → f ≢ node_file making.number
    by may given =
        let from = makes_arcs_from making.operation making.n making.operands making.number g (reads_of world)
        c given.standing.last (sym may.come_to.0.sweep_is ∙ may.sweep_is) may.come_to.1 given.standing.goes_on in
        arcs_spare_nodes making.n making.operands making.number c from.goes.fits from.goes.names earlier.first
        earlier.second earlier.third f n (arcs_rests c f n from.goes.sweep_is from.goes.fits on)

module _ {S : Type 0} (tells : S → Bool) (world : S → World) (counts : S → Faults) (making : Making) (going : Going)
    (may : MaySweep making.number going) (before mid after : S) (early : IsEarly tells world making going before)
    (s t : TableSweep StepOperation)
    (started : Starts tells world counts arcs_kind (λ g job s. job ≡ work_of making.operation making.n g)
    (arcs_most making going) 8 making going before mid s)
    (task : task_of (sweep_of s) ≡ arcs_of making.n making.operands making.number)
    (files_at : IsTrue (tells mid) → AreFiles (now (world mid)).folder) (later : Going)
    (run : HasRun tells world counts going later s t mid after (Ok tt))
    (ended : HasEnded tells world going later s t mid after (Ok tt)) where
  -- it took more parts than a step has
  pub ran_out : 2 ^ 32 ≤ arcs_kind.accounts.next t
      → SweepsArcs tells world counts making going later before after (Err RunsSpent)
  ran_out spent = record {
    going = run.going_is;
    files = tt;
    parts = tt;
    made = tt;
    undamaged = λ told g given. tt;
    spent = λ was told g given. run_spent tells world counts making going may before mid after early s t started task
        files_at later (Ok tt) run told g given spent;
    images = λ told g given. run_safe tells world counts making going may before mid after early s t started task files_at
        later (Ok tt) run told g given;
    damaged = λ told last gate. tt;
    ordered = tt;
    content = run_content tells world counts making going may before mid after early s t started task files_at later
        (Ok tt) run;
    grew = tt;
    paid = tt;
    taken = tt;
    untaken = tt;
    recent = tt;
    calls = tt;
    few_calls = λ told g given.
        let few = run_few tells world counts making going may before mid after early s t started task files_at later
        (Ok tt) run told g given in (few.0, tt, few.3);
    stops = λ told g given within. run_stops tells world counts making going may before mid after early s t started task
        files_at later (Ok tt) run told g given within;
    faults = record {
      later = (let one : (counts before).folder ≤ (counts mid).folder = started.faults.later in
          let two : (counts mid).folder ≤ (counts after).folder = run.faults.later in
          omega (arith, one, two));
      cause = λ is. absurd (cc);
      say_is = run.faults.say_is ∙ started.faults.say_is;
      text_is = λ path. run.faults.text_is path ∙ started.faults.text_is path;
    };
  }

  module _ (earlier : AreEarlier making.number making.operands) (made : Option Unreduced) (m : MadeArcs)
      (gave : IsGivenBy t made m) where
    task_after : task_of (sweep_of t) ≡ arcs_of making.n making.operands making.number
    task_after = ended.task_is ∙ task

    in_files : HasMade (files_of (sweep_of t)).inner (files_of (sweep_of t)).ends m.arcs
    in_files = subst (λ (o : Option Unreduced). IfSome o (HasMade (files_of (sweep_of t)).inner (files_of (sweep_of t)).ends))
        gave.is (gave.gives.gives.in_files ended.ready)

    next_is : m.parts.next ≡ arcs_kind.accounts.next t
    next_is = ap (λ (p : Parts). p.next) gave.parts_are

    arc_files : HasArcFiles making.number m.arcs
    arc_files = record {
      inner_is = in_files.inner_is ∙ ap (λ (x : SweepTask). x.files.inner) task_after;
      ends_are = in_files.ends_are ∙ ap (λ (x : SweepTask). x.files.ends) task_after;
      inner_few = in_files.inner_few;
      ends_few = in_files.ends_few;
    }

    -- parts behind both files of arcs were taken
    past : 5 ≤ m.parts.next
    past =
        let mine = started.may.files.made (ends_file making.number)
        (inr (sym (ap (λ (x : SweepTask). x.files.ends) task))) in
        let same = next_is in
        let more = ended.next in
        elim mine.part [
          | inl none ↦ absurd (omega (arith, none))
          | inr part ↦ (let below = part.2 in omega (arith, below, same, more))
        ]

    module _ (told : IsTrue (tells after)) (g : Tables) (given : IsGivenFor making going (world before) g) where
      on_way : IsUnderWay arcs_kind making g going.last (work_of making.operation making.n g) s (world mid)
      on_way = way tells world counts making going may before mid after early s t started task files_at later (Ok tt)
          run told g given

      behind : StandsBehind arcs_kind.saving (λ r. goes_on_by making g r) diagram_rests making.number
          going.sweep (arcs_kind.task s) (work_of making.operation making.n g)
          (going.turns + arcs_kind.left s (world mid) (work_of making.operation making.n g))
          (diagram_local making.operation making.n making.operands making.number g)
          (by tells world counts making going may before mid after early s t started task files_at later (Ok tt) run told
          g given) (arcs_kind.accounts.makes s) (arcs_kind.accounts.next s) (arcs_kind.accounts.next t) going.last
          (now (world after)).folder
      behind = way_stands arcs_kind making going g going.last (work_of making.operation making.n g) s (world mid) on_way
          may.step_is (by tells world counts making going may before mid after early s t started task files_at later
          (Ok tt) run told g given) (arcs_kind.accounts.next t) (world after) ended.next
          (files_at (run.changes.before told)) started.may.files
          (ended.stands told (work_of making.operation making.n g) on_way.remains
          (way_sure arcs_kind making going g going.last (work_of making.operation making.n g) s (world mid) on_way
          may.step_is) started.may.paid)

      apart : (c : Checkpoint) → behind.last ≡ Some c → (f : FileNo) (n : ℕ) → diagram_rests c f n
          → f ≢ node_file making.number
      apart c is f n on = elim behind.which [
        | inl same ↦ before_apart making going (world before) g earlier may given going.last refl c (sym same ∙ is) f n on
        | inr (goes, last) ↦
            let same : goes.point ≡ c = cc in
            arcs_spare_nodes making.n making.operands making.number goes.point goes.fits
            (subst (λ (x : SweepTask). arcs_saving.names goes.point x) task goes.names) earlier.first earlier.second
            earlier.third f n (arcs_rests goes.point f n (goes.sweep_is ∙ may.sweep_is) goes.fits
            (subst (λ d. diagram_rests d f n) (sym same) on))
      ]

      remains : arcs_kind.remains t (world after) (work_of making.operation making.n g)
      remains = ended.keeps told (work_of making.operation making.n g) on_way.remains

      sources : HasFewSources (tuples_by making.operation making.n g) m.arcs
      sources = subst (λ (o : Option Unreduced). IfSome o (HasFewSources (tuples_by making.operation making.n g))) gave.is
          (gave.gives.few_sources (world after) (work_of making.operation making.n g) remains)

      -- what is said of the turns that are shown is so of the last checkpoint
      is_said : IsSaidOf going later behind.last
      is_said =
          let told_mid = run.changes.before told in
          let took = run.took told (work_of making.operation making.n g) on_way.remains in
          let more = took.2 in
          let safe : (FileNo → List ℕ) → Type 0 = λ r. goes_on_by making g r in
          said_of making.number going later (now (world mid)).folder (now (world after)).folder behind.last may.step_is
          (begun_shows tells world counts arcs_kind (λ g job s. job ≡ work_of making.operation making.n g)
          (arcs_most making going) 8 making going before mid s started told_mid g given)
          (standing_shows safe diagram_rests making.number (arcs_kind.accounts.next t)
          (now (world after)).folder behind.last behind.standing)
          (omega (arith, more)) ended.word (come_turns making.number going may)
          (none_stands safe diagram_rests making.number (arcs_kind.accounts.next s)
          (now (world mid)).folder going.last on_way.standing)
          (elim behind.which [
            | inl same ↦ inl same
            | inr (goes, last) ↦ inr (goes.point, goes.last)
          ])
          (ended.shown told)

      are_arcs : AreArcsOf making going later g m (world after)
      are_arcs =
          let most = most_fits going.last making going g
          (early (started.content.before (run.changes.before told)) g given.given) in
          let one = most.1 in
          let turns = ended.few told (work_of making.operation making.n g) on_way.remains in
          let within = few tells world counts making going may before mid after early s t started task files_at later
          (Ok tt) run told g given in
          record {
            has = record {
              arcs = subst (λ (o : Option Unreduced). IfSome o (λ a. AreArcFiles making.n (table_by making g) a (world after)))
                  gave.is (gave.gives.gives.of_table (world after) (table_job (work_of making.operation making.n g))
                  remains.makes);
              sources = sources.sources;
              has_sources = sources.two_each;
              inner_firm = ended.firm told m.arcs.inner (inl in_files.inner_is);
              ends_firm = ended.firm told m.arcs.ends (inr in_files.ends_are);
              last = behind.last;
              standing = subst (λ k. IsStanding (goes_on_by making g) diagram_rests making.number
                  k (now (world after)).folder behind.last) (sym next_is) behind.standing;
              apart = apart;
            };
            few_sources = sources.few;
            few = omega (arith, one, turns, within);
            said = is_said;
          }

    pub ran_made : (IsTrue (tells mid) → going.last ≡ None → HasNoGate making.number (world before)
        → IsTrusted rule_of begins_of (sweep_of s) (world mid) × IsCovered making.number (world mid))
        → SweepsArcs tells world counts making going later before after (Ok m)
    ran_made begun = record {
      going = run.going_is;
      files = arc_files;
      parts = (
        ap (λ (p : Parts). p.step) gave.parts_are ∙ ended.step_is ∙ started.may.step_is,
        (past, gave.below),
      );
      made = are_arcs;
      undamaged = tt;
      spent = λ was. absurd (cc);
      images = λ told g given. run_safe tells world counts making going may before mid after early s t started task
          files_at later (Ok tt) run told g given;
      damaged = tt;
      ordered = λ told none gate.
          let first = begun (run.changes.before told) none gate in (
            ended_in_order rule_of begins_of (sweep_of t) (world after) m.arcs (ended.trusts told first.0)
                (sym gave.gives.gives.made_is ∙ gave.is),
            subst (λ k. IsCovered k (world after)) may.step_is (ended.covers told
                (subst (λ k. IsCovered k (world mid)) (sym may.step_is) first.1)),
          );
      content = run_content tells world counts making going may before mid after early s t started task files_at later
          (Ok tt) run;
      untaken = λ told. subst (λ k. NoneFilled making.number k (world before) (world after)) (sym next_is)
          (none_swept (arcs_kind.accounts.makes s) (arcs_kind.saving.operands (arcs_kind.task s)) making.number
          (arcs_kind.accounts.next s) (arcs_kind.accounts.next t) (world before) (world mid) (world after)
          started.may.files ended.next (started.untaken (run.changes.before told))
          (subst (λ k. StayEmpty (arcs_kind.accounts.makes s) k (arcs_kind.accounts.next t) (world mid) (world after))
          may.step_is (ended.untaken told)));
      grew = ended.grew.0;
      paid =
          let same = next_is in
          let below = gave.below in
          let shows = ended.late started.may.paid.shown in
          record {
            interval = subst (λ b. 16384 ≤ interval_of b) (sym run.going_is.budget_is) started.may.paid.interval;
            shown = shows;
            paid = elim (cases_lt later.turns (2 ^ 64 - 1)) [
              | inl exact ↦ (let sum = (ended.paid exact started.may.paid).paid in omega (arith, sum, same))
              | inr above ↦ omega (arith, above, below, shows)
            ];
          };
      taken = λ none.
          let same = next_is in
          let below = gave.below in
          let from = (began_from none).0 in
          let stock = (began_from none).1 in
          elim (cases_lt later.turns (2 ^ 64 - 1)) [
            | inl exact ↦
                let its = ended.counted exact in
                let shown = few_saves (interval_of going.budget) its.0 going.shown later.shown
                started.may.paid.interval its.1 in
                let spent = its.2.spent in
                omega (arith, from, stock, shown, spent, same)
            | inr above ↦ omega (arith, above, below)
          ];
      calls = λ exact.
          let its = ended.counted exact in
          let saves : ℕ = its.0 in
          let long = started.may.paid.interval in
          let less : 16384 * its.0 ≤ interval_of going.budget * its.0 = mul-le-mul_right its.0 long in
          let few_saves = its.1 in
          let spent = its.2.spent in
          let stock = started.stock in
          let same = next_is in
          let more = ended.next in
          let first = started.owed in
          let owed = first_after in (
            omega (arith, few_saves),
            record {
              saves = its.0;
              parts = arcs_kind.accounts.next t - arcs_kind.accounts.next s;
              few_saves = omega (arith, few_saves, less);
              few_parts = omega (arith, spent, stock);
            },
            omega (arith, first, owed, same, more),
            λ told.
                let begun = started.calls (run.changes.before told) in
                let calls = (its.3 told).paid in
                omega (arith, begun, calls, first, more),
          );
      few_calls = λ told g given.
          let few = run_few tells world counts making going may before mid after early s t started task files_at later
          (Ok tt) run told g given in
          let parts = few.2 in
          let first = started.owed in
          let owed = first_after in
          let same = next_is in (few.0, (few.1, omega (arith, parts, first, owed, same)), few.3);
      recent = ended.recent;
      stops = λ told g given within. run_stops tells world counts making going may before mid after early s t started task
          files_at later (Ok tt) run told g given within;
      faults = faults_ok (counts before) (counts mid) (counts after) (Ok s) (Ok tt) m started.faults run.faults;
    }
      where
        first_after : first_owed going.last (arcs_kind.accounts.next s) ≤ first_owed later.last m.parts.next
        first_after = subst (λ k. first_owed going.last (arcs_kind.accounts.next s) ≤ first_owed later.last k)
            (sym next_is) ended.owed

        -- a step that begins anew has none of its runs
        began_from : going.last ≡ None → (arcs_kind.accounts.next s ≤ 5) × (arcs_kind.accounts.stock s ≡ 0)
        began_from none =
            let next : ℕ = arcs_kind.accounts.next s in
            let first : first_owed going.last next ≡ first_owed None next = ap (λ last. first_owed last next) none in
            let parts : owed_parts going.last ≡ 0 = ap owed_parts none in
            let owed = started.owed in
            let stock = started.stock in
            (omega (arith, owed, first), omega (arith, stock, parts))

-- a quantifier that is given one file twice reads the same bytes twice
twins : (operation : StepOperation) (operands : OperandFiles) (b : FileBytes)
    → (operands.second ≡ operands.first → b.second ≡ b.first) → AsksOwn operation operands → AreTwins operation b
twins (Operator op) operands b same own = tt
twins Choice operands b same own = tt
twins (Quantifier kind level) operands b same own = same own
twins (Restriction level value) operands b same own = tt

-- damage that a turn finds is that of an operand as it was
pub arcs_fault : (making : Making) (t : TableSweep StepOperation) (old new : World) (e : SortFault)
    → AreEarlier making.number making.operands
    → task_of (sweep_of t) ≡ arcs_of making.n making.operands making.number
    → (sweep_of t).operation ≡ making.operation
    → arcs_kind.accounts.step t ≡ making.number → Ran (OnlyStep making.number (now old)) old new
    → arcs_kind.damaged t new e ⊎ IsNoDamage e → IsFoundFault making.operation making.n making.operands old e
arcs_fault making t old new e earlier task operation step ran (inr none) =
    no_damage (MissesAsked (AsksOwn making.operation making.operands)) making.n making.operands old e none
arcs_fault making t old new e earlier task operation step ran (inl damage) =
    let files = ap (λ (x : SweepTask). x.files) task in
    let its = (sweep_of t).operation in
    let bytes = bytes_in (sweep_of t).machine new in
    turn_fault (AsksOwn making.operation making.operands) making.n making.operands (rule_of its) (begins_of its)
    (sweep_of t).machine old new e (ap (λ (x : SweepTask). x.variables) task)
    (record {
      first = ap (λ (x : Files). x.first) files;
      second = ap (λ (x : Files). x.second) files;
      third = ap (λ (x : Files). x.third) files;
      first_kept = earlier_stays making.number old new ran making.operands.first earlier.first;
      second_kept = earlier_stays making.number old new ran making.operands.second earlier.second;
      third_kept = earlier_stays making.number old new ran making.operands.third earlier.third;
    })
    (subst (λ v. v) (λ i. AreApart (sym task i).files (sym step i))
    (apart_from making.operands (step_parts.parts_of making.number) (omega arith)
    (not_of_step making.number 3 making.operands.first earlier.first)
    (not_of_step making.number 3 making.operands.second earlier.second)
    (not_of_step making.number 3 making.operands.third earlier.third)))
    (λ own. step_stays its bytes (subst (λ o. AreTwins o bytes) (sym operation)
    (twins making.operation making.operands bytes (λ same. ap (λ f. (file new f).bytes)
    (ap (λ (x : Files). x.second) files ∙ same ∙ sym (ap (λ (x : Files). x.first) files))) own))) damage

-- a fault that is handed on
pub handed_arcs : {S : Type 0} (tells : S → Bool) (world : S → World) (counts : S → Faults) (making : Making)
    (going later : Going) (old new : S) (e : SortFault) (r : Result MadeArcs SortFault) → IsErrAnd r (λ x. x ≡ e)
    → SweepsArcs tells world counts making going later old new (Err e)
    → SweepsArcs tells world counts making going later old new r
handed_arcs tells world counts making going later old new e (Ok x) is makes = absurd is
handed_arcs tells world counts making going later old new e (Err x) is makes =
    subst (λ (y : SortFault). SweepsArcs tells world counts making going later old new (Err y)) (sym is) makes
