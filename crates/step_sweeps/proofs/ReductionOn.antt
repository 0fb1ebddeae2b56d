-- A reduction that goes on from a step's last checkpoint: what it makes and takes, whether a turn was refused or it ended.
use Rattle.std.proofs.Common.{◌≡◌, ◌⊎◌, ◌∙◌, ℕ, ◌+◌, ◌-◌, ◌*◌, ◌^◌, ◌<◌, ◌≤◌, Bool, IsTrue, ap, sym, subst, inl, inr, mul-le-mul_right, arith}
use Rattle.std.specs.Prelude.{min, max, Some, Ok, Err, IsErrOf}
use Rattle.std.proofs.lemmas.Bool.{cases_lt}
use Rattle.shelf_model.specs.declared.file_no.FileNo.{FileNo}
use Rattle.shelf_model.specs.declared.sort_fault.SortFault.{SortFault}
use Rattle.shelf_model.specs.declared.sort_fault.SortFault.TheVariants.{RunsSpent}
use Rattle.shelf_model.specs.Calls.{Told}
use Rattle.shelf_model.specs.Faults.{Faults}
use Rattle.shelf_model.specs.Folder.{Image, AreFiles, IsImage, bytes_in}
use Rattle.shelf_model.specs.Moments.{Ran, Throughout, OnlyChanged}
use Rattle.shelf_model.specs.World.{Moment, World, now}
use Rattle.shelf_model.proofs.Changing.{told_changed_then}
use Rattle.shelf_model.proofs.Runs.{joins}
use Rattle.run_tiers.specs.Faults.{OnlySortShelf}
use Rattle.step_going.specs.Standing.{AreSafe}
use Rattle.step_going.proofs.GoneOn.{GoesOnBy}
use Rattle.step_going.proofs.Shown.{stops_more}
use Rattle.sweep_checkpoint.specs.Going.{IsOfGoing, IsAsBefore, GoesOn, AreSure, TakesParts, TakesCalls, IsPaidTo, interval_of, first_owed}
use Rattle.sweep_checkpoint.specs.declared.going.Going.{Going}
use Rattle.sweep_checkpoint.specs.Stops.{StopsCost}
use Rattle.sweep_core.specs.Accounts.{NoneFilled, StayEmpty}
use Rattle.sweep_core.specs.Saving.{reads_of}
use Rattle.sweep_core.specs.Sweeps.{IsNoDamage}
use Rattle.resumable.specs.Diagrams.{diagram_rests}
use Rattle.resumable.proofs.Makings.{reduction_goes}
use Rattle.resumable.proofs.Resting.{reduction_sees}
use Rattle.resumable.proofs.Rests.{reductions_local}
use Rattle.canon_file.specs.Laws.{HasForm}
use Rattle.node_file.specs.Canonical.{IsMade}
use Rattle.reduce_sweep.specs.declared.reduce.ReduceSweep.{ReduceSweep}
use Rattle.reduce_sweep.specs.Remaining as sweep
use Rattle.reduce_sweep.specs.Resumes.{reduce_saving, IsOperand}
use Rattle.reduce_sweep.specs.Sweeps as reduce
use Rattle.step_sweeps.specs.declared.diagram.MadeDiagram.{MadeDiagram}
use Rattle.step_sweeps.specs.declared.task.Making.{Making}
use Rattle.step_sweeps.specs.Given.{Tables}
use Rattle.step_sweeps.specs.Going.{rest_calls}
use Rattle.step_sweeps.specs.Kinds.{reduce_kind}
use Rattle.step_sweeps.specs.Made.{node_file, OnlyStep}
use Rattle.step_sweeps.specs.Makes.{IsGivenFor, goes_on_by, work_for, operand_nodes}
use Rattle.step_sweeps.specs.Reduced.{ReducesTo}
use Rattle.step_sweeps.specs.Started.{Starts, IsUnderWay}
use Rattle.step_sweeps.specs.Stops.{shown_by, sweeps_stop}
use Rattle.step_sweeps.specs.Sweeping.{MayResume, Sweeps, IsCovered, most_turns, owed_parts}
use Rattle.step_sweeps.proofs.SweptReduction.{reduced_at_end}
use Rattle.step_sweeps.proofs.Stops.{RunStops, resumed_shown, started_stops}
use Rattle.step_sweeps.proofs.UnderWay.{way_sure, way_covered, way_safe}
use Rattle.step_sweeps.proofs.Unfilled.{none_swept}

-- the calls of a sweep that goes on, of which so many turns were made or were left, behind what going on costs
calls_on : (more interval saves next later from stock later_stock credit later_credit rest old mid new : ℕ)
    → 16384 ≤ interval → interval * saves ≤ more → next ≤ from → stock ≤ 256 * 198
    → 256 * (later - next) + later_stock ≤ stock + (12 * (more + 1) + 4608 * saves)
    → mid + credit + 2 * 198 ≤ old + (0 + rest)
    → new + later_credit ≤ mid + credit + (224 * (more + 1) + 66126 * saves + (later - from))
    → new ≤ old + (229 * (more + 1) + rest)
calls_on more interval saves next later from stock later_stock credit later_credit rest old mid new long few owed
    paid parts begun calls =
    let less : 16384 * saves ≤ interval * saves = mul-le-mul_right saves long in
    omega (arith, few, less, owed, paid, parts, begun, calls)

-- what is known of a reduction that was run and saved, and of what that left, whichever way it ended
pub record RanOn {S : Type 0} (tells : S → Bool) (world : S → World) (going : Going) (s t : ReduceSweep) (mid new : S)
    : Type 0 where
  pub changes : Told tells mid new (Ran (OnlyChanged (IsOfGoing (reduce.accounts.makes s) going.step)
      (now (world mid))) (world mid) (world new))
  pub took : IsTrue (tells new) → (d : sweep.Diagram) → sweep.RemainsOf s (world mid) d → (saves : ℕ)
      × (interval_of going.budget * saves + going.shown ≤ max going.shown (going.turns + reduce.turns_left s))
      × TakesParts reduce.accounts (reduce.turns_left s + 1) saves s t
      × TakesCalls reduce.accounts (reduce.turns_left s + 1) saves (first_owed going.last s.parts.next)
      (world mid) (world new) s t
  pub stops : IsTrue (tells new) → RunStops reduce_kind going s (world mid) (world new)
  pub images : IsTrue (tells new) → (d : sweep.Diagram) → sweep.RemainsOf s (world mid) d
      → AreSure (IsOperand (reduce.task_of s)) going.step (now (world mid)).folder → IsPaidTo reduce.accounts going s
      → Throughout (world mid) (world new) (λ (x : Moment). (image : Image) → IsImage x.folder image
      → IsAsBefore (reduce.accounts.makes s) going.step s.parts.next (now (world mid)).folder (bytes_in image)
      ⊎ GoesOn reduce_saving going.step going.sweep (reduce.task_of s) d
      (going.turns + reduce.turns_left s) (bytes_in image))

module _ {S : Type 0} (tells : S → Bool) (world : S → World) (counts : S → Faults) (making : Making) (going : Going)
    (may : MayResume making.number going) (second : going.sweep ≡ 1) (s t : ReduceSweep) (old mid new : S)
    (starts : Starts tells world counts reduce_kind (λ g job p. ReducesTo making g job p) (λ g. work_for making g - 1) 0
    making going old mid s)
    (out_is : reduce.out_of s ≡ node_file making.number) (variables_are : s.place.variables ≡ making.n)
    (run : RanOn tells world going s t mid new) where
  -- the step stands with a checkpoint
  most_is : (g : Tables) → most_turns going.last making going g ≡ work_for making g
  most_is g = ap (λ last. most_turns last making going g) may.at_point.last_is

  owed_is : owed_parts going.last ≡ 198
  owed_is = ap owed_parts may.at_point.last_is

  -- only files of the step are changed
  on_content : Told tells old new (Ran (OnlyStep making.number (now (world old))) (world old) (world new))
  on_content = told_changed_then tells world (λ q. q.step ≡ making.number)
      (IsOfGoing (reduce.accounts.makes s) going.step) old mid new
      (λ f is. elim is [
        | inl mine ↦ ap (λ (x : FileNo). x.step) (mine ∙ out_is)
        | inr rest ↦ rest.0 ∙ may.step_is
      ]) starts.content run.changes

  module _ (told_new : IsTrue (tells new)) (g : Tables) (given : IsGivenFor making going (world old) g) where
    told_mid : IsTrue (tells mid)
    told_mid = run.changes.before told_new

    abbrev job : sweep.Diagram
    job = (starts.under_way told_mid g given).0

    does : ReducesTo making g job s
    does = (starts.under_way told_mid g given).1

    way : IsUnderWay reduce_kind making g going.last job s (world mid)
    way = (starts.under_way told_mid g given).2

    few_left : going.turns + reduce.turns_left s + 1 ≤ work_for making g
    few_left = let few = (starts.under_way told_mid g given).3 in omega (arith, few)

    on_by : GoesOnBy reduce_saving (goes_on_by making g) diagram_rests making.number going.sweep
        (reduce.task_of s) job (going.turns + reduce.turns_left s)
    on_by = subst (λ k. GoesOnBy reduce_saving (goes_on_by making g) diagram_rests making.number
        k (reduce.task_of s) job (going.turns + reduce.turns_left s)) (sym second) (record {
          goes_on = λ r goes. reduction_goes making.operation making.n making.operands making.number g
              (going.turns + reduce.turns_left s) r (reduce.task_of s) job out_is variables_are does.inner_own does.ends_own
              does.table_is (subst (HasForm making.n) does.table_is does.form) goes (let few = few_left in omega (arith, few));
          rests_within = λ r goes. reduction_sees making.number (going.turns + reduce.turns_left s) r
              (reduce.task_of s) job goes;
          apart = reductions_local.apart;
        })

    on_images : Throughout (world old) (world new)
        (λ (x : Moment). AreSafe (goes_on_by making g) making.number x.folder)
    on_images = joins (world old) (world mid) (world new)
        (λ (x : Moment). AreSafe (goes_on_by making g) making.number x.folder)
        (starts.images told_mid g given)
        (way_safe reduce_kind making going g going.last job s (world mid) way may.step_is on_by (world new)
        (run.images told_new job way.remains (way_sure reduce_kind making going g going.last job s (world mid) way
        may.step_is) starts.may.paid))

    -- what a stop costs
    on_stops : work_for making g < 2 ^ 61 → StopsCost making.number (shown_by going.last) ((world old).clock
        + (sweeps_stop + rest_calls going.last (operand_nodes making (reads_of (world old)))))
        (world old) (world new)
    on_stops within = stops_more making.number (shown_by going.last) _ _ (world old) (world new) (omega arith)
        (started_stops tells world counts reduce_kind (λ g job p. ReducesTo making g job p) (λ g. work_for making g - 1)
        0 making going old mid s starts told_mid g given new may.step_is (resumed_shown making.number going may)
        (omega (arith, within)) (run.changes.did told_new).moments.past (run.stops told_new))

    pub on_covered : AreFiles (now (world mid)).folder → IsCovered making.number (world mid)
    on_covered = way_covered reduce_kind making going g going.last job s (world mid) way may.step_is

    on_few : (world new).clock + 229 * going.turns ≤ (world old).clock
        + (229 * most_turns going.last making going g + 11
        + rest_calls going.last (operand_nodes making (reads_of (world old))))
    on_few =
        let its = run.took told_new job way.remains in
        let few = its.1 in
        let shown_is = may.shown_is in
        let stock = starts.stock in
        let owed = owed_is in
        let begun = starts.calls told_mid in
        let all = most_is g in
        let within = few_left in
        let calls = calls_on (reduce.turns_left s) (interval_of going.budget) its.0 s.parts.next t.parts.next
        (first_owed going.last s.parts.next) (reduce.stock_of s) (reduce.stock_of t) (reduce.credit_of s)
        (reduce.credit_of t) (rest_calls going.last (operand_nodes making (reads_of (world old)))) (world old).clock
        (world mid).clock (world new).clock starts.may.paid.interval (omega (arith, few, shown_is)) starts.owed
        (omega (arith, stock, owed)) its.2.spent (omega (arith, begun, owed)) its.3.paid in
        omega (arith, calls, all, within)

    on_work : 2 ^ 32 ≤ t.parts.next → 2 ^ 35 ≤ work_for making g
    on_work spent =
        let its = run.took told_new job way.remains in
        let paid = starts.may.paid.paid in
        let shown = starts.may.paid.shown in
        let few = its.1 in
        let parts = its.2.spent in
        let within = few_left in
        let long = starts.may.paid.interval in
        let less : 16384 * its.0 ≤ interval_of going.budget * its.0 = mul-le-mul_right its.0 long in
        omega (arith, paid, shown, few, parts, within, less, spent)

  -- a turn or a save was refused
  pub on_refused : (e : SortFault) → (IsErrOf {T = MadeDiagram} (Err e) RunsSpent → 2 ^ 32 ≤ t.parts.next)
      → (IsTrue (tells mid) → AreFiles (now (world mid)).folder)
      → (IsTrue (tells new) → (d : sweep.Diagram) → sweep.RemainsOf s (world mid) d
      → IsCovered going.step (world mid) → IsNoDamage e)
      → OnlySortShelf {T = MadeDiagram} (counts old) (counts new) (Err e)
      → Sweeps tells world counts making going old new (Err e)
  on_refused e spent files_are undamaged faults = record {
    made = tt;
    undamaged = λ told g given. undamaged told (job told g given) (way told g given).remains
        (subst (λ k. IsCovered k (world mid)) (sym may.step_is)
        (on_covered told g given (files_are (told_mid told g given))));
    spent = λ was told g given. on_work told g given (spent was);
    few_calls = on_few;
    images = on_images;
    stops = on_stops;
    damaged = λ told anew none. absurd (let last_is = may.at_point.last_is in cc);
    content = on_content;
    counted = tt;
    few_anew = tt;
    untaken = tt;
    calls = tt;
    faults = faults;
  }

  -- or it ended with the diagram
  pub on_ended : (later : Going) (d : MadeDiagram) → going.turns < 2 ^ 64 → d.turns ≡ later.turns
      → d.next ≡ min t.parts.next (2 ^ 32) → min (going.turns + 1) (2 ^ 64 - 1) ≤ later.turns
      → (going.shown ≤ going.turns → later.shown ≤ later.turns) → s.parts.next ≤ t.parts.next
      → (s.parts.next ≤ 2 ^ 32 → t.parts.next ≤ 2 ^ 32)
      → (IsTrue (tells new) → StayEmpty (reduce.accounts.makes s) going.step t.parts.next (world mid) (world new))
      → (later.turns < 2 ^ 64 - 1 → IsPaidTo reduce.accounts going s → IsPaidTo reduce.accounts later t)
      → (later.turns < 2 ^ 64 - 1 → (saves : ℕ)
      × (interval_of going.budget * saves + going.shown ≤ later.shown)
      × TakesParts reduce.accounts (later.turns - going.turns) saves s t
      × (IsTrue (tells new) → TakesCalls reduce.accounts (later.turns - going.turns) saves
      (first_owed going.last s.parts.next) (world mid) (world new) s t))
      → (IsTrue (tells new) → (x : sweep.Diagram) → sweep.RemainsOf s (world mid) x
      → later.turns ≤ going.turns + reduce.turns_left s + 1)
      → (IsTrue (tells new) → (x : sweep.Diagram) → sweep.RemainsOf s (world mid) x
      → sweep.RemainsOf t (world new) x)
      → reduce.turns_left t ≡ 0 → reduce.out_of t ≡ reduce.out_of s → t.place.variables ≡ s.place.variables
      → Some d.nodes ≡ reduce.count_in t
      → OnlySortShelf {T = MadeDiagram} (counts old) (counts new) (Ok d)
      → Sweeps tells world counts making going old new (Ok d)
  on_ended later d fits turns_are next_is_d made late more within stay paid counted few keeps ended same_out
      same_variables nodes faults = record {
        made = λ told g given.
            let left = few_left told g given in
            let turns = few told (job told g given) (way told g given).remains in
            let all = most_is g in
            let is = does told g given in
            let at_end = reduced_at_end making.n making.number (job told g given).table t (world new)
            (job told g given).arcs d.nodes ended (same_out ∙ out_is) (same_variables ∙ variables_are) nodes is.form
            (keeps told (job told g given) (way told g given).remains) in (
              subst (λ table. IsMade making.n table (node_file making.number) d.nodes (world new)) is.table_is at_end,
              omega (arith, left, turns, all, turns_are),
            );
        undamaged = tt;
        spent = λ was. absurd (cc);
        few_calls = on_few;
        images = on_images;
        stops = on_stops;
        damaged = tt;
        content = on_content;
        counted = (
          omega (arith, made, turns_are, fits),
          record {
            some = omega (arith, made, turns_are);
            from = (let past = starts.may.files.parts in omega (arith, past, more, next_is_d));
            below = omega (arith, next_is_d);
            few = elim (cases_lt later.turns (2 ^ 64 - 1)) [
              | inl exact ↦ (let sum = (paid exact starts.may.paid).paid in
                  let shows = late starts.may.paid.shown in
                  omega (arith, sum, shows, turns_are, next_is_d))
              | inr above ↦ omega (arith, above, turns_are, next_is_d)
            ];
          },
        );
        few_anew = λ anew. absurd (let last_is = may.at_point.last_is in cc);
        untaken =
            let most = within starts.within in
            let last : t.parts.next ≡ d.next = omega (arith, next_is_d, most) in
            λ told. subst (λ k. NoneFilled making.number k (world old) (world new)) last
            (none_swept (reduce.accounts.makes s) (IsOperand (reduce.task_of s)) making.number s.parts.next t.parts.next
            (world old) (world mid) (world new) starts.may.files more (starts.untaken (run.changes.before told))
            (subst (λ k. StayEmpty (reduce.accounts.makes s) k t.parts.next (world mid) (world new)) may.step_is
            (stay told)));
        calls = λ told exact.
            let below : later.turns < 2 ^ 64 - 1 = omega (arith, exact, turns_are) in
            let its = counted below in
            let few_saves = its.1 in
            let parts = its.2.spent in
            let spends = (its.3 told).paid in
            let shows = late starts.may.paid.shown in
            let shown_is = may.shown_is in
            let stock = starts.stock in
            let owed = owed_is in
            let first_owed_is = starts.owed in
            let begun = starts.calls (run.changes.before told) in
            let long = starts.may.paid.interval in
            let less : 16384 * its.0 ≤ interval_of going.budget * its.0 = mul-le-mul_right its.0 long in
            omega (arith, few_saves, parts, spends, shows, shown_is, stock, owed, first_owed_is, begun, less, turns_are);
        faults = faults;
      }
