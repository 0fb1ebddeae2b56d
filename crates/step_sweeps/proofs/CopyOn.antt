-- A copy that goes on from a step's last checkpoint: what it makes and takes, whether a turn was refused, the file that
-- it made couldn't be measured, or it ended.
use Rattle.std.proofs.Common.{◌≡◌, ◌∙◌, ℕ, ◌+◌, ◌-◌, ◌*◌, ◌/◌, ◌^◌, ◌<◌, ◌≤◌, Bool, IsTrue, List, take, length, ap, sym, subst, inl, inr, mul-le-mul_right, arith}
use Rattle.std.specs.Prelude.{min, Result, Ok, Err, IsErrOf}
use Rattle.std.proofs.lemmas.Bool.{cases_lt}
use Rattle.std.proofs.lemmas.List.{take_all}
use Rattle.shelf_model.specs.declared.file_no.FileNo.{FileNo}
use Rattle.shelf_model.specs.declared.fault.Failed.{Failed}
use Rattle.shelf_model.specs.declared.sort_fault.SortFault.{SortFault}
use Rattle.shelf_model.specs.declared.sort_fault.SortFault.TheVariants.{Shelf, RunsSpent}
use Rattle.shelf_model.specs.Calls.{Told, Measured, most_piece}
use Rattle.shelf_model.specs.Faults.{Faults, OnlyFolder}
use Rattle.shelf_model.specs.File.{File, firm_file}
use Rattle.shelf_model.specs.Folder.{AreFiles, file_in}
use Rattle.shelf_model.specs.Moments.{Ran, Throughout}
use Rattle.shelf_model.specs.World.{Moment, World, now, file}
use Rattle.shelf_model.proofs.Changing.{told_changed_then}
use Rattle.shelf_model.proofs.Runs.{at_end, goes_on, joins, ran_end, ran_on, told_then}
use Rattle.canon_file.specs.Canon.{canon_nodes, canon_bytes}
use Rattle.copied_diagrams.proofs.TrailerFacts.{long_canonical}
use Rattle.copy_sweep.specs.declared.copy.CopySweep.{CopySweep}
use Rattle.copy_sweep.specs.declared.copy.CopyTask.{CopyTask}
use Rattle.copy_sweep.specs.Copies.{accounts, fuel_of, left_of, Copies, IsInStep}
use Rattle.copy_sweep.specs.Resumes.{copy_saving}
use Rattle.copy_sweep.specs.Resumes as laws
use Rattle.copy_sweep.proofs.Copying.{all_copied}
use Rattle.run_tiers.specs.Faults.{OnlySortShelf}
use Rattle.step_going.specs.Standing.{AreSafe}
use Rattle.step_going.proofs.GoneOn.{GoesOnBy}
use Rattle.step_going.proofs.Shown.{stops_more}
use Rattle.sweep_checkpoint.specs.Going.{GoesOn, IsOfGoing, TakesParts, TakesCalls, IsPaidTo, interval_of, first_owed}
use Rattle.sweep_checkpoint.specs.declared.going.Going.{Going}
use Rattle.sweep_checkpoint.specs.Stops.{StopsCost}
use Rattle.sweep_core.specs.Accounts.{NoneFilled, StayEmpty}
use Rattle.sweep_core.specs.Saving.{reads_of}
use Rattle.sweep_core.specs.Sweeps.{IsNoDamage}
use Rattle.resumable.specs.Diagrams.{copy_of, diagram_rests}
use Rattle.resumable.proofs.Makings.{copy_goes}
use Rattle.resumable.proofs.Resting.{copy_sees}
use Rattle.step_sweeps.specs.declared.diagram.MadeDiagram.{MadeDiagram}
use Rattle.step_sweeps.specs.declared.task.Making.{Making}
use Rattle.step_sweeps.specs.Copied.{CopiesTo}
use Rattle.step_sweeps.specs.Given.{Tables}
use Rattle.step_sweeps.specs.Going.{rest_calls}
use Rattle.step_sweeps.specs.Kinds.{copy_kind}
use Rattle.step_sweeps.specs.Made.{node_file, OnlyStep}
use Rattle.step_sweeps.specs.Makes.{IsGivenFor, goes_on_by, table_by, work_for, operand_nodes}
use Rattle.step_sweeps.specs.Started.{Starts, IsUnderWay}
use Rattle.step_sweeps.specs.Stops.{shown_by, sweeps_stop}
use Rattle.step_sweeps.specs.Sweeping.{MayResume, Sweeps, IsCovered, IsOperand, most_turns, owed_parts}
use Rattle.step_sweeps.proofs.CopyRuns.{RanCopy}
use Rattle.step_sweeps.proofs.Stops.{resumed_shown, started_stops, stops_call}
use Rattle.step_sweeps.proofs.UnderWay.{way_sure, way_covered, way_safe}
use Rattle.step_sweeps.proofs.Unfilled.{none_swept}

-- the calls of a copy that goes on, of which so many turns were made or were left, behind what going on costs
calls_on : (more interval saves next later from rest old mid new : ℕ) → 16384 ≤ interval → interval * saves ≤ more
    → next ≤ from → 256 * (later - next) ≤ 12 * (more + 1) + 4608 * saves → mid + 2 * 198 ≤ old + rest
    → new ≤ mid + (224 * (more + 1) + 66126 * saves + (later - from)) → new ≤ old + (229 * (more + 1) + rest)
calls_on more interval saves next later from rest old mid new long few owed parts begun calls =
    let less : 16384 * saves ≤ interval * saves = mul-le-mul_right saves long in
    omega (arith, few, less, owed, parts, begun, calls)

-- a failed call of the folder, or one that didn't fail, behind others
pub measured_err : {A : Type 0} (old mid new : Faults) (s : A) (failed : Failed)
    → OnlySortShelf {T = A} old mid (Ok s) → OnlyFolder {T = ℕ} mid new (Err failed)
    → OnlySortShelf {T = MadeDiagram} old new (Err Shelf)
measured_err old mid new s failed one two = record {
  later = let a : old.folder ≤ mid.folder = one.later in
      let b : mid.folder ≤ new.folder = two.later in
      omega (arith, a, b);
  cause = λ is. let a : old.folder ≤ mid.folder = one.later in
      let b = two.cause in
      omega (arith, a, b);
  say_is = two.say_is ∙ one.say_is;
  text_is = λ path. two.text_is path ∙ one.text_is path;
}

pub measured_ok : {A : Type 0} (old mid new : Faults) (s : A) (size : ℕ) (d : MadeDiagram)
    → OnlySortShelf {T = A} old mid (Ok s) → OnlyFolder {T = ℕ} mid new (Ok size)
    → OnlySortShelf {T = MadeDiagram} old new (Ok d)
measured_ok old mid new s size d one two = record {
  later = let a : old.folder ≤ mid.folder = one.later in
      let b : mid.folder ≤ new.folder = two.later in
      omega (arith, a, b);
  cause = λ is. absurd (cc);
  say_is = two.say_is ∙ one.say_is;
  text_is = λ path. two.text_is path ∙ one.text_is path;
}

module _ {S : Type 0} (tells : S → Bool) (world : S → World) (counts : S → Faults) (making : Making) (going : Going)
    (may : MayResume making.number going) (first : going.sweep ≡ 0) (s t : CopySweep) (old mid new : S)
    (starts : Starts tells world counts copy_kind (λ g job p. CopiesTo making g job p) (λ g. work_for making g - 1) 0
    making going old mid s)
    (operand : IsOperand making s.task.from) (to_is : s.task.to ≡ node_file making.number)
    (run : RanCopy tells world going s t mid new) where
  -- the step stands with a checkpoint
  most_is : (g : Tables) → most_turns going.last making going g ≡ work_for making g
  most_is g = ap (λ last. most_turns last making going g) may.at_point.last_is

  owed_is : owed_parts going.last ≡ 198
  owed_is = ap owed_parts may.at_point.last_is

  -- only files of the step are changed
  on_content : Told tells old new (Ran (OnlyStep making.number (now (world old))) (world old) (world new))
  on_content = told_changed_then tells world (λ q. q.step ≡ making.number) (IsOfGoing (accounts.makes s) going.step)
      old mid new
      (λ f is. elim is [
        | inl mine ↦ ap (λ (x : FileNo). x.step) (mine ∙ to_is)
        | inr rest ↦ rest.0 ∙ may.step_is
      ]) starts.content run.changes

  module _ (told_new : IsTrue (tells new)) (g : Tables) (given : IsGivenFor making going (world old) g) where
    told_mid : IsTrue (tells mid)
    told_mid = run.changes.before told_new

    abbrev bytes : List ℕ
    bytes = canon_bytes making.n (table_by making g)

    abbrev job : List ℕ
    job = (starts.under_way told_mid g given).0

    does : CopiesTo making g job s
    does = (starts.under_way told_mid g given).1

    way : IsUnderWay copy_kind making g going.last job s (world mid)
    way = (starts.under_way told_mid g given).2

    few_left : going.turns + left_of s + 1 ≤ work_for making g
    few_left = let few = (starts.under_way told_mid g given).3 in omega (arith, few)

    task_so : s.task ≡ copy_of s.task.from making.number bytes
    task_so = does.task_is ∙ ap (copy_of s.task.from making.number) does.bytes_are

    on_by : GoesOnBy copy_saving (goes_on_by making g) diagram_rests making.number going.sweep
        s.task job (going.turns + left_of s)
    on_by = subst (λ k. GoesOnBy copy_saving (goes_on_by making g) diagram_rests making.number
        k s.task job (going.turns + left_of s)) (sym first) (record {
          goes_on = λ r goes. copy_goes making.operation making.n making.operands making.number g
              (going.turns + left_of s) r s.task.from operand does.form
              (subst (λ x. GoesOn copy_saving making.number 0 x bytes (going.turns + left_of s) r) task_so
              (subst (λ x. GoesOn copy_saving making.number 0 s.task x (going.turns + left_of s) r)
              does.bytes_are goes)) (let few = few_left in omega (arith, few));
          rests_within = λ r goes. copy_sees making.number (going.turns + left_of s) r s.task job goes;
          apart = laws.apart;
        })

    pub on_images : Throughout (world old) (world new)
        (λ (x : Moment). AreSafe (goes_on_by making g) making.number x.folder)
    on_images = joins (world old) (world mid) (world new)
        (λ (x : Moment). AreSafe (goes_on_by making g) making.number x.folder)
        (starts.images told_mid g given)
        (way_safe copy_kind making going g going.last job s (world mid) way may.step_is on_by (world new)
        (run.images told_new job way.remains (way_sure copy_kind making going g going.last job s (world mid) way
        may.step_is) starts.may.paid))

    -- what a stop costs
    run_stops : work_for making g < 2 ^ 61 → StopsCost making.number (shown_by going.last) ((world old).clock
        + (0 + (224 * 65536 + 2 ^ 17) + rest_calls going.last (operand_nodes making (reads_of (world old)))))
        (world old) (world new)
    run_stops within = started_stops tells world counts copy_kind (λ g job p. CopiesTo making g job p)
        (λ g. work_for making g - 1) 0 making going old mid s starts told_mid g given new may.step_is
        (resumed_shown making.number going may) (omega (arith, within)) (run.changes.did told_new).moments.past
        (run.stops told_new)

    on_stops : work_for making g < 2 ^ 61 → StopsCost making.number (shown_by going.last) ((world old).clock
        + (sweeps_stop + rest_calls going.last (operand_nodes making (reads_of (world old)))))
        (world old) (world new)
    on_stops within = stops_more making.number (shown_by going.last) _ _ (world old) (world new) (omega arith)
        (run_stops within)

    pub on_covered : AreFiles (now (world mid)).folder → IsCovered making.number (world mid)
    on_covered = way_covered copy_kind making going g going.last job s (world mid) way may.step_is

    pub on_few : (world new).clock + 229 * going.turns ≤ (world old).clock
        + (229 * most_turns going.last making going g
        + rest_calls going.last (operand_nodes making (reads_of (world old))))
    on_few =
        let its = run.took told_new job way.remains in
        let few = its.1 in
        let shown_is = may.shown_is in
        let owed = owed_is in
        let begun = starts.calls told_mid in
        let parts = its.2.spent in
        let spends = its.3.paid in
        let all = most_is g in
        let within = few_left in
        let calls = calls_on (left_of s) (interval_of going.budget) its.0 s.parts.next t.parts.next
        (first_owed going.last s.parts.next) (rest_calls going.last (operand_nodes making (reads_of (world old))))
        (world old).clock (world mid).clock (world new).clock starts.may.paid.interval (omega (arith, few, shown_is))
        starts.owed (omega (arith, parts)) (omega (arith, begun, owed)) (omega (arith, spends)) in
        omega (arith, calls, all, within)

    on_work : 2 ^ 32 ≤ t.parts.next → 2 ^ 35 ≤ work_for making g
    on_work spent =
        let its = run.took told_new job way.remains in
        let paid = starts.may.paid.paid in
        let shown = starts.may.paid.shown in
        let few = its.1 in
        let parts = its.2.spent in
        let within = few_left in
        let long = starts.may.paid.interval in
        let less : 16384 * its.0 ≤ interval_of going.budget * its.0 = mul-le-mul_right its.0 long in
        omega (arith, paid, shown, few, parts, within, less, spent)

    -- all of it is copied at the end
    on_all : t.task ≡ s.task → fuel_of t ≡ 0 → IsInStep t (world new) → Copies t (world new) job
        → file (world new) (node_file making.number) ≡ firm_file bytes
    on_all same none step copies =
        let enough : length bytes ≤ (copy_of s.task.from making.number bytes).pieces * most_piece = omega arith in
        subst (λ (x : CopyTask). file (world new) x.to ≡ firm_file (take (x.pieces * most_piece) bytes))
        (same ∙ task_so)
        (all_copied t (world new) bytes none step (subst (λ b. Copies t (world new) b) does.bytes_are copies))
        ∙ ap firm_file (take_all _ bytes enough)

  -- a turn or a save was refused
  pub on_refused : (e : SortFault) → (IsErrOf {T = MadeDiagram} (Err e) RunsSpent → 2 ^ 32 ≤ t.parts.next)
      → (IsTrue (tells mid) → AreFiles (now (world mid)).folder)
      → (IsTrue (tells new) → (b : List ℕ) → Copies s (world mid) b → IsCovered going.step (world mid)
      → IsNoDamage e)
      → OnlySortShelf {T = MadeDiagram} (counts old) (counts new) (Err e)
      → Sweeps tells world counts making going old new (Err e)
  on_refused e spent files_are undamaged faults = record {
    made = tt;
    undamaged = λ told g given. undamaged told (job told g given) (way told g given).remains
        (subst (λ k. IsCovered k (world mid)) (sym may.step_is)
        (on_covered told g given (files_are (told_mid told g given))));
    spent = λ was told g given. on_work told g given (spent was);
    few_calls = λ told g given. let few = on_few told g given in omega (arith, few);
    images = on_images;
    stops = on_stops;
    damaged = λ told anew none. absurd (let last_is = may.at_point.last_is in cc);
    content = on_content;
    counted = tt;
    few_anew = tt;
    untaken = tt;
    calls = tt;
    faults = faults;
  }

  -- or it ended, and the file that was made was looked at
  module _ (end : S) (to : FileNo) (to_same : to ≡ node_file making.number) (r : Result ℕ Failed)
      (look : Told tells new end (Measured to r (world new) (world end))) where
    end_images : IsTrue (tells end) → (g : Tables) → IsGivenFor making going (world old) g
        → Throughout (world old) (world end)
        (λ (x : Moment). AreSafe (goes_on_by making g) making.number x.folder)
    end_images told_end g given =
        let did = look.did told_end in
        let safe = on_images (look.before told_end) g given in
        goes_on (world old) (world new) (world end)
        (λ (x : Moment). AreSafe (goes_on_by making g) making.number x.folder) safe did.shelf.ticks
        (subst (λ (x : Moment). AreSafe (goes_on_by making g) making.number x.folder) (sym did.same)
        (at_end (world old) (world new)
        (λ (x : Moment). AreSafe (goes_on_by making g) making.number x.folder) safe))

    end_content : Told tells old end (Ran (OnlyStep making.number (now (world old))) (world old) (world end))
    end_content = told_then tells old new end _ _ _ on_content look (λ _ ran did.
        ran_on (world old) (world new) (world end) (OnlyStep making.number (now (world old))) ran did.shelf
        (subst (OnlyStep making.number (now (world old))) (sym did.same)
        (ran_end (world old) (world new) (OnlyStep making.number (now (world old))) ran)))

    end_stops : IsTrue (tells end) → (g : Tables) → IsGivenFor making going (world old) g
        → work_for making g < 2 ^ 61 → StopsCost making.number (shown_by going.last) ((world old).clock
        + (sweeps_stop + rest_calls going.last (operand_nodes making (reads_of (world old)))))
        (world old) (world end)
    end_stops told_end g given within =
        let did = look.did told_end in
        let told_new = look.before told_end in
        stops_more making.number (shown_by going.last) _ _ (world old) (world end) (omega arith)
        (stops_call making.number (shown_by going.last) _ (world old) (world new) (world end)
        (on_content.did told_new).moments.later did.shelf.ticks did.same (run_stops told_new g given within))

    end_few : IsTrue (tells end) → (g : Tables) → IsGivenFor making going (world old) g
        → (world end).clock + 229 * going.turns ≤ (world old).clock
        + (229 * most_turns going.last making going g + 11
        + rest_calls going.last (operand_nodes making (reads_of (world old))))
    end_few told_end g given =
        let few = on_few (look.before told_end) g given in
        let once = (look.did told_end).shelf.ticks.clock_is in
        omega (arith, few, once)

    -- it couldn't be measured
    pub on_unmeasured : OnlySortShelf {T = MadeDiagram} (counts old) (counts end) (Err Shelf)
        → Sweeps tells world counts making going old end (Err Shelf)
    on_unmeasured faults = record {
      made = tt;
      undamaged = λ told g given. tt;
      spent = λ was. absurd (cc);
      few_calls = end_few;
      images = end_images;
      stops = end_stops;
      damaged = λ told anew none. absurd (let last_is = may.at_point.last_is in cc);
      content = end_content;
      counted = tt;
      few_anew = tt;
      untaken = tt;
      calls = tt;
      faults = faults;
    }

    -- or it has the bytes of the diagram
    pub on_ended : (later : Going) (d : MadeDiagram) (size : ℕ) → d.nodes ≡ size / 24 - 1 → d.turns ≡ later.turns
        → d.next ≡ min t.parts.next (2 ^ 32) → s.parts.next ≤ t.parts.next
        → (s.parts.next ≤ 2 ^ 32 → t.parts.next ≤ 2 ^ 32)
        → (IsTrue (tells new) → StayEmpty (accounts.makes s) going.step t.parts.next (world mid) (world new))
        → (later.turns < 2 ^ 64 - 1 → IsPaidTo accounts going s → IsPaidTo accounts later t)
        → (IsTrue (tells end) → size ≡ length (file (world new) to).bytes)
        → (going.turns ≤ later.turns) × (0 < later.turns)
        → (going.shown ≤ going.turns → later.shown ≤ later.turns)
        → (later.turns < 2 ^ 64 - 1 → (saves : ℕ)
        × (interval_of going.budget * saves + going.shown ≤ later.shown)
        × TakesParts accounts (later.turns - going.turns) saves s t
        × (IsTrue (tells new) → TakesCalls accounts (later.turns - going.turns) saves
        (first_owed going.last s.parts.next) (world mid) (world new) s t))
        → (IsTrue (tells new) → (b : List ℕ) → Copies s (world mid) b
        → later.turns ≤ going.turns + left_of s + 1)
        → (IsTrue (tells new) → (b : List ℕ) → Copies s (world mid) b → Copies t (world new) b)
        → t.task ≡ s.task → fuel_of t ≡ 0 → (IsTrue (tells new) → IsInStep t (world new))
        → OnlySortShelf {T = MadeDiagram} (counts old) (counts end) (Ok d)
        → Sweeps tells world counts making going old end (Ok d)
    on_ended later d size nodes turns_are next_is next_more within stay paid size_is grew late counted few keeps same none
        step faults = record {
          made = λ told_end g given.
              let told = look.before told_end in
              let left = few_left told g given in
              let turns = few told (job told g given) (way told g given).remains in
              let all = most_is g in
              let whole = on_all told g given same none (step told)
              (keeps told (job told g given) (way told g given).remains) in
              let measured : size ≡ length (bytes told g given) =
              size_is told_end ∙ ap (λ f. length (file (world new) f).bytes) to_same
              ∙ ap (λ (x : File). length x.bytes) whole in
              let long : length (bytes told g given) ≡ (length (canon_nodes making.n (table_by making g)) + 1) * 24 =
              long_canonical making.n (table_by making g) in (
                record {
                  form = (does told g given).form;
                  file_is = ap (λ (x : Moment). file_in x.folder (node_file making.number)) (look.did told_end).same
                      ∙ whole;
                  nodes_are = omega (arith, nodes, measured, long);
                },
                omega (arith, left, turns, all, turns_are),
              );
          undamaged = tt;
          spent = λ was. absurd (cc);
          few_calls = end_few;
          images = end_images;
          stops = end_stops;
          damaged = tt;
          content = end_content;
          counted =
              let more = grew.0 in
              let some = grew.1 in
              let from = starts.may.files.parts in (
                omega (arith, more, turns_are),
                record {
                  some = omega (arith, some, turns_are);
                  from = omega (arith, next_is, next_more, from);
                  below = omega (arith, next_is);
                  few = elim (cases_lt later.turns (2 ^ 64 - 1)) [
                    | inl exact ↦ (let sum = (paid exact starts.may.paid).paid in
                        let shows = late starts.may.paid.shown in
                        omega (arith, sum, shows, turns_are, next_is))
                    | inr above ↦ omega (arith, above, turns_are, next_is)
                  ];
                },
              );
          few_anew = λ anew. absurd (let last_is = may.at_point.last_is in cc);
          untaken =
              let most = within starts.within in
              let last : t.parts.next ≡ d.next = omega (arith, next_is, most) in
              λ told_end f free empty.
              let told = look.before told_end in
              let none : NoneFilled making.number d.next (world old) (world new) =
              subst (λ k. NoneFilled making.number k (world old) (world new)) last
              (none_swept (accounts.makes s) (λ q. q ≡ s.task.from) making.number s.parts.next t.parts.next (world old)
              (world mid) (world new) starts.may.files next_more (starts.untaken (run.changes.before told))
              (subst (λ k. StayEmpty (accounts.makes s) k t.parts.next (world mid) (world new)) may.step_is (stay told))) in
              ap (λ (x : Moment). (file_in x.folder f).bytes) (look.did told_end).same ∙ none f free empty;
          calls = λ told_end exact.
              let told = look.before told_end in
              let once = (look.did told_end).shelf.ticks.clock_is in
              let its = counted (omega (arith, exact, turns_are)) in
              let few_saves = its.1 in
              let parts = its.2.spent in
              let spends = (its.3 told).paid in
              let shows = late starts.may.paid.shown in
              let shown_is = may.shown_is in
              let owed = owed_is in
              let first_owed_is = starts.owed in
              let begun = starts.calls (run.changes.before told) in
              let long = starts.may.paid.interval in
              let more = grew.0 in
              let less : 16384 * its.0 ≤ interval_of going.budget * its.0 = mul-le-mul_right its.0 long in
              omega (
                arith,
                once,
                few_saves,
                parts,
                spends,
                shows,
                shown_is,
                owed,
                first_owed_is,
                begun,
                more,
                less,
                turns_are,
              );
          faults = faults;
        }
