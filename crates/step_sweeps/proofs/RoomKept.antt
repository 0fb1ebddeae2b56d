-- The reduction of a step's arcs in the room, and a save of its end.
use Rattle.std.proofs.Common.{◌≡◌, ◌∙◌, ℕ, ◌+◌, ◌-◌, ◌*◌, ◌/◌, ◌^◌, ◌<◌, ◌≤◌, Bool, IsTrue, List, arith}
use Rattle.std.specs.Prelude.{min, max, Result, Ok, Err, IsErrAnd}
use Rattle.shelf_model.specs.declared.fault.StreamFault.{StreamFault}
use Rattle.shelf_model.specs.declared.sort_fault.SortFault.{SortFault}
use Rattle.shelf_model.specs.declared.sort_fault.SortFault.TheVariants.{RunsSpent}
use Rattle.shelf_model.specs.SortFaults.{handed_on}
use Rattle.shelf_model.specs.Calls.{Told}
use Rattle.shelf_model.specs.Faults.{Faults}
use Rattle.shelf_model.specs.Moments.{Ran, Throughout}
use Rattle.shelf_model.specs.World.{Moment, World, now}
use Rattle.shelf_model.proofs.Changing.{told_changed_then}
use Rattle.shelf_model.proofs.Runs.{joins}
use Rattle.run_tiers.specs.Faults.{OnlySortShelf}
use Rattle.run_tiers.proofs.FaultLaws.{sort_shelf_then}
use Rattle.step_going.specs.Standing.{AreSafe}
use Rattle.step_going.proofs.Shown.{stops_join}
use Rattle.sweep_checkpoint.specs.Going.{first_owed}
use Rattle.sweep_checkpoint.specs.declared.going.Going.{Going}
use Rattle.sweep_checkpoint.specs.Stops.{StopsCost}
use Rattle.node_file.specs.Changes.{Changed}
use Rattle.node_file.specs.Canonical.{IsMade}
use Rattle.top_down_sweep.specs.Tasks.{AreArcFiles}
use Rattle.step_sweeps.specs.declared.arcs.MadeArcs.{MadeArcs}
use Rattle.step_sweeps.specs.declared.diagram.MadeDiagram.{MadeDiagram}
use Rattle.step_sweeps.specs.declared.task.Making.{Making}
use Rattle.step_sweeps.specs.Ended.{KeepsMade}
use Rattle.step_sweeps.specs.Given.{Tables}
use Rattle.step_sweeps.specs.Made.{node_file, OnlyStep, HasArcFiles, arc_count}
use Rattle.step_sweeps.specs.Makes.{goes_on_by, table_by, work_for}
use Rattle.step_sweeps.specs.Stops.{shown_by, reduce_stop}
use Rattle.step_sweeps.specs.Sweeping.{AreReducible, MayReduce, Reduces, Takes, calls_of}
use Rattle.sweep_core.proofs.Untaken.{none_then}
use Rattle.step_sweeps.proofs.ArcsReduced.{has_shows, points_meanwhile, room_makes, room_stops, safe_meanwhile, still_covered, still_has}
use Rattle.step_sweeps.proofs.EndedKept.{never_spent, no_damage_of, faults_on, kept_changes, kept_made}
use Rattle.step_sweeps.proofs.Running.{faults_ok, folder_ok}
use Rattle.step_sweeps.proofs.Stops.{still_shows}
use Rattle.step_sweeps.proofs.StopsAnew.{kept_stops}
use Rattle.step_sweeps.proofs.Unfilled.{none_by_points}
use Rattle.step_sweeps.proofs.WaysAnew.{changed_run, node_changes}

module _ {S : Type 0} (tells : S → Bool) (world : S → World) (counts : S → Faults) (making : Making) (m : MadeArcs)
    (going : Going) (files : HasArcFiles making.number m.arcs) (may : MayReduce making.number going m.parts) (arcs : ℕ)
    (arcs_are : arcs ≡ arc_count m.arcs) (few : arcs + 8 ≤ 2 ^ 18) (nodes turns made_turns : ℕ) (old mid new : S) (fits : going.turns < 2 ^ 64)
    (is : turns ≡ arcs / 4 + 1) (turns_are : made_turns ≡ min (going.turns + turns) (2 ^ 64 - 1))
    (made : IsTrue (tells mid) → (table : List Bool) → AreArcFiles making.n table m.arcs (world old)
    → IsMade making.n table (node_file making.number) nodes (world mid))
    (content : Told tells old mid (Changed (2 * arcs + 8) (node_file making.number) (world old) (world mid)))
    (calm : OnlySortShelf {T = Unit} (counts old) (counts mid) (Ok tt)) where
  abbrev Kept : Result Unit StreamFault → Type 0
  Kept r = KeepsMade tells world counts making nodes m.parts.next (record going { turns = made_turns }) mid new r

  both_change : (r : Result Unit StreamFault) → Kept r
      → Told tells old new (Ran (OnlyStep making.number (now (world old))) (world old) (world new))
  both_change r keeps = told_changed_then tells world _ _ old mid new (λ f mine. mine)
      (node_changes tells world making.number old mid
      (changed_run tells world making.number (2 * arcs + 8) old mid content))
      (kept_changes tells world counts making (record going { turns = made_turns }) nodes m.parts.next mid new r keeps)

  both_safe : (r : Result Unit StreamFault) → Kept r → IsTrue (tells new) → (g : Tables)
      → AreReducible making going g 10 m (world old)
      → Throughout (world old) (world new)
      (λ (x : Moment). AreSafe (goes_on_by making g) making.number x.folder)
  both_safe r keeps told_new g are =
      let told_mid = keeps.content.before told_new in
      let run = (content.did told_mid).run in
      let still = (still_has making m (world old) (world mid) files run g are.has).0 in
      let few = are.few in
      let two_each = are.has.has_sources in
      joins (world old) (world mid) (world new)
      (λ (x : Moment). AreSafe (goes_on_by making g) making.number x.folder)
      (safe_meanwhile making m (world old) (world mid) files run g are.has)
      (keeps.images told_new g (record {
        made = made told_mid (table_by making g) are.has.arcs;
        few = omega (arith, few, two_each, arcs_are, is, turns_are);
        last = still.last;
        standing = still.standing;
      }))

  -- what a stop costs
  both_stops : (r : Result Unit StreamFault) → Kept r → IsTrue (tells new) → (g : Tables)
      → (are : AreReducible making going g 10 m (world old)) → work_for making g < 2 ^ 61
      → shown_by are.has.last ≤ going.shown
      → StopsCost making.number (shown_by are.has.last) ((world old).clock + reduce_stop going m.parts.next) (world old)
      (world new)
  both_stops r keeps told_new g are within less =
      let told_mid = keeps.content.before told_new in
      let changed = content.did told_mid in
      let shown : ℕ = shown_by are.has.last in
      let all : ℕ = (world old).clock + reduce_stop going m.parts.next in
      let sure = still_shows making.number shown (world old) (world mid)
      (has_shows making m (world old) g are.has)
      (points_meanwhile making (world old) (world mid) changed.run) in
      let first = changed.few in
      let then = keeps.calls told_new in
      let late = may.paid.shown in
      let turns_few = are.few in
      stops_join making.number shown all (world old) (world mid) (world new) (keeps.content.did told_new).moments.past
      (room_stops tells world counts making m going files may arcs arcs_are few old mid g are.has changed)
      (kept_stops making.number shown (made_turns - 1) all (world mid) (world new) sure
      (omega (arith, less, late, is, turns_are, turns_few, within)) (keeps.shows told_new sure.gate)
      (omega (arith, first, then, few)))

  both_calls : (r : Result Unit StreamFault) → Kept r → IsTrue (tells new) → (sources : ℕ)
      → arc_count m.arcs ≡ 2 * sources
      → (t : Takes (10 * sources + 9) (max going.shown (going.turns + (10 * sources + 8)) - going.shown) 0)
      × ((world new).clock ≤ (world old).clock
      + (calls_of t + 3 + (m.parts.next - first_owed going.last m.parts.next)))
  both_calls r keeps told_new sources two_each =
      let first = (content.did (keeps.content.before told_new)).few in
      let then = keeps.calls told_new in (
        record { saves = 0; parts = 0; few_saves = omega arith; few_parts = omega arith },
        omega (arith, first, then, two_each, arcs_are),
      )

  -- the save was refused
  pub kept_failed : (e : StreamFault) (r : Result MadeDiagram SortFault) → IsErrAnd r (λ x. x ≡ handed_on e)
      → Kept (Err e) → Reduces tells world counts making m going 10 (reduce_stop going m.parts.next) old new r
  kept_failed e (Ok x) at keeps = absurd at
  kept_failed e (Err x) at keeps = record {
    made = tt;
    spent = λ was. absurd (never_spent e x at (let same : x ≡ RunsSpent = cc in same));
    images = both_safe (Err e) keeps;
    undamaged = λ told_new are covered. no_damage_of e x at (keeps.cause told_new
        (still_covered making m (world old) (world mid) files (content.did (keeps.content.before told_new)).run
        covered));
    content = both_change (Err e) keeps;
    counted = tt;
    taken = tt;
    untaken = tt;
    calls = tt;
    few_calls = λ told_new g are. both_calls (Err e) keeps told_new are.has.sources are.has.has_sources;
    stops = both_stops (Err e) keeps;
    faults = sort_shelf_then _ _ _ (Ok tt) (Err x) calm (faults_on (counts mid) (counts new) e x at keeps.faults);
  }

  -- it was made, or wasn't due
  pub kept_makes : (d : MadeDiagram) → d.nodes ≡ nodes → d.turns ≡ made_turns → d.next ≡ m.parts.next → Kept (Ok tt)
      → OnlySortShelf {T = MadeDiagram} (counts old) (counts mid) (Ok d)
      → Reduces tells world counts making m going 10 (reduce_stop going m.parts.next) old new (Ok d)
  kept_makes d nodes_are made_are next_is keeps first_calm =
      let first = room_makes tells world counts making m going files may arcs arcs_are few nodes turns d old mid fits is
      nodes_are (made_are ∙ turns_are) next_is made content first_calm in
      record {
        made = λ told_new g are.
            let its = first.made (keeps.content.before told_new) g are in (
              kept_made tells world counts making (record going { turns = made_turns }) nodes m.parts.next mid new
                  (Ok tt) keeps (table_by making g) d.nodes told_new its.0,
              its.1,
            );
        spent = λ was. absurd (cc);
        images = both_safe (Ok tt) keeps;
        undamaged = tt;
        content = both_change (Ok tt) keeps;
        counted = first.counted;
        taken = first.taken;
        untaken = (
          first.untaken.0,
          λ told_new. none_then making.number d.next d.next (world old) (world mid) (world new) (omega arith)
              (first.untaken.1 (keeps.content.before told_new))
              (none_by_points making.number d.next (world mid) (world new)
              (let past = may.past in omega (arith, past, next_is)) (keeps.content.did told_new)),
        );
        calls = λ exact. (
          record { saves = 0; parts = 0; few_saves = omega arith; few_parts = omega arith },
          λ told_new.
              let first = (content.did (keeps.content.before told_new)).few in
              let then = keeps.calls told_new in
              omega (arith, first, then, is, made_are, turns_are, exact),
        );
        few_calls = λ told_new g are. both_calls (Ok tt) keeps told_new are.has.sources are.has.has_sources;
        stops = both_stops (Ok tt) keeps;
        faults = faults_ok (counts old) (counts mid) (counts new) (Ok tt) (Ok tt) d calm
            (folder_ok (counts mid) (counts new) tt keeps.faults);
      }
