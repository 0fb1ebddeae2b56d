-- The reduction of a step's arcs: in the room, by a sweep, and by a sweep after the room was tried.
use Rattle.std.proofs.Common.{◌≡◌, ◌≢◌, ◌∙◌, ℕ, ◌+◌, ◌-◌, ◌*◌, ◌/◌, ◌^◌, ◌<◌, ◌≤◌, Bool, IsTrue, List, length, refl, ap, sym, subst, arith}
use Rattle.std.specs.Prelude.{min, max, Option, Some, None, Result, Ok, Err, IsErrAnd}
use Rattle.shelf_model.specs.declared.file_no.FileNo.{FileNo}
use Rattle.shelf_model.specs.declared.sort_fault.SortFault.{SortFault}
use Rattle.shelf_model.specs.declared.sort_fault.SortFault.TheVariants.{Shelf, RunsSpent}
use Rattle.shelf_model.specs.Calls.{Told}
use Rattle.shelf_model.specs.Faults.{Faults}
use Rattle.shelf_model.specs.File.{File}
use Rattle.shelf_model.specs.Moments.{Ran, Throughout, OnlyChanged}
use Rattle.shelf_model.specs.World.{Moment, World, now, file}
use Rattle.shelf_model.proofs.Changing.{changed_more, told_changed_then}
use Rattle.shelf_model.proofs.Runs.{joins, ran_end, told}
use Rattle.file_numbers.specs.Files.{checkpoint_file, checkpoint_gate}
use Rattle.run_tiers.specs.Faults.{OnlySortShelf}
use Rattle.run_tiers.specs.Syncs.{IsFirm}
use Rattle.run_tiers.proofs.FaultLaws.{sort_shelf_then}
use Rattle.step_going.specs.Standing.{AreSafe}
use Rattle.step_going.proofs.Shown.{ShowsSurely, standing_shows, quiet_stops, stops_join, stops_more}
use Rattle.step_going.proofs.Kept.{RestsApart, safe_over, standing_over}
use Rattle.sweep_checkpoint.specs.Going.{interval_of, first_owed}
use Rattle.sweep_checkpoint.specs.declared.going.Going.{Going}
use Rattle.sweep_checkpoint.specs.Stops.{SamePoints, StopsCost}
use Rattle.sweep_core.specs.declared.checkpoint.Checkpoint.{Checkpoint}
use Rattle.sweep_core.specs.Sweeps.{IsNoDamage}
use Rattle.sweep_core.proofs.Untaken.{none_then}
use Rattle.resumable.specs.Diagrams.{diagram_rests}
use Rattle.resumable.proofs.DiagramPoints.{diagram_local}
use Rattle.arc_file.specs.declared.unreduced.Unreduced.{Unreduced}
use Rattle.arc_file.specs.declared.kind.Kind.TheVariants.{Inner, End}
use Rattle.arc_file.specs.Files.{HasArcs}
use Rattle.node_file.specs.Changes.{Changed}
use Rattle.node_file.specs.Canonical.{IsMade}
use Rattle.top_down_sweep.specs.Ordered.{AreOrdered}
use Rattle.top_down_sweep.specs.Tasks.{AreArcFiles}
use Rattle.step_sweeps.specs.declared.arcs.MadeArcs.{MadeArcs}
use Rattle.step_sweeps.specs.declared.diagram.MadeDiagram.{MadeDiagram}
use Rattle.step_sweeps.specs.declared.task.Making.{Making}
use Rattle.step_sweeps.specs.Given.{Tables}
use Rattle.step_sweeps.specs.Made.{node_file, OnlyStep, HasArcFiles, arc_count}
use Rattle.step_sweeps.specs.Makes.{goes_on_by, table_by}
use Rattle.step_sweeps.specs.Stops.{shown_by, sweep_stop, reduce_stop}
use Rattle.step_sweeps.specs.Sweeping.{HasArcsOf, AreReducible, MayReduce, Reduces, Takes, IsCovered, calls_of}
use Rattle.step_sweeps.proofs.Running.{ok_more, ok_both, err_more, gate_apart, points_apart}
use Rattle.step_sweeps.proofs.StopsAnew.{held_points}
use Rattle.step_sweeps.proofs.Unfilled.{none_by_nodes}

-- files of a step that aren't its node file: the two of arcs, its checkpoints and their gate
inner_apart : (number : ℕ) (arcs : Unreduced) → HasArcFiles number arcs → ¬ (arcs.inner ≡ node_file number)
inner_apart number arcs files same = absurd (
    let inner : arcs.inner.part ≡ 3 = ap (λ (f : FileNo). f.part) files.inner_is in
    let part : arcs.inner.part ≡ 0 = ap (λ (f : FileNo). f.part) same in
    omega (arith, inner, part))

ends_apart : (number : ℕ) (arcs : Unreduced) → HasArcFiles number arcs → ¬ (arcs.ends ≡ node_file number)
ends_apart number arcs files same = absurd (
    let ends : arcs.ends.part ≡ 4 = ap (λ (f : FileNo). f.part) files.ends_are in
    let part : arcs.ends.part ≡ 0 = ap (λ (f : FileNo). f.part) same in
    omega (arith, ends, part))

last_apart : (number : ℕ) (last : Option Checkpoint)
    → ((c : Checkpoint) → last ≡ Some c → (f : FileNo) (n : ℕ) → diagram_rests c f n → f ≢ node_file number)
    → RestsApart diagram_rests (λ q. q ≡ node_file number) number last
last_apart number None apart = tt
last_apart number (Some c) apart = (points_apart number, apart c refl)

-- what an attempt in the room took is paid for beside the sweep
tried_few : (again interval turns later shown arcs old mid : ℕ) → arcs + 8 ≤ 2 ^ 18 → turns ≤ later
    → mid ≤ old + (2 * arcs + 8)
    → mid + (again + 224 * (interval - (later - shown)) + 2 ^ 17 + 2 ^ 10)
    ≤ old + (again + 224 * (interval - (turns - shown)) + 2 ^ 17 + 2 ^ 10 + 2 ^ 19)
tried_few again interval turns later shown arcs old mid few more calls = omega (arith, few, more, calls)

-- the last checkpoint of a step that stands is shown
pub has_shows : (making : Making) (m : MadeArcs) (world : World) (g : Tables)
    (has : HasArcsOf making g m world) → ShowsSurely making.number (shown_by has.last) (now world).folder
has_shows making m world g has = standing_shows (goes_on_by making g) diagram_rests making.number
    m.parts.next (now world).folder has.last has.standing

-- where the step's node file alone was changed the checkpoints and their gate stay
pub points_meanwhile : (making : Making) (old new : World)
    → Ran (OnlyChanged (λ q. q ≡ node_file making.number) (now old)) old new
    → Throughout old new (λ (x : Moment). SamePoints making.number (now old).folder x.folder)
points_meanwhile making old new ran = held_points (λ q. q ≡ node_file making.number) making.number old new
    (points_apart making.number) (gate_apart making.number) ran

-- where the step's node file alone was changed
module _ (making : Making) (m : MadeArcs) (old new : World) (files : HasArcFiles making.number m.arcs)
    (ran : Ran (OnlyChanged (λ q. q ≡ node_file making.number) (now old)) old new) where
  stays : (f : FileNo) → ¬ (f ≡ node_file making.number) → file new f ≡ file old f
  stays f other = ran_end old new (OnlyChanged (λ q. q ≡ node_file making.number) (now old)) ran f other

  inner_stays : file new m.arcs.inner ≡ file old m.arcs.inner
  inner_stays = stays m.arcs.inner (inner_apart making.number m.arcs files)

  ends_stay : file new m.arcs.ends ≡ file old m.arcs.ends
  ends_stay = stays m.arcs.ends (ends_apart making.number m.arcs files)

  -- arcs are in order, if they were
  pub still_ordered : AreOrdered m.arcs old → AreOrdered m.arcs new
  still_ordered are = record {
    inner = are.inner;
    ends = are.ends;
    inner_has = subst (λ (x : File). HasArcs Inner are.inner m.arcs.inner_count x.bytes) (sym inner_stays) are.inner_has;
    ends_has = subst (λ (x : File). HasArcs End are.ends m.arcs.ends_count x.bytes) (sym ends_stay) are.ends_has;
  }

  -- all checkpoints that are gated are there, if they were
  pub still_covered : IsCovered making.number old → IsCovered making.number new
  still_covered covered =
      let gate : length (file new (checkpoint_gate making.number)).bytes
      ≡ length (file old (checkpoint_gate making.number)).bytes =
      ap (λ (x : File). length x.bytes) (stays (checkpoint_gate making.number) (gate_apart making.number)) in
      let points : length (file new (checkpoint_file making.number)).bytes
      ≡ length (file old (checkpoint_file making.number)).bytes =
      ap (λ (x : File). length x.bytes) (stays (checkpoint_file making.number) (points_apart making.number)) in
      omega (arith, covered, gate, points)

  module _ (g : Tables) (has : HasArcsOf making g m old) where
    -- whatever a stop leaves meanwhile can be gone on with
    pub safe_meanwhile : Throughout old new (λ (x : Moment). AreSafe (goes_on_by making g) making.number x.folder)
    safe_meanwhile = safe_over (goes_on_by making g) diagram_rests making.number
        (diagram_local making.operation making.n making.operands making.number g)
        (λ q. q ≡ node_file making.number) m.parts.next has.last (gate_apart making.number)
        (last_apart making.number has.last has.apart) old new ran has.standing

    -- and the arcs are those of the table's diagram still
    pub still_has : (are : HasArcsOf making g m new) × (are.sources ≡ has.sources) × (are.last ≡ has.last)
    still_has = (
      record {
        arcs = record {
          inner = has.arcs.inner;
          ends = has.arcs.ends;
          inner_has = subst (λ (x : File). HasArcs Inner has.arcs.inner m.arcs.inner_count x.bytes) (sym inner_stays)
              has.arcs.inner_has;
          ends_has = subst (λ (x : File). HasArcs End has.arcs.ends m.arcs.ends_count x.bytes) (sym ends_stay)
              has.arcs.ends_has;
          diagram = has.arcs.diagram;
        };
        sources = has.sources;
        has_sources = has.has_sources;
        inner_firm = subst IsFirm (sym inner_stays) has.inner_firm;
        ends_firm = subst IsFirm (sym ends_stay) has.ends_firm;
        last = has.last;
        standing = standing_over (goes_on_by making g) diagram_rests making.number
            (diagram_local making.operation making.n making.operands making.number g)
            (λ q. q ≡ node_file making.number) m.parts.next has.last (gate_apart making.number)
            (last_apart making.number has.last has.apart) old new ran has.standing;
        apart = has.apart;
      },
      refl,
      refl,
    )

module _ {S : Type 0} (tells : S → Bool) (world : S → World) (counts : S → Faults) (making : Making) (m : MadeArcs)
    (going : Going) where
  -- what changes the node file alone changes only files of the step
  node_changes : (most : ℕ) (old new : S)
      → Told tells old new (Changed most (node_file making.number) (world old) (world new))
      → Told tells old new (Ran (OnlyStep making.number (now (world old))) (world old) (world new))
  node_changes most old new did = told tells old new _ _ did
      (λ _ changed. changed_more (λ q. q ≡ node_file making.number) (λ q. q.step ≡ making.number) (world old)
      (world new) (λ f is. ap (λ (x : FileNo). x.step) is) changed.run)

  -- a fault that is handed on
  pub handed_reduction : (each stop : ℕ) (old new : S) (e : SortFault) (r : Result MadeDiagram SortFault)
      → IsErrAnd r (λ x. x ≡ e) → Reduces tells world counts making m going each stop old new (Err e)
      → Reduces tells world counts making m going each stop old new r
  handed_reduction each stop old new e (Ok x) is reduces = absurd is
  handed_reduction each stop old new e (Err x) is reduces =
      subst (λ (y : SortFault). Reduces tells world counts making m going each stop old new (Err y)) (sym is) reduces

  -- with ten turns for each source there are eight
  fewer : (g : Tables) (w : World) (are : AreReducible making going g 10 m w)
      → (less : AreReducible making going g 8 m w) × (less.has.sources ≡ are.has.sources)
      × (less.has.last ≡ are.has.last)
  fewer g w are =
      let few = are.few in
      (record { has = are.has; few = omega (arith, few) }, refl, refl)

  -- a reduction by a sweep takes fewer turns than are allowed
  pub by_sweep : (old new : S) (r : Result MadeDiagram SortFault)
      → Reduces tells world counts making m going 8 (sweep_stop going m.parts.next) old new r
      → Reduces tells world counts making m going 10 (reduce_stop going m.parts.next) old new r
  by_sweep old new r reduces = record {
    made = ok_more r _ _ (λ d made told g are.
        let less = fewer g (world old) are in
        let is = made told g less.0 in
        let few = is.1 in
        let same = less.1 in
        (is.0, omega (arith, few, same))) reduces.made;
    spent = λ was told g are. reduces.spent was told g (fewer g (world old) are).0;
    images = λ told g are. reduces.images told g (fewer g (world old) are).0;
    undamaged = reduces.undamaged;
    content = reduces.content;
    counted = reduces.counted;
    taken = reduces.taken;
    untaken = reduces.untaken;
    calls = reduces.calls;
    few_calls = λ told g are.
        let less = fewer g (world old) are in
        let same = less.1 in
        let few = reduces.few_calls told g less.0 in
        let saves = few.0.few_saves in
        let parts = few.0.few_parts in
        let calls = few.1 in (
          record {
            saves = few.0.saves;
            parts = few.0.parts;
            few_saves = omega (arith, saves, same);
            few_parts = omega (arith, parts, same);
          },
          omega (arith, calls, same),
        );
    stops = λ told g are within less.
        let eight = fewer g (world old) are in
        stops_more making.number (shown_by are.has.last) ((world old).clock + sweep_stop going m.parts.next)
        ((world old).clock + reduce_stop going m.parts.next) (world old) (world new) (omega arith)
        (subst (λ last. StopsCost making.number (shown_by last) ((world old).clock + sweep_stop going m.parts.next)
        (world old) (world new)) eight.2 (reduces.stops told g eight.0 within
        (subst (λ last. shown_by last ≤ going.shown) (sym eight.2) less)));
    faults = reduces.faults;
  }

  module _ (files : HasArcFiles making.number m.arcs) (may : MayReduce making.number going m.parts) (arcs : ℕ)
      (arcs_are : arcs ≡ arc_count m.arcs) (few : arcs + 8 ≤ 2 ^ 18) where
    -- so many calls that changed the node file are paid for by ten turns for each source
    calls_alone : (old new : S) (sources : ℕ) → arc_count m.arcs ≡ 2 * sources
        → Changed (2 * arcs + 8) (node_file making.number) (world old) (world new)
        → (t : Takes (10 * sources + 9) (max going.shown (going.turns + (10 * sources + 8)) - going.shown) 0)
        × ((world new).clock ≤ (world old).clock
        + (calls_of t + 3 + (m.parts.next - first_owed going.last m.parts.next)))
    calls_alone old new sources two_each changed =
        let calls = changed.few in (
          record { saves = 0; parts = 0; few_saves = omega arith; few_parts = omega arith },
          omega (arith, calls, two_each, arcs_are),
        )

    -- meanwhile the last checkpoint is shown
    pub room_stops : (old new : S) (g : Tables) (has : HasArcsOf making g m (world old))
        → Changed (2 * arcs + 8) (node_file making.number) (world old) (world new)
        → StopsCost making.number (shown_by has.last) ((world old).clock + reduce_stop going m.parts.next) (world old)
        (world new)
    room_stops old new g has changed =
        let calls = changed.few in
        quiet_stops making.number (shown_by has.last) _ (world old) (world new)
        (has_shows making m (world old) g has) (points_meanwhile making (world old) (world new) changed.run)
        (omega (arith, calls, few))

    -- the folder failed while they were reduced in the room
    pub room_failed : (old new : S) (r : Result MadeDiagram SortFault) → IsErrAnd r (λ x. x ≡ Shelf)
        → Told tells old new (Changed (2 * arcs + 8) (node_file making.number) (world old) (world new))
        → OnlySortShelf (counts old) (counts new) r
        → Reduces tells world counts making m going 10 (reduce_stop going m.parts.next) old new r
    room_failed old new (Ok x) is content faults = absurd is
    room_failed old new (Err x) is content faults = record {
      made = tt;
      spent = λ was. absurd (let same : x ≡ RunsSpent = cc in let never : Shelf ≡ RunsSpent = sym is ∙ same in cc);
      images = λ told g are. safe_meanwhile making m (world old) (world new) files (content.did told).run g
          are.has;
      undamaged = λ told are covered. subst IsNoDamage (sym is) tt;
      content = node_changes (2 * arcs + 8) old new content;
      counted = tt;
      taken = tt;
      untaken = tt;
      calls = tt;
      few_calls = λ told g are. calls_alone old new are.has.sources are.has.has_sources (content.did told);
      stops = λ told g are within less. room_stops old new g are.has (content.did told);
      faults = faults;
    }

    -- they were reduced in the room
    pub room_makes : (nodes turns : ℕ) (d : MadeDiagram) (old new : S) → going.turns < 2 ^ 64 → turns ≡ arcs / 4 + 1
        → d.nodes ≡ nodes → d.turns ≡ min (going.turns + turns) (2 ^ 64 - 1) → d.next ≡ m.parts.next
        → (IsTrue (tells new) → (table : List Bool) → AreArcFiles making.n table m.arcs (world old)
        → IsMade making.n table (node_file making.number) nodes (world new))
        → Told tells old new (Changed (2 * arcs + 8) (node_file making.number) (world old) (world new))
        → OnlySortShelf {T = MadeDiagram} (counts old) (counts new) (Ok d)
        → Reduces tells world counts making m going 10 (reduce_stop going m.parts.next) old new (Ok d)
    room_makes nodes turns d old new fits is nodes_are turns_are next_is made content faults =
        let past = may.past in
        let below = may.below in
        let paid = may.paid.paid in
        let shown = may.paid.shown in
        record {
          made = λ told g are.
              let two_each = are.has.has_sources in (
                subst (λ k. IsMade making.n (table_by making g) (node_file making.number) k (world new)) (sym nodes_are)
                    (made told (table_by making g) are.has.arcs),
                omega (arith, turns_are, is, arcs_are, two_each),
              );
          spent = λ was. absurd (cc);
          images = λ told g are. safe_meanwhile making m (world old) (world new) files (content.did told).run
              g are.has;
          undamaged = tt;
          content = node_changes (2 * arcs + 8) old new content;
          counted = (
            omega (arith, turns_are, fits),
            record {
              some = omega (arith, turns_are, is);
              from = omega (arith, past, next_is);
              below = omega (arith, below, next_is);
              few = omega (arith, paid, shown, next_is, turns_are, fits);
            },
          );
          taken = λ before. omega (arith, before, shown, next_is, turns_are, fits);
          untaken = (
            omega (arith, next_is),
            λ told. none_by_nodes making.number d.next (world old) (world new) (omega (arith, past, next_is))
                (content.did told).run,
          );
          calls = λ exact. (
            record { saves = 0; parts = 0; few_saves = omega arith; few_parts = omega arith },
            λ told. let calls = (content.did told).few in omega (arith, calls, is, turns_are, exact),
          );
          few_calls = λ told g are. calls_alone old new are.has.sources are.has.has_sources (content.did told);
          stops = λ told g are within less. room_stops old new g are.has (content.did told);
          faults = faults;
        }

    -- a sweep reduced them, after an attempt that left them as they were
    pub after_attempt : (turns : ℕ) (old mid new : S) (r : Result MadeDiagram SortFault) → 0 < arcs
        → going.turns < 2 ^ 64 → turns ≡ min (going.turns + (1 + arcs / 64)) (2 ^ 64 - 1)
        → Told tells old mid (Changed (2 * arcs + 8) (node_file making.number) (world old) (world mid))
        → OnlySortShelf {T = Unit} (counts old) (counts mid) (Ok tt)
        → Reduces tells world counts making m (record going { turns = turns }) 8
        (sweep_stop (record going { turns = turns }) m.parts.next) mid new r
        → Reduces tells world counts making m going 10 (reduce_stop going m.parts.next) old new r
    after_attempt turns old mid new r some fits is tried calm reduces =
        let only : IsTrue (tells new) → Changed (2 * arcs + 8) (node_file making.number) (world old) (world mid) =
        λ told. tried.did (reduces.content.before told) in
        let later : (told : IsTrue (tells new)) (g : Tables) (are : AreReducible making going g 10 m (world old))
        → (less : AreReducible making (record going { turns = turns }) g 8 m (world mid))
        × (less.has.sources ≡ are.has.sources) × (less.has.last ≡ are.has.last) =
        λ told g are.
        let has = still_has making m (world old) (world mid) files (only told).run g are.has in
        let same = has.1 in
        let few = are.few in
        let two_each = are.has.has_sources in (
          record { has = has.0; few = omega (arith, few, same, two_each, arcs_are, some, is) },
          same,
          has.2,
        ) in
        record {
          made = ok_more r _ _ (λ d made told g are.
              let less = later told g are in
              let made_so = made told g less.0 in
              let few = made_so.1 in
              let same = less.1 in
              let two_each = are.has.has_sources in
              (made_so.0, omega (arith, few, same, two_each, arcs_are, some, is))) reduces.made;
          spent = λ was told g are. reduces.spent was told g (later told g are).0;
          images = λ told g are.
              joins (world old) (world mid) (world new)
              (λ (x : Moment). AreSafe (goes_on_by making g) making.number x.folder)
              (safe_meanwhile making m (world old) (world mid) files (only told).run g are.has)
              (reduces.images told g (later told g are).0);
          undamaged = err_more r _ _ (λ e none told are covered. none told
              (still_ordered making m (world old) (world mid) files (only told).run are)
              (still_covered making m (world old) (world mid) files (only told).run covered)) reduces.undamaged;
          content = told_changed_then tells world _ _ old mid new (λ f mine. mine)
              (node_changes (2 * arcs + 8) old mid tried) reduces.content;
          counted = ok_more r _ _ (λ d counted.
              let more = counted.0 in
              (omega (arith, more, is, fits), counted.1)) reduces.counted;
          taken = ok_more r _ _ (λ d few before. few (omega (arith, before, is, fits))) reduces.taken;
          untaken = ok_more r _ _ (λ d its. (
            its.0,
            λ told. none_then making.number m.parts.next d.next (world old) (world mid) (world new) its.0
                (none_by_nodes making.number m.parts.next (world old) (world mid)
                (let past = may.past in omega (arith, past)) (only told).run) (its.1 told),
          )) reduces.untaken;
          calls = ok_both r _ _ _ (λ d counted calls exact.
              let more = counted.0 in
              let its = calls exact in
              let parts = its.0.few_parts in (
                record {
                  saves = its.0.saves;
                  parts = its.0.parts;
                  few_saves = its.0.few_saves;
                  few_parts = omega (arith, parts, more, exact, is, fits);
                },
                λ told.
                    let first = (only told).few in
                    let then = its.1 told in
                    omega (arith, first, then, more, exact, is, some),
              )) reduces.counted reduces.calls;
          few_calls = λ told g are.
              let less = later told g are in
              let same = less.1 in
              let two_each = are.has.has_sources in
              let few = reduces.few_calls told g less.0 in
              let saves = few.0.few_saves in
              let parts = few.0.few_parts in
              let first = (only told).few in
              let calls = few.1 in (
                record {
                  saves = few.0.saves;
                  parts = few.0.parts;
                  few_saves = omega (arith, saves, same, two_each, arcs_are, some, is);
                  few_parts = omega (arith, parts, same, two_each, arcs_are, some);
                },
                omega (arith, first, calls, same, two_each, arcs_are, some),
              );
          stops = λ told g are within less.
              let shown : ℕ = shown_by are.has.last in
              let still = later told g are in
              let first = (only told).few in
              let swept : ℕ = (world mid).clock + sweep_stop (record going { turns = turns }) m.parts.next in
              let all : ℕ = (world old).clock + reduce_stop going m.parts.next in
              stops_join making.number shown all (world old) (world mid) (world new)
              (reduces.content.did told).moments.past (room_stops old mid g are.has (only told))
              (stops_more making.number shown swept all (world mid) (world new)
              (tried_few (m.parts.next - first_owed going.last m.parts.next) (interval_of going.budget) going.turns turns
              going.shown arcs (world old).clock (world mid).clock few (omega (arith, is, fits)) first)
              (subst (λ last. StopsCost making.number (shown_by last) swept (world mid) (world new)) still.2
              (reduces.stops told g still.0 within (subst (λ last. shown_by last ≤ going.shown) (sym still.2) less))));
          faults = sort_shelf_then _ _ _ (Ok tt) r calm reduces.faults;
        }
