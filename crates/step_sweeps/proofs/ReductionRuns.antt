-- The reduction of a step's arcs by a sweep: what it makes and takes, whether its start or a turn was refused, or it ended.
use Rattle.std.proofs.Common.{◌≡◌, ◌⊎◌, ◌∙◌, ℕ, ◌+◌, ◌-◌, ◌*◌, ◌/◌, ◌^◌, ◌<◌, ◌≤◌, Bool, IsTrue, refl, ap, sym, subst, inl, inr, mul-le-mul_right, arith}
use Rattle.std.specs.Prelude.{min, max, Ok, Err, IsErrOf, length}
use Rattle.std.proofs.lemmas.Bool.{cases_lt}
use Rattle.shelf_model.specs.declared.file_no.FileNo.{FileNo}
use Rattle.shelf_model.specs.declared.sort_fault.SortFault.{SortFault}
use Rattle.shelf_model.specs.declared.sort_fault.SortFault.TheVariants.{RunsSpent}
use Rattle.shelf_model.specs.Calls.{Told}
use Rattle.shelf_model.specs.Faults.{Faults}
use Rattle.shelf_model.specs.File.{File}
use Rattle.shelf_model.specs.Folder.{Image, IsImage, bytes_in}
use Rattle.shelf_model.specs.Moments.{Ran, Throughout, OnlyChanged}
use Rattle.shelf_model.specs.World.{Moment, World, now, file}
use Rattle.shelf_model.proofs.Changing.{changed_more, told_changed_then}
use Rattle.shelf_model.proofs.Runs.{told}
use Rattle.block_stream.specs.Writes.{DuringCut}
use Rattle.run_tiers.specs.declared.parts.Parts.{Parts}
use Rattle.run_tiers.specs.Faults.{OnlySortShelf}
use Rattle.run_tiers.specs.Parts.{Paid}
use Rattle.step_going.specs.Standing.{AreSafe}
use Rattle.step_going.proofs.Shown.{quiet_stops, stops_join, stops_more}
use Rattle.sweep_checkpoint.specs.Going.{IsOfGoing, IsLeftAlone, IsAsBefore, GoesOn, AreSure, TakesParts, TakesCalls, IsPaidTo, interval_of, first_owed}
use Rattle.sweep_checkpoint.specs.declared.going.Going.{Going}
use Rattle.sweep_checkpoint.specs.Stops.{StopsCost, stop_calls}
use Rattle.sweep_core.specs.Accounts.{NoneFilled, StayEmpty}
use Rattle.sweep_core.specs.Sweeps.{IsNoDamage}
use Rattle.node_file.specs.Canonical.{IsMade}
use Rattle.arc_file.specs.declared.kind.Kind.TheVariants.{Inner, End}
use Rattle.arc_file.specs.Files.{HasArcs}
use Rattle.file_numbers.specs.Files.{checkpoint_file, checkpoint_gate}
use Rattle.reduce_lists.specs.Damage.{IsDamageAmong}
use Rattle.reduce_lists.proofs.Undamaged.{none_among}
use Rattle.reduce_sweep.specs.declared.reduce.ReduceSweep.{ReduceSweep}
use Rattle.reduce_sweep.specs.Calls.{HasLists}
use Rattle.reduce_sweep.specs.Damage.{IsDamage}
use Rattle.reduce_sweep.specs.Remaining as sweep
use Rattle.reduce_sweep.specs.Resumes.{reduce_saving, IsOperand}
use Rattle.reduce_sweep.specs.Sweeps as reduce
use Rattle.top_down_sweep.specs.Ordered.{AreOrdered}
use Rattle.step_sweeps.specs.declared.arcs.MadeArcs.{MadeArcs}
use Rattle.step_sweeps.specs.declared.diagram.MadeDiagram.{MadeDiagram}
use Rattle.step_sweeps.specs.declared.task.Making.{Making}
use Rattle.step_sweeps.specs.Given.{Tables}
use Rattle.step_sweeps.specs.Kinds.{reduce_kind}
use Rattle.step_sweeps.specs.Made.{node_file, OnlyStep, HasArcFiles}
use Rattle.step_sweeps.specs.Makes.{goes_on_by, table_by, work_for}
use Rattle.step_sweeps.specs.Stops.{shown_by, sweep_stop}
use Rattle.step_sweeps.specs.Sweeping.{AreReducible, MayReduce, Reduces, Takes, IsCovered, calls_of}
use Rattle.step_sweeps.proofs.ArcsReduced.{has_shows, points_meanwhile, safe_meanwhile}
use Rattle.step_sweeps.proofs.Costs.{few_saves, spent_turns}
use Rattle.step_sweeps.proofs.Running.{file_stays}
use Rattle.step_sweeps.proofs.Stops.{RunStops, run_stops, still_shows}
use Rattle.step_sweeps.proofs.SweptReduction.{HasBegun, job_for, reduced_safe, few_left, cut_only}
use Rattle.step_sweeps.proofs.Unfilled.{none_on_nodes}

-- what so many turns at most and saves took, where no more turns were left than eight for each source, and eight
sums : (sources left shown turns interval saves next from first owed stock later_stock credit later_credit old mid new : ℕ)
    → left ≤ 8 * sources + 8 → 16384 ≤ interval → interval * saves + shown ≤ max shown (turns + left) → stock ≡ 0
    → 256 * (first - next) + later_stock ≤ stock + (12 * (left + 1) + 4608 * saves)
    → mid + credit ≤ old + 0 + 3
    → new + later_credit ≤ mid + credit + (224 * (left + 1) + 66126 * saves + (first - from))
    → (t : Takes (8 * sources + 9) (max shown (turns + (8 * sources + 8)) - shown) 0)
    × (new ≤ old + (calls_of t + 3 + (next - from)))
sums sources left shown turns interval saves next from first owed stock later_stock credit later_credit old mid new bound
    long few none parts begun calls =
    let less : 16384 * saves ≤ interval * saves = mul-le-mul_right saves long in (
      record {
        saves = saves;
        parts = first - next;
        few_saves = omega (arith, bound, few, less);
        few_parts = omega (arith, bound, none, parts);
      },
      omega (arith, bound, begun, calls),
    )

-- what beginning it took, and what a stop may cost from then on
swept_few : (credit next parts first owed stock since old mid : ℕ) → next ≡ parts → first ≡ owed → stock ≡ 0
    → mid + credit ≤ old + 0 + 3
    → mid + (credit + ((next - first) + stock / 256) + 224 * since + 2 ^ 17)
    ≤ old + ((parts - owed) + 224 * since + 2 ^ 17 + 2 ^ 10)
swept_few credit next parts first owed stock since old mid same first_is none calls =
    omega (arith, same, first_is, none, calls)

-- the file that was cut is the step's node file
pub cut_here : {S : Type 0} (tells : S → Bool) (world : S → World) (number : ℕ) (out : FileNo) (old mid : S)
    → out ≡ node_file number
    → Told tells old mid (Ran (DuringCut out 0 (now (world old))) (world old) (world mid))
    → Told tells old mid (Ran (DuringCut (node_file number) 0 (now (world old))) (world old) (world mid))
cut_here tells world number out old mid is cut =
    subst (λ f. Told tells old mid (Ran (DuringCut f 0 (now (world old))) (world old) (world mid))) is cut

-- what is known of a reduction that was run and saved, and of what that left, whichever way it ended
pub record HasRun {S : Type 0} (tells : S → Bool) (world : S → World) (making : Making) (going : Going)
    (s t : ReduceSweep) (mid new : S) : Type 0 where
  pub changes : Told tells mid new (Ran (OnlyChanged (IsOfGoing (reduce.accounts.makes s) going.step)
      (now (world mid))) (world mid) (world new))
  pub took : IsTrue (tells new) → (d : sweep.Diagram) → sweep.RemainsOf s (world mid) d → (saves : ℕ)
      × (interval_of going.budget * saves + going.shown ≤ max going.shown (going.turns + reduce.turns_left s))
      × TakesParts reduce.accounts (reduce.turns_left s + 1) saves s t
      × TakesCalls reduce.accounts (reduce.turns_left s + 1) saves (first_owed going.last s.parts.next)
      (world mid) (world new) s t
  pub stops : IsTrue (tells new) → RunStops reduce_kind (record going { sweep = 1 }) s (world mid) (world new)
  pub images : IsTrue (tells new) → (d : sweep.Diagram) → sweep.RemainsOf s (world mid) d
      → AreSure (IsOperand (reduce.task_of s)) going.step (now (world mid)).folder
      → IsPaidTo reduce.accounts (record going { sweep = 1 }) s
      → Throughout (world mid) (world new) (λ (x : Moment). (image : Image) → IsImage x.folder image
      → IsAsBefore (reduce.accounts.makes s) going.step s.parts.next (now (world mid)).folder (bytes_in image)
      ⊎ GoesOn reduce_saving going.step 1 (reduce.task_of s) d (going.turns + reduce.turns_left s)
      (bytes_in image))

module _ {S : Type 0} (tells : S → Bool) (world : S → World) (counts : S → Faults) (making : Making) (m : MadeArcs)
    (going : Going) (files : HasArcFiles making.number m.arcs) (may : MayReduce making.number going m.parts) where
  -- the reduction didn't begin
  pub not_begun : (old new : S) (e : SortFault) → (¬ (e ≡ RunsSpent))
      → (IsTrue (tells new) → (world new).clock ≤ (world old).clock + 3)
      → (IsTrue (tells new) → AreOrdered m.arcs (world old) → IsNoDamage e)
      → Told tells old new (Ran (DuringCut (node_file making.number) 0 (now (world old))) (world old) (world new))
      → OnlySortShelf {T = MadeDiagram} (counts old) (counts new) (Err e)
      → Reduces tells world counts making m going 8 (sweep_stop going m.parts.next) old new (Err e)
  not_begun old new e other calls undamaged content faults = record {
    made = tt;
    spent = λ was. absurd (let same : e ≡ RunsSpent = cc in other same);
    images = λ told g are. safe_meanwhile making m (world old) (world new) files
        (cut_only making (world old) (world new) (content.did told)) g are.has;
    undamaged = λ told are covered. undamaged told are;
    content = told tells old new _ _ content (λ _ run. changed_more (λ q. q ≡ node_file making.number)
        (λ q. q.step ≡ making.number) (world old) (world new) (λ f is. ap (λ (x : FileNo). x.step) is)
        (cut_only making (world old) (world new) run));
    counted = tt;
    taken = tt;
    untaken = tt;
    calls = tt;
    few_calls = λ told g are.
        let few = calls told in (
          record { saves = 0; parts = 0; few_saves = omega arith; few_parts = omega arith },
          omega (arith, few),
        );
    stops = λ told g are within less.
        let few = calls told in
        quiet_stops making.number (shown_by are.has.last) _ (world old) (world new) (has_shows making m (world old) g are.has)
        (points_meanwhile making (world old) (world new) (cut_only making (world old) (world new) (content.did told))) (omega (arith, few));
    faults = faults;
  }

  module _ (s t : ReduceSweep) (old mid new : S) (begun : HasBegun tells world making m s old mid)
      (credit : IsTrue (tells mid) → Paid 3 0 (reduce.credit_of s) (world old) (world mid))
      (stock : reduce.stock_of s ≡ 0) (run : HasRun tells world making going s t mid new) where
    next_is : s.parts.next ≡ m.parts.next
    next_is = ap (λ (p : Parts). p.next) begun.parts_are

    pub paid_so : IsPaidTo reduce.accounts (record going { sweep = 1 }) s
    paid_so =
        let paid = may.paid.paid in
        let same = next_is in
        record { interval = may.paid.interval; shown = may.paid.shown; paid = omega (arith, paid, same, stock) }

    -- only files of the step are changed
    step_content : Told tells old new (Ran (OnlyStep making.number (now (world old))) (world old) (world new))
    step_content = told_changed_then tells world (λ q. q.step ≡ making.number)
        (IsOfGoing (reduce.accounts.makes s) going.step) old mid new
        (λ f is. elim is [
          | inl mine ↦ ap (λ (x : FileNo). x.step) (mine ∙ begun.out_is)
          | inr rest ↦ rest.0 ∙ may.step_is
        ])
        (told tells old mid _ _ begun.content (λ _ cut. changed_more (λ q. q ≡ node_file making.number)
        (λ q. q.step ≡ making.number) (world old) (world mid) (λ f is. ap (λ (x : FileNo). x.step) is)
        (cut_only making (world old) (world mid) cut))) run.changes

    module _ (told_new : IsTrue (tells new)) (g : Tables) (are : AreReducible making going g 8 m (world old)) where
      told_mid : IsTrue (tells mid)
      told_mid = run.changes.before told_new

      remains : sweep.RemainsOf s (world mid) (job_for tells world making m going s old mid files may begun g are.has)
      remains = begun.remains told_mid (job_for tells world making m going s old mid files may begun g are.has)
          are.has.arcs.inner are.has.arcs.ends are.has.arcs.inner_has are.has.arcs.ends_has refl are.has.arcs.diagram

      its_calls : (u : Takes (8 * are.has.sources + 9)
          (max going.shown (going.turns + (8 * are.has.sources + 8)) - going.shown) 0)
          × ((world new).clock ≤ (world old).clock
          + (calls_of u + 3 + (m.parts.next - first_owed going.last m.parts.next)))
      its_calls =
          let its = run.took told_new (job_for tells world making m going s old mid files may begun g are.has) remains in
          subst (λ k. (u : Takes (8 * are.has.sources + 9)
          (max going.shown (going.turns + (8 * are.has.sources + 8)) - going.shown) 0)
          × ((world new).clock ≤ (world old).clock + (calls_of u + 3 + (k - first_owed going.last k)))) next_is
          (sums are.has.sources (reduce.turns_left s) going.shown going.turns (interval_of going.budget) its.0
          s.parts.next (first_owed going.last s.parts.next) t.parts.next 0 (reduce.stock_of s) (reduce.stock_of t)
          (reduce.credit_of s) (reduce.credit_of t) _ _ _ (begun.bound are.has.sources are.has.has_sources)
          may.paid.interval its.1 stock its.2.spent (credit told_mid) its.3.paid)

      its_work : 2 ^ 32 ≤ t.parts.next → 2 ^ 35 ≤ work_for making g
      its_work spent =
          let its = run.took told_new (job_for tells world making m going s old mid files may begun g are.has) remains in
          let paid = may.paid.paid in
          let same = next_is in
          let none = stock in
          spent_turns going.turns going.shown (reduce.turns_left s) its.0 s.parts.next t.parts.next (reduce.stock_of s)
          (reduce.stock_of t) (work_for making g) may.paid.shown (omega (arith, paid, same, none))
          (few_saves (interval_of going.budget) its.0 going.shown _ may.paid.interval its.1) its.2.spent
          (few_left tells world making m going s old mid files may begun told_mid g are) spent

      -- what a stop costs
      its_stops : work_for making g < 2 ^ 61 → shown_by are.has.last ≤ going.shown
          → StopsCost making.number (shown_by are.has.last) ((world old).clock + sweep_stop going m.parts.next)
          (world old) (world new)
      its_stops within less =
          let shown : ℕ = shown_by are.has.last in
          let all : ℕ = (world old).clock + sweep_stop going m.parts.next in
          let points = points_meanwhile making (world old) (world mid)
          (cut_only making (world old) (world mid) (begun.content.did told_mid)) in
          let sure = has_shows making m (world old) g are.has in
          let begins = credit told_mid in
          let left = few_left tells world making m going s old mid files may begun told_mid g are in
          stops_join making.number shown all (world old) (world mid) (world new) (run.changes.did told_new).moments.past
          (quiet_stops making.number shown all (world old) (world mid) sure points (omega (arith, begins)))
          (stops_more making.number shown
          ((world mid).clock + stop_calls reduce_kind.accounts (record going { sweep = 1 }) s) all (world mid) (world new)
          (swept_few (reduce.credit_of s) s.parts.next m.parts.next (first_owed going.last s.parts.next)
          (first_owed going.last m.parts.next) (reduce.stock_of s) (interval_of going.budget - (going.turns - going.shown))
          (world old).clock (world mid).clock next_is (ap (first_owed going.last) next_is) stock begins)
          (run_stops reduce_kind making.number shown (record going { sweep = 1 }) s
          (job_for tells world making m going s old mid files may begun g are.has) (world mid) (world new) may.step_is
          (still_shows making.number shown (world old) (world mid) sure points) less may.paid.interval may.paid.shown
          remains (omega (arith, left, within)) (run.stops told_new)))

      its_images : Throughout (world old) (world new)
          (λ (x : Moment). AreSafe (goes_on_by making g) making.number x.folder)
      its_images = reduced_safe tells world making m going s old mid files may begun told_mid g are (world new)
          (λ sure. run.images told_new (job_for tells world making m going s old mid files may begun g are.has) remains
          sure paid_so)

    -- the run leaves arcs alone, so damage is none of ordered ones
    module _ (alone : IsTrue (tells new) → (f : FileNo) → IsLeftAlone (reduce.accounts.makes s) going.step s.parts.next f
        → (file (world new) f).bytes ≡ (file (world mid) f).bytes) (told_new : IsTrue (tells new)) where
      -- but the node file each file is as it was when the sweep had begun
      begun_stays : (f : FileNo) → 0 < f.part → file (world mid) f ≡ file (world old) f
      begun_stays f behind = file_stays (λ q. q ≡ node_file making.number) (world old) (world mid) f
          (λ is. let at : f.part ≡ 0 = ap (λ (x : FileNo). x.part) is in absurd (omega (arith, behind, at)))
          (cut_only making (world old) (world mid) (begun.content.did (run.changes.before told_new)))

      arcs_spared : (f : FileNo) → 3 ≤ f.part → f.part ≤ 4
          → (file (world new) f).bytes ≡ (file (world old) f).bytes
      arcs_spared f from upto =
          let past = may.past in
          let same = next_is in
          let part : FileNo → ℕ = λ x. x.part in
          alone told_new f (record {
            unmade = λ mine. let at : f.part ≡ 0 = ap part (mine ∙ begun.out_is) in absurd (omega (arith, from, at));
            untaken = λ can. let least = can.from in absurd (omega (arith, upto, least, same, past));
            below = omega (arith, upto);
            not_points = λ is. let at : f.part ≡ 1 = ap part is in absurd (omega (arith, from, at));
            not_gate = λ is. let at : f.part ≡ 2 = ap part is in absurd (omega (arith, from, at));
          }) ∙ ap (λ (x : File). x.bytes) (begun_stays f (omega (arith, from)))

      covered_still : IsCovered making.number (world old) → IsCovered going.step (world mid)
      covered_still there = subst (λ k. IsCovered k (world mid)) (sym may.step_is)
          (let gates : length (file (world mid) (checkpoint_gate making.number)).bytes
          ≡ length (file (world old) (checkpoint_gate making.number)).bytes =
          ap (λ (x : File). length x.bytes) (begun_stays (checkpoint_gate making.number) (omega arith)) in
          let points : length (file (world mid) (checkpoint_file making.number)).bytes
          ≡ length (file (world old) (checkpoint_file making.number)).bytes =
          ap (λ (x : File). length x.bytes) (begun_stays (checkpoint_file making.number) (omega arith)) in
          omega (arith, there, gates, points))

      pub ordered_undamaged : (e : SortFault) → reduce.arcs_of t ≡ reduce.arcs_of s
          → (IsTrue (tells mid) → HasLists s (world mid))
          → (IsTrue (tells new) → HasLists s (world mid) → IsCovered going.step (world mid)
          → IsDamage t (world new) e ⊎ IsNoDamage e)
          → AreOrdered m.arcs (world old) → IsCovered making.number (world old) → IsNoDamage e
      ordered_undamaged e same lists covered are there =
          let part : FileNo → ℕ = λ x. x.part in
          let inner_at : m.arcs.inner.part ≡ 3 = ap part files.inner_is in
          let ends_at : m.arcs.ends.part ≡ 4 = ap part files.ends_are in
          elim (covered told_new (lists (run.changes.before told_new)) (covered_still there)) [
            | inl damage ↦ none_among m.arcs (world new) e are.inner are.ends
                (subst (HasArcs Inner are.inner m.arcs.inner_count)
                (sym (arcs_spared m.arcs.inner (omega (arith, inner_at)) (omega (arith, inner_at)))) are.inner_has)
                (subst (HasArcs End are.ends m.arcs.ends_count)
                (sym (arcs_spared m.arcs.ends (omega (arith, ends_at)) (omega (arith, ends_at)))) are.ends_has)
                (subst (λ u. IsDamageAmong u (world new) e) (same ∙ begun.arcs_are) damage)
            | inr none ↦ none
          ]

    -- a turn or a save was refused
    pub run_refused : (e : SortFault) → (IsErrOf {T = MadeDiagram} (Err e) RunsSpent → 2 ^ 32 ≤ t.parts.next)
        → (IsTrue (tells new) → AreOrdered m.arcs (world old) → IsCovered making.number (world old) → IsNoDamage e)
        → OnlySortShelf {T = MadeDiagram} (counts old) (counts new) (Err e)
        → Reduces tells world counts making m going 8 (sweep_stop going m.parts.next) old new (Err e)
    run_refused e spent undamaged faults = record {
      made = tt;
      spent = λ was told g are. its_work told g are (spent was);
      images = its_images;
      undamaged = undamaged;
      content = step_content;
      counted = tt;
      taken = tt;
      untaken = tt;
      calls = tt;
      few_calls = its_calls;
      stops = its_stops;
      faults = faults;
    }

    -- or it ended with the diagram
    pub run_ended : (later : Going) (d : MadeDiagram) → d.turns ≡ later.turns
        → d.next ≡ min t.parts.next (2 ^ 32) → (going.turns ≤ later.turns) × (0 < later.turns)
        → (going.shown ≤ going.turns → later.shown ≤ later.turns) → s.parts.next ≤ t.parts.next
        → (s.parts.next ≤ 2 ^ 32 → t.parts.next ≤ 2 ^ 32) → (IsTrue (tells new)
        → StayEmpty (reduce.accounts.makes s) going.step t.parts.next (world mid) (world new))
        → (later.turns < 2 ^ 64 - 1 → IsPaidTo reduce.accounts (record going { sweep = 1 }) s
        → IsPaidTo reduce.accounts later t)
        → (later.turns < 2 ^ 64 - 1 → (saves : ℕ)
        × (interval_of going.budget * saves + going.shown ≤ later.shown)
        × TakesParts reduce.accounts (later.turns - going.turns) saves s t
        × (IsTrue (tells new) → TakesCalls reduce.accounts (later.turns - going.turns) saves
        (first_owed going.last s.parts.next) (world mid) (world new) s t))
        → (IsTrue (tells new) → (x : sweep.Diagram) → sweep.RemainsOf s (world mid) x
        → later.turns ≤ going.turns + reduce.turns_left s + 1)
        → (IsTrue (tells new) → (g : Tables) (are : AreReducible making going g 8 m (world old))
        → sweep.RemainsOf s (world mid) (job_for tells world making m going s old mid files may begun g are.has)
        → IsMade making.n (table_by making g) (node_file making.number) d.nodes (world new))
        → OnlySortShelf {T = MadeDiagram} (counts old) (counts new) (Ok d)
        → Reduces tells world counts making m going 8 (sweep_stop going m.parts.next) old new (Ok d)
    run_ended later d turns_are next_is_d made late more within stay paid counted few nodes faults = record {
      made = λ told g are.
          let turns = few told (job_for tells world making m going s old mid files may begun g are.has)
          (remains told g are) in
          let bound = begun.bound are.has.sources are.has.has_sources in
          (nodes told g are (remains told g are), omega (arith, turns, bound, turns_are));
      spent = λ was. absurd (cc);
      images = its_images;
      undamaged = tt;
      content = step_content;
      counted = (
        (let grew = made.0 in omega (arith, grew, turns_are)),
        record {
          some = (let some = made.1 in omega (arith, some, turns_are));
          from = (let same = next_is in let past = may.past in omega (arith, same, past, more, next_is_d));
          below = omega (arith, next_is_d);
          few = elim (cases_lt later.turns (2 ^ 64 - 1)) [
            | inl exact ↦ (let sum = (paid exact paid_so).paid in
                let shows = late may.paid.shown in
                omega (arith, sum, shows, turns_are, next_is_d))
            | inr above ↦ omega (arith, above, turns_are, next_is_d)
          ];
        },
      );
      untaken =
          let same = next_is in
          let past = may.past in
          let below = may.below in
          let most = within (omega (arith, same, below)) in
          let last : t.parts.next ≡ d.next = omega (arith, next_is_d, most) in (
            omega (arith, same, more, last),
            λ told. subst (λ k. NoneFilled making.number k (world old) (world new)) last
                (none_on_nodes (reduce.accounts.makes s) making.number m.parts.next t.parts.next (world old) (world mid)
                (world new) (omega (arith, past)) (omega (arith, same, more)) (λ f mine. mine ∙ begun.out_is)
                (cut_only making (world old) (world mid) (begun.content.did (run.changes.before told)))
                (subst (λ k. StayEmpty (reduce.accounts.makes s) k t.parts.next (world mid) (world new)) may.step_is
                (stay told))),
          );
      taken = λ before.
          let same = next_is in
          let shows = late may.paid.shown in
          elim (cases_lt later.turns (2 ^ 64 - 1)) [
            | inl exact ↦
                let its = counted exact in
                let shown = few_saves (interval_of going.budget) its.0 going.shown later.shown
                may.paid.interval its.1 in
                let spent = its.2.spent in
                omega (arith, before, same, stock, shown, shows, spent, turns_are, next_is_d)
            | inr above ↦ omega (arith, above, turns_are, next_is_d)
          ];
      calls = λ exact.
          let its = counted (omega (arith, exact, turns_are)) in
          let long = may.paid.interval in
          let saves : ℕ = its.0 in
          let less : 16384 * its.0 ≤ interval_of going.budget * its.0 = mul-le-mul_right its.0 long in
          let few_saves = its.1 in
          let parts = its.2.spent in
          let shows = late may.paid.shown in
          let same = next_is in (
            record {
              saves = its.0;
              parts = t.parts.next - s.parts.next;
              few_saves = omega (arith, few_saves, less, shows, turns_are);
              few_parts = omega (arith, parts, stock, turns_are);
            },
            λ told.
                let first = credit (run.changes.before told) in
                let calls = (its.3 told).paid in
                let owed : first_owed going.last s.parts.next ≡ first_owed going.last m.parts.next =
                ap (first_owed going.last) next_is in
                omega (arith, first, calls, owed, same, turns_are),
          );
      few_calls = its_calls;
      stops = its_stops;
      faults = faults;
    }
