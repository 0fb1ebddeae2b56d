-- The diagram that was joined in the room, and a save of it.
use Rattle.std.proofs.Common.{◌≡◌, ◌∙◌, ℕ, ◌+◌, ◌-◌, ◌*◌, ◌^◌, ◌<◌, ◌≤◌, Bool, IsTrue, List, length, refl, ap, arith}
use Rattle.std.specs.Prelude.{min, None, Result, Ok, Err, IsErrAnd}
use Rattle.bool_tables.specs.declared.steps.Bin.{Bin}
use Rattle.shelf_model.specs.declared.fault.StreamFault.{StreamFault}
use Rattle.shelf_model.specs.declared.sort_fault.SortFault.{SortFault}
use Rattle.shelf_model.specs.declared.sort_fault.SortFault.TheVariants.{RunsSpent}
use Rattle.shelf_model.specs.SortFaults.{handed_on}
use Rattle.shelf_model.specs.Calls.{Told}
use Rattle.shelf_model.specs.Faults.{Faults}
use Rattle.shelf_model.specs.File.{File}
use Rattle.shelf_model.specs.Moments.{Ran, Throughout}
use Rattle.shelf_model.specs.World.{Moment, World, now, file}
use Rattle.shelf_model.proofs.Changing.{told_changed_then}
use Rattle.shelf_model.proofs.Runs.{joins}
use Rattle.file_numbers.specs.Files.{checkpoint_gate}
use Rattle.run_tiers.specs.Faults.{OnlySortShelf}
use Rattle.run_tiers.proofs.FaultLaws.{sort_shelf_then}
use Rattle.step_going.specs.Standing.{AreSafe, HasNone}
use Rattle.step_going.proofs.Shown.{none_shows, stops_join}
use Rattle.sweep_checkpoint.specs.Stops.{StopsCost}
use Rattle.sweep_checkpoint.specs.declared.going.Going.{Going}
use Rattle.sweep_core.specs.Sweeps.{IsNoDamage}
use Rattle.sweep_core.proofs.Untaken.{none_then}
use Rattle.node_file.specs.Canonical.{IsMade}
use Rattle.node_file.specs.Changes.{Changed}
use Rattle.copied_diagrams.specs.declared.pair.Pair.{Pair}
use Rattle.copied_diagrams.specs.Operands.{pair_table}
use Rattle.room_products.specs.declared.join.Joined.{Joined}
use Rattle.room_products.specs.Joined.{IsOperandOf}
use Rattle.step_sweeps.specs.declared.diagram.MadeDiagram.{MadeDiagram}
use Rattle.step_sweeps.specs.declared.task.Making.{Making}
use Rattle.step_sweeps.specs.Ended.{KeepsMade}
use Rattle.step_sweeps.specs.Damage.{MissesIn}
use Rattle.step_sweeps.specs.Given.{Tables}
use Rattle.step_sweeps.specs.Made.{node_file, OnlyStep}
use Rattle.step_sweeps.specs.Makes.{IsGiven, HasNoGate, goes_on_by, table_by, nodes_for, work_for}
use Rattle.step_sweeps.specs.Pairs.{IsPairOf}
use Rattle.step_sweeps.specs.Stops.{sweeps_stop}
use Rattle.step_sweeps.specs.Sweeping.{IsCovered}
use Rattle.step_sweeps.specs.Ways.{IsGivenAnew, MakesAnew}
use Rattle.step_sweeps.proofs.EndedKept.{never_spent, no_damage_of, faults_on, kept_changes, kept_made}
use Rattle.step_sweeps.proofs.Faults.{no_damage}
use Rattle.step_sweeps.proofs.JoinsAnew.{joined_makes, nodes_are}
use Rattle.step_sweeps.proofs.StopsAnew.{kept_stops}
use Rattle.step_sweeps.proofs.Unfilled.{none_by_points}
use Rattle.step_sweeps.proofs.Running.{faults_ok, file_stays, folder_ok, gate_apart}

-- a diagram was joined, where so many turns were made before; and then it was saved, or wasn't
module _ {S : Type 0} (tells : S → Bool) (world : S → World) (counts : S → Faults) (op : Bin) (making : Making)
    (pair : Pair) (going : Going) (first turns most : ℕ) (j : Joined) (old mid new : S)
    (are : IsPairOf tells world op making pair old)
    (early : IsTrue (tells old) → (g : Tables) → IsGiven making (world old) g → first ≤ nodes_for making g)
    (fits : first < 2 ^ 64) (turns_are : turns ≡ min (first + j.turns) (2 ^ 64 - 1)) (some : 0 < j.turns)
    (few : j.turns ≤ 15 * (pair.left.trailer.count + pair.right.trailer.count + 1))
    (made : IsTrue (tells mid) → (t u : List Bool) → IsOperandOf making.n t pair.left (world old)
    → IsOperandOf making.n u pair.right (world old)
    → IsMade making.n (pair_table making.n op t u) (node_file making.number) j.nodes (world mid))
    (paid : IsTrue (tells mid) → (world mid).clock ≤ (world old).clock + (8 * j.turns + 6))
    (short : IsTrue (tells mid) → (world mid).clock ≤ (world old).clock + (2 ^ 18 + 6))
    (content : Told tells old mid (Changed most (node_file making.number) (world old) (world mid)))
    (calm : OnlySortShelf {T = Unit} (counts old) (counts mid) (Ok tt)) where
  abbrev joined : MadeDiagram
  joined = record { nodes = j.nodes; turns = turns; next = 3 }

  abbrev Kept : Result Unit StreamFault → Type 0
  Kept r = KeepsMade tells world counts making j.nodes 3 (record going { turns = turns }) mid new r

  -- before the save
  was_joined : MakesAnew tells world counts making first (nodes_for making) 7 (sweeps_stop + 2 ^ 18 + 6)
      old mid (Ok joined)
  was_joined = joined_makes tells world counts op making pair old are first most j joined mid fits refl
      turns_are refl some few made paid short content
      (record { later = calm.later; cause = λ was. absurd (cc); say_is = calm.say_is; text_is = calm.text_is })

  gate_stays : IsTrue (tells mid)
      → file (world mid) (checkpoint_gate making.number) ≡ file (world old) (checkpoint_gate making.number)
  gate_stays told_mid = file_stays (λ q. q ≡ node_file making.number) (world old) (world mid)
      (checkpoint_gate making.number) (gate_apart making.number) (content.did told_mid).run

  -- where no checkpoint is gated, all that are gated are there
  all_there : IsTrue (tells mid) → HasNoGate making.number (world old) → IsCovered making.number (world mid)
  all_there told_mid none =
      let empty : length (file (world mid) (checkpoint_gate making.number)).bytes ≡ 0 =
      ap (λ (x : File). length x.bytes) (gate_stays told_mid) ∙ ap length none in
      omega (arith, empty)

  both_change : (r : Result Unit StreamFault) → Kept r
      → Told tells old new (Ran (OnlyStep making.number (now (world old))) (world old) (world new))
  both_change r keeps = told_changed_then tells world _ _ old mid new (λ f mine. mine) was_joined.content
      (kept_changes tells world counts making (record going { turns = turns }) j.nodes 3 mid new r keeps)

  both_safe : (r : Result Unit StreamFault) → Kept r → IsTrue (tells new) → (g : Tables)
      → IsGivenAnew making (world old) g
      → Throughout (world old) (world new)
      (λ (x : Moment). AreSafe (goes_on_by making g) making.number x.folder)
  both_safe r keeps told_new g given =
      let told_mid = keeps.content.before told_new in
      let told_old = content.before told_mid in
      let before = early told_old g given.given in
      let count = nodes_are tells world counts op making pair old are told_old g given.given in
      joins (world old) (world mid) (world new)
      (λ (x : Moment). AreSafe (goes_on_by making g) making.number x.folder)
      (was_joined.images told_mid g given)
      (keeps.images told_new g (record {
        made = (was_joined.made told_mid g given).made;
        few = omega (arith, before, count, few, turns_are);
        last = None;
        standing = gate_stays told_mid ∙ given.none;
      }))

  both_calls : (r : Result Unit StreamFault) → Kept r → IsTrue (tells new) → (g : Tables)
      → IsGivenAnew making (world old) g
      → (world new).clock + 229 * nodes_for making g ≤ (world old).clock + (229 * work_for making g + 7)
  both_calls r keeps told_new g given =
      let told_mid = keeps.content.before told_new in
      let count = nodes_are tells world counts op making pair old are (content.before told_mid) g given.given in
      let calls = paid told_mid in
      let more = keeps.calls told_new in
      omega (arith, calls, more, few, count)

  -- what a stop costs: none was shown before, and a save shows all turns but the last
  both_stops : (r : Result Unit StreamFault) → Kept r → IsTrue (tells new) → (g : Tables)
      → IsGivenAnew making (world old) g → work_for making g < 2 ^ 61
      → StopsCost making.number 0 ((world old).clock + (sweeps_stop + 2 ^ 18 + 6)) (world old) (world new)
  both_stops r keeps told_new g given work =
      let told_mid = keeps.content.before told_new in
      let most : ℕ = (world old).clock + (sweeps_stop + 2 ^ 18 + 6) in
      let none : HasNone making.number (now (world mid)).folder = gate_stays told_mid ∙ given.none in
      let sure = none_shows making.number (now (world mid)).folder none in
      let calls = keeps.calls told_new in
      let before = short told_mid in
      stops_join making.number 0 most (world old) (world mid) (world new) (keeps.content.did told_new).moments.past
      (was_joined.stops told_mid g given work)
      (kept_stops making.number 0 (turns - 1) most (world mid) (world new) sure (omega arith)
      (keeps.shows told_new sure.gate) (omega (arith, calls, before)))

  -- the save was refused
  pub joined_refused : (e : StreamFault) (r : Result MadeDiagram SortFault) → IsErrAnd r (λ x. x ≡ handed_on e)
      → Kept (Err e) → MakesAnew tells world counts making first (nodes_for making) 7
      (sweeps_stop + 2 ^ 18 + 6) old new r
  joined_refused e (Ok x) at keeps = absurd at
  joined_refused e (Err x) at keeps =
      let spared : IsTrue (tells new) → HasNoGate making.number (world old) → IsNoDamage x =
      λ told_new none. no_damage_of e x at
      (keeps.cause told_new (all_there (keeps.content.before told_new) none)) in
      record {
        made = tt;
        undamaged = λ told_new g given. spared told_new (ap (λ (x : File). x.bytes) given.none);
        spent = λ was. absurd (never_spent e x at (let same : x ≡ RunsSpent = cc in same));
        few_calls = λ told_new g given. both_calls (Err e) keeps told_new g given;
        images = λ told_new g given. both_safe (Err e) keeps told_new g given;
        damaged = λ told_new none. no_damage (MissesIn making.operation making.operands) making.n making.operands (world old) x (spared told_new none);
        content = both_change (Err e) keeps;
        counted = tt;
        few_anew = tt;
        untaken = tt;
        calls = tt;
        stops = both_stops (Err e) keeps;
        faults = sort_shelf_then _ _ _ (Ok tt) (Err x) calm (faults_on (counts mid) (counts new) e x at keeps.faults);
      }

  -- it was made, or wasn't due
  pub joined_kept : Kept (Ok tt)
      → MakesAnew tells world counts making first (nodes_for making) 7 (sweeps_stop + 2 ^ 18 + 6)
      old new (Ok joined)
  joined_kept keeps = record {
    made = λ told_new g given.
        let its = was_joined.made (keeps.content.before told_new) g given in
        record {
          made = kept_made tells world counts making (record going { turns = turns }) j.nodes 3 mid new (Ok tt) keeps
              (table_by making g) j.nodes told_new its.made;
          few = its.few;
        };
    undamaged = tt;
    spent = λ was. absurd (cc);
    few_calls = λ told_new g given. both_calls (Ok tt) keeps told_new g given;
    images = λ told_new g given. both_safe (Ok tt) keeps told_new g given;
    damaged = tt;
    content = both_change (Ok tt) keeps;
    counted = was_joined.counted;
    few_anew = was_joined.few_anew;
    untaken = λ told_new. none_then making.number 3 3 (world old) (world mid) (world new) (omega arith)
        (was_joined.untaken (keeps.content.before told_new))
        (none_by_points making.number 3 (world mid) (world new) (omega arith) (keeps.content.did told_new));
    calls = λ told_new below.
        let calls = paid (keeps.content.before told_new) in
        let more = keeps.calls told_new in
        omega (arith, calls, more, some, turns_are, below);
    stops = both_stops (Ok tt) keeps;
    faults = faults_ok (counts old) (counts mid) (counts new) (Ok tt) (Ok tt) joined calm
        (folder_ok (counts mid) (counts new) tt keeps.faults);
  }
