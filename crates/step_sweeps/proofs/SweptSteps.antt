-- A step that makes a diagram by sweeps: its arcs are made, or refused, and then reduced.
use Rattle.std.proofs.Common.{◌≡◌, ℕ, ◌+◌, ◌-◌, ◌*◌, ◌^◌, ◌<◌, ◌≤◌, Bool, IsTrue, List, refl, ap, sym, subst, arith}
use Rattle.std.specs.Prelude.{None, Result, Ok, Err, IsErrOf, IsErrAnd}
use Rattle.shelf_model.specs.declared.sort_fault.SortFault.{SortFault}
use Rattle.shelf_model.specs.declared.sort_fault.SortFault.TheVariants.{RunsSpent}
use Rattle.shelf_model.specs.Faults.{Faults}
use Rattle.shelf_model.specs.Folder.{AreFiles}
use Rattle.shelf_model.specs.World.{World, now}
use Rattle.shelf_model.proofs.Changing.{told_changed_then}
use Rattle.shelf_model.proofs.Runs.{joins}
use Rattle.run_tiers.specs.Faults.{OnlySortShelf}
use Rattle.run_tiers.proofs.FaultLaws.{sort_shelf_then}
use Rattle.step_going.specs.Standing.{AreSafe, IsStanding}
use Rattle.sweep_checkpoint.specs.Going.{first_owed, interval_of}
use Rattle.sweep_checkpoint.specs.Stops.{StopsCost}
use Rattle.step_going.proofs.Shown.{stops_join, stops_more}
use Rattle.sweep_checkpoint.specs.declared.going.Going.{Going}
use Rattle.sweep_core.specs.Saving.{reads_of}
use Rattle.sweep_core.proofs.Untaken.{none_then}
use Rattle.resumable.specs.Diagrams.{diagram_rests}
use Rattle.top_down_sweep.specs.Ordered.{AreOrdered}
use Rattle.top_down_sweep.specs.Tasks.{AreArcFiles}
use Rattle.sweep_checkpoint.specs.Stops.{StopsCost}
use Rattle.step_going.proofs.Shown.{stops_more}
use Rattle.step_sweeps.specs.Stops.{shown_by, sweeps_stop}
use Rattle.step_sweeps.specs.declared.arcs.MadeArcs.{MadeArcs}
use Rattle.step_sweeps.specs.declared.diagram.MadeDiagram.{MadeDiagram}
use Rattle.step_sweeps.specs.declared.task.Making.{Making}
use Rattle.step_sweeps.specs.Damage.{MissesIn}
use Rattle.step_sweeps.specs.Given.{Tables, tuples_by}
use Rattle.step_sweeps.specs.Going.{next_of, rest_calls}
use Rattle.step_sweeps.specs.Makes.{IsGivenFor, goes_on_by, table_by, work_for, operand_nodes}
use Rattle.step_sweeps.specs.Sweeping.{MakesArcs, AreReducible, Reduces, Sweeps, IsEarly, MaySweep, most_turns, owed_parts}
use Rattle.step_sweeps.specs.Stops.{shown_by, reduce_stop, sweeps_stop}
use Rattle.step_sweeps.specs.Ways.{IsGivenAnew, MakesAnew, left_by_sweeps}
use Rattle.step_sweeps.proofs.Faults.{no_damage}
use Rattle.step_sweeps.proofs.Running.{ok_more, ok_both, err_more}
use Rattle.step_sweeps.proofs.StepStands.{points_there}
use Rattle.step_sweeps.proofs.Stops.{both_few, come_shown, said_few, stops_from}
use Rattle.step_sweeps.proofs.SweptSums.{first_paid, both_paid, both_made, most_within}

-- the arcs of a table's diagram are in the order of their files
in_order : (n : ℕ) (table : List Bool) (m : MadeArcs) (world : World) → AreArcFiles n table m.arcs world
    → AreOrdered m.arcs world
in_order n table m world are =
    record { inner = are.inner; ends = are.ends; inner_has = are.inner_has; ends_has = are.ends_has }

module _ {S : Type 0} (tells : S → Bool) (world : S → World) (counts : S → Faults) (making : Making) where
  -- a fault that is handed on
  pub handed_sweeps : (going : Going) (before after : S) (e : SortFault) (r : Result MadeDiagram SortFault)
      → IsErrAnd r (λ x. x ≡ e) → Sweeps tells world counts making going before after (Err e)
      → Sweeps tells world counts making going before after r
  handed_sweeps going before after e (Ok x) is sweeps = absurd is
  handed_sweeps going before after e (Err x) is sweeps =
      subst (λ (y : SortFault). Sweeps tells world counts making going before after (Err y)) (sym is) sweeps

  module _ (old mid : Going) (before : S) where
    -- the arcs weren't made
    pub arcs_refused : (after : S) (e : SortFault)
        → MakesArcs tells world counts making old mid before after (Err e)
        → OnlySortShelf {T = MadeDiagram} (counts before) (counts after) (Err e)
        → Sweeps tells world counts making old before after (Err e)
    arcs_refused after e first faults = record {
      made = tt;
      undamaged = first.undamaged;
      spent = λ was. first.spent (is_spent was);
      few_calls = λ told g given.
          let few = first.few_calls told g given in
          let within = few.0.few in
          first_paid old.turns few.0.left (10 * tuples_by making.operation making.n g)
          (most_turns old.last making old g) (owed_parts old.last)
          (rest_calls old.last (operand_nodes making (reads_of (world before)))) _ _ few.0.takes
          (omega (arith, within)) few.2;
      images = first.images;
      stops = λ told g given within. stops_more making.number (shown_by old.last) _ _ (world before) (world after)
          (omega arith) (first.stops told g given within);
      damaged = first.damaged;
      content = first.content;
      counted = tt;
      few_anew = tt;
      untaken = tt;
      calls = tt;
      faults = faults;
    }
      where
        is_spent : IsErrOf {T = MadeDiagram} (Err e) RunsSpent → IsErrOf {T = MadeArcs} (Err e) RunsSpent
        is_spent was = let same : e ≡ RunsSpent = cc in ap (λ (x : SortFault). Err x) same

    module _ (at : S) (m : MadeArcs) (may : MaySweep making.number old) (early : IsEarly tells world making old before)
        (first : MakesArcs tells world counts making old mid before at (Ok m)) where
      -- of the step's tables they are such as can be
      reducible : (told : IsTrue (tells at)) (g : Tables) (given : IsGivenFor making old (world before) g)
          → (are : AreReducible making mid g 10 m (world at))
          × (are.has.sources ≤ tuples_by making.operation making.n g)
          × (are.has.last ≡ (first.made told g given).has.last)
      reducible told g given =
          let made = first.made told g given in
          let few = made.few in
          let sources = made.few_sources in
          let within = most_within making old g old.last (early (first.content.before told) g given.given) in (
            record {
              has = record {
                arcs = made.has.arcs;
                sources = made.has.sources;
                has_sources = made.has.has_sources;
                inner_firm = made.has.inner_firm;
                ends_firm = made.has.ends_firm;
                last = made.has.last;
                standing = made.has.standing;
                apart = made.has.apart;
              };
              few = omega (arith, few, sources, within);
            },
            sources,
            refl,
          )

      -- what a stop costs, of both sweeps
      both_stops : (after : S) (r : Result MadeDiagram SortFault)
          → Reduces tells world counts making m mid 10 (reduce_stop mid m.parts.next) at after r
          → IsTrue (tells after) → (g : Tables) → IsGivenFor making old (world before) g → work_for making g < 2 ^ 61
          → StopsCost making.number (shown_by old.last) ((world before).clock
          + (sweeps_stop + rest_calls old.last (operand_nodes making (reads_of (world before)))))
          (world before) (world after)
      both_stops after r second told g given within =
          let began = second.content.before told in
          let are = reducible began g given in
          let made = first.made began g given in
          let rest : ℕ = rest_calls old.last (operand_nodes making (reads_of (world before))) in
          let all : ℕ = (world before).clock + (sweeps_stop + rest) in
          let stop : ℕ = (world at).clock + reduce_stop mid m.parts.next in
          let most = most_within making old g old.last (early (first.content.before began) g given.given) in
          let few = made.few in
          let turns : mid.turns < 2 ^ 61 = omega (arith, few, most, within) in
          let calls = first.calls (omega (arith, turns)) in
          let shown_is = may.shown_is in
          let before_shown : shown_by old.last ≤ old.shown = come_shown making.number old may in
          let said = said_few old mid made.has.last before_shown calls.0 made.said in
          stops_join making.number (shown_by old.last) all (world before) (world at) (world after)
          (second.content.did told).moments.past
          (stops_more making.number (shown_by old.last) _ all (world before) (world at) (omega arith)
          (first.stops began g given within))
          (stops_from making.number (shown_by old.last) (shown_by made.has.last) stop all (world at) (world after)
          (let less = said.0 in omega (arith, less))
          (both_few (shown_by old.last) (shown_by made.has.last) old.turns mid.turns old.shown mid.shown
          (owed_parts old.last) m.parts.next (first_owed mid.last m.parts.next) (interval_of mid.budget) rest
          (world before).clock (world at).clock calls.1 shown_is calls.0 first.paid.shown
          (subst (λ b. mid.turns - mid.shown ≤ interval_of b) (sym first.going.budget_is) (first.recent turns))
          (omega arith) said.0 calls.2 (calls.3 began))
          (subst (λ last. StopsCost making.number (shown_by last) stop (world at) (world after)) are.2
          (second.stops told g are.0 within (subst (λ last. shown_by last ≤ mid.shown) (sym are.2) said.1))))

      -- and so the step's diagram is made, or that is refused
      pub reduced_then : (after : S) (r : Result MadeDiagram SortFault)
          → (IsTrue (tells at) → AreFiles (now (world at)).folder)
          → Reduces tells world counts making m mid 10 (reduce_stop mid m.parts.next) at after r
          → Sweeps tells world counts making old before after r
      reduced_then after r files_are second =
          let began : IsTrue (tells after) → IsTrue (tells at) = λ told. second.content.before told in
          record {
            made = ok_more r _ _ (λ d made told g given.
                let are = reducible (began told) g given in
                let is = made told g are.0 in
                let few = is.1 in
                let fewer = are.1 in
                let arcs = (first.made (began told) g given).few in
                (is.0, omega (arith, few, fewer, arcs))) second.made;
            undamaged = err_more r _ _ (λ e none told g given.
                let made = first.made (began told) g given in
                none told (in_order making.n (table_by making g) m (world at) made.has.arcs)
                (points_there (goes_on_by making g) diagram_rests making.number m.parts.next
                (now (world at)).folder made.has.last (files_are (began told)) made.has.standing)) second.undamaged;
            spent = λ was told g given. second.spent was told g (reducible (began told) g given).0;
            few_calls = λ told g given.
                let are = reducible (began told) g given in
                let few = first.few_calls (began told) g given in
                let fewer = are.1 in
                let within = few.0.few in
                let arcs = (first.made (began told) g given).few in
                let shown_is = may.shown_is in
                let saved = few.1.0 in
                both_paid old.turns mid.turns mid.shown few.0.left (10 * are.0.has.sources)
                (most_turns old.last making old g) (owed_parts old.last) m.parts.next
                (first_owed mid.last m.parts.next)
                (rest_calls old.last (operand_nodes making (reads_of (world before)))) _ _ _ few.0.takes
                (second.few_calls told g are.0).0 (omega (arith, within, fewer)) (omega (arith, arcs, fewer))
                first.paid.shown (omega (arith, saved, shown_is)) few.1.1 few.2 (second.few_calls told g are.0).1;
            images = λ told g given.
                joins (world before) (world at) (world after)
                (λ m. AreSafe (goes_on_by making g) making.number m.folder)
                (first.images (began told) g given)
                (second.images told g (reducible (began told) g given).0);
            stops = both_stops after r second;
            damaged = err_more r _ _ (λ e none told anew no_gate.
                let are = first.ordered (began told) anew no_gate in
                no_damage (MissesIn making.operation making.operands) making.n making.operands (world before) e (none told are.0 are.1)) second.undamaged;
            content = told_changed_then tells world _ _ before at after (λ f is. is) first.content second.content;
            counted = ok_more r _ _ (λ d counted.
                let grew = first.grew in
                let more = counted.0 in
                (omega (arith, grew, more), counted.1)) second.counted;
            few_anew = ok_more r _ _ (λ d few anew. few (first.taken anew)) second.taken;
            untaken = ok_more r _ _ (λ d its told. none_then making.number m.parts.next d.next (world before) (world at)
                (world after) its.0 (first.untaken (began told)) (its.1 told)) second.untaken;
            calls = ok_both r _ _ _ (λ d counted calls told below.
                let more = counted.0 in
                let grew = first.grew in
                let one = first.calls (omega (arith, more, below)) in
                let two = calls below in
                both_made old.turns old.shown mid.turns d.turns mid.shown (owed_parts old.last) m.parts.next
                (first_owed mid.last m.parts.next)
                (rest_calls old.last (operand_nodes making (reads_of (world before)))) _ _ _ one.1 two.0 may.shown_is
                grew more one.0 first.paid.shown one.2 (one.3 (began told)) (two.1 told))
                second.counted second.calls;
            faults = sort_shelf_then _ _ _ (Ok m) r first.faults second.faults;
          }

  -- a step that began with the sweeps, where turns were made before
  pub swept_anew : (going : Going) (before after : S) (r : Result MadeDiagram SortFault) → going.last ≡ None
      → Sweeps tells world counts making going before after r
      → MakesAnew tells world counts making going.turns (left_by_sweeps making) 11 sweeps_stop before after r
  swept_anew going before after r anew sweeps =
      let given_for : (g : Tables) → IsGivenAnew making (world before) g → IsGivenFor making going (world before) g =
      λ g given. record {
        given = given.given;
        firm = given.firm;
        standing = subst (λ last. IsStanding (goes_on_by making g) diagram_rests making.number
            (next_of last) (now (world before)).folder last) (sym anew) given.none;
      } in
      let most : (g : Tables) → most_turns going.last making going g ≡ most_turns None making going g =
      λ g. ap (λ last. most_turns last making going g) anew in
      let none : (nodes : ℕ) → rest_calls going.last nodes ≡ 0 = λ nodes. ap (λ last. rest_calls last nodes) anew in
      let nodes : ℕ = operand_nodes making (reads_of (world before)) in
      record {
        made = ok_more r _ _ (λ d made told g given.
            let is = made told g (given_for g given) in
            let few = is.1 in
            let all = most g in
            record { made = is.0; few = omega (arith, few, all) }) sweeps.made;
        undamaged = err_more r _ _ (λ e none told g given. none told g (given_for g given)) sweeps.undamaged;
        spent = λ was told g given. sweeps.spent was told g (given_for g given);
        few_calls = λ told g given.
            let few = sweeps.few_calls told g (given_for g given) in
            let all = most g in
            let rest = none nodes in
            omega (arith, few, all, rest);
        images = λ told g given. sweeps.images told g (given_for g given);
        damaged = err_more r _ _ (λ e is told no_gate. is told anew no_gate) sweeps.damaged;
        content = sweeps.content;
        counted = sweeps.counted;
        few_anew = ok_more r _ _ (λ d few. few anew) sweeps.few_anew;
        untaken = sweeps.untaken;
        calls = ok_more r _ _ (λ d calls told below.
            let made = calls told below in
            let rest = none nodes in
            omega (arith, made, rest)) sweeps.calls;
        stops = λ told g given work.
            let rest = none nodes in
            let shown : shown_by going.last ≡ 0 = ap shown_by anew in
            stops_more making.number 0 ((world before).clock + (sweeps_stop + rest_calls going.last nodes))
            ((world before).clock + sweeps_stop) (world before) (world after) (omega (arith, rest))
            (subst (λ k. StopsCost making.number k ((world before).clock + (sweeps_stop + rest_calls going.last nodes))
            (world before) (world after)) shown (sweeps.stops told g (given_for g given) work));
        faults = sweeps.faults;
      }
