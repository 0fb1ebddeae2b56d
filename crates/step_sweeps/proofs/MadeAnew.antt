-- A step that makes a diagram, by what it does where it begins anew, and where it goes on from its last checkpoint.
use Rattle.std.proofs.Common.{◌≡◌, ◌≢◌, ◌∙◌, ◌+◌, ◌^◌, ◌<◌, ◌≤◌, Bool, refl, sym, subst, ap, arith}
use Rattle.std.specs.Prelude.{Option, Some, None, Result}
use Rattle.shelf_model.specs.declared.sort_fault.SortFault.{SortFault}
use Rattle.shelf_model.specs.Faults.{Faults}
use Rattle.shelf_model.specs.World.{World, now}
use Rattle.step_going.specs.Standing.{IsStanding}
use Rattle.step_going.specs.Found.{IsComeTo}
use Rattle.sweep_checkpoint.specs.Stops.{StopsCost}
use Rattle.sweep_core.specs.Saving.{reads_of}
use Rattle.step_going.proofs.Shown.{stops_more}
use Rattle.sweep_checkpoint.specs.declared.going.Going.{Going}
use Rattle.sweep_core.specs.declared.checkpoint.Checkpoint.{Checkpoint}
use Rattle.resumable.specs.Diagrams.{diagram_rests}
use Rattle.step_sweeps.specs.declared.diagram.MadeDiagram.{MadeDiagram}
use Rattle.step_sweeps.specs.declared.task.Making.{Making}
use Rattle.step_sweeps.specs.Given.{Tables}
use Rattle.step_sweeps.specs.Going.{MayGoOn, next_of, rest_calls}
use Rattle.step_sweeps.specs.Stops.{shown_by, sweeps_stop, step_stop}
use Rattle.step_sweeps.specs.Makes.{IsGivenFor, Makes, goes_on_by, operand_nodes}
use Rattle.step_sweeps.specs.Sweeping.{IsAtPoint, IsComeToArcs, MayResume, MaySweep, Sweeps, most_turns}
use Rattle.step_sweeps.specs.Ways.{IsAnew, IsGivenAnew, MakesAnew}
use Rattle.step_sweeps.proofs.Running.{ok_more, ok_both, err_more}

-- where no checkpoint was found, the step is given what one is that begins anew
pub given_anew : (making : Making) (going : Going) (world : World) (g : Tables) → going.last ≡ None
    → IsGivenFor making going world g → IsGivenAnew making world g
given_anew making going world g none is = record {
  given = is.given;
  firm = is.firm;
  none = subst (λ last. IsStanding (goes_on_by making g) diagram_rests making.number
      (next_of last) (now world).folder last) none is.standing;
}

-- how far the step has come, by whether a checkpoint was found
come_to : (going : Going) (last : Option Checkpoint) → going.last ≡ last → MayGoOn going → IsComeTo last going
come_to going last is may = subst (λ x. IsComeTo x going) is may.going_of.come_to

pub is_anew : (going : Going) → going.last ≡ None → MayGoOn going → IsAnew going.step going
is_anew going none may =
    let come = come_to going None none may in
    let shown = may.going_of.shown_is in
    record {
      step_is = refl;
      sweep_is = come.1;
      last_is = none;
      turns_are = come.0;
      shown_is = shown ∙ come.0;
      budget = may.budget;
    }

at_point : (going : Going) (c : Checkpoint) → going.last ≡ Some c → MayGoOn going → IsAtPoint going c
at_point going c is may =
    let come = come_to going (Some c) is may in
    record {
      last_is = is;
      rules = come.2;
      turns_are = come.0;
      sweep_is = come.1;
      paid = come.3;
    }

pub may_resume : (going : Going) (c : Checkpoint) → going.last ≡ Some c → MayGoOn going → MayResume going.step going
may_resume going c is may = record {
  step_is = refl;
  budget = may.budget;
  shown_is = may.going_of.shown_is;
  point = c;
  at_point = at_point going c is may;
}

-- a checkpoint that isn't of the second sweep is of the first one
first_sweep : (going : Going) (c : Checkpoint) → going.last ≡ Some c → c.sweep ≢ 1 → MayGoOn going
    → going.sweep ≡ 0
first_sweep going c is first may =
    let at = at_point going c is may in
    let few = at.rules.sweep in
    let same = at.sweep_is in
    omega (arith, few, same, first)

pub may_sweep : (going : Going) (c : Checkpoint) → going.last ≡ Some c → c.sweep ≢ 1 → 0 < c.tables → MayGoOn going
    → MaySweep going.step going
may_sweep going c is first tables may = record {
  step_is = refl;
  budget = may.budget;
  shown_is = may.going_of.shown_is;
  sweep_is = first_sweep going c is first may;
  come_to = subst (λ last. IsComeToArcs last going) (sym is) (at_point going c is may, tables);
}

module _ {S : Type 0} (tells : S → Bool) (world : S → World) (counts : S → Faults) (making : Making) (going : Going)
    (old new : S) (r : Result MadeDiagram SortFault) where
  -- what is made anew
  pub anew_makes : going.last ≡ None → going.turns ≡ 0
      → MakesAnew tells world counts making 0 (λ g. 0) 11 (sweeps_stop + 2 ^ 19 + 36) old new r
      → Makes tells world counts making going old new r
  anew_makes none turns makes = record {
    made = ok_more r _ _ (λ m made told g is.
        let done = made told g (given_anew making going (world old) g none is) in
        let few = done.few in
        record { made = done.made; few = omega (arith, few) }) makes.made;
    undamaged = err_more r _ _ (λ e undamaged told g is.
        undamaged told g (given_anew making going (world old) g none is)) makes.undamaged;
    spent = λ was told g is. makes.spent was told g (given_anew making going (world old) g none is);
    few_calls = λ told g is.
        let calls = makes.few_calls told g (given_anew making going (world old) g none is) in
        omega (arith, calls);
    images = λ told g is. makes.images told g (given_anew making going (world old) g none is);
    damaged = err_more r _ _ (λ e damaged told _. damaged told) makes.damaged;
    content = makes.content;
    counted = ok_more r _ _ (λ m is. is.1) makes.counted;
    few_anew = ok_more r _ _ (λ m few anew. few) makes.few_anew;
    untaken = makes.untaken;
    calls = ok_more r _ _ (λ m calls told below.
        let first = calls told below in
        omega (arith, first, turns)) makes.calls;
    grew = ok_more r _ _ (λ m is. omega (arith, turns)) makes.counted;
    stops = λ told g is work.
        let shown : shown_by going.last ≡ 0 = ap shown_by none in
        stops_more making.number (shown_by going.last) ((world old).clock + (sweeps_stop + 2 ^ 19 + 36))
        ((world old).clock + (step_stop + rest_calls going.last (operand_nodes making (reads_of (world old)))))
        (world old) (world new) (omega arith)
        (subst (λ k. StopsCost making.number k ((world old).clock + (sweeps_stop + 2 ^ 19 + 36)) (world old) (world new))
        (sym shown) (makes.stops told g (given_anew making going (world old) g none is) work));
    faults = makes.faults;
  }

  -- what is made from a checkpoint on
  pub sweeps_make : (c : Checkpoint) → going.last ≡ Some c → Sweeps tells world counts making going old new r
      → Makes tells world counts making going old new r
  sweeps_make c is sweeps = record {
    made = ok_more r _ _ (λ m made told g given.
        let done = made told g given in
        record {
          made = done.0;
          few = subst (λ last. m.turns ≤ most_turns last making going g) is done.1;
        }) sweeps.made;
    undamaged = sweeps.undamaged;
    spent = sweeps.spent;
    few_calls = λ told g given.
        let calls = sweeps.few_calls told g given in
        let most : most_turns going.last making going g ≡ most_turns (Some c) making going g =
        ap (λ last. most_turns last making going g) is in
        omega (arith, calls, most);
    images = sweeps.images;
    damaged = sweeps.damaged;
    content = sweeps.content;
    counted = ok_more r _ _ (λ m counted. counted.1) sweeps.counted;
    few_anew = sweeps.few_anew;
    untaken = sweeps.untaken;
    calls = ok_both r _ _ _ (λ m counted calls told below.
        let more = counted.0 in
        let first = calls told below in
        omega (arith, first, more)) sweeps.counted sweeps.calls;
    grew = ok_more r _ _ (λ m counted. counted.0) sweeps.counted;
    stops = λ told g given work. stops_more making.number (shown_by going.last)
        ((world old).clock + (sweeps_stop + rest_calls going.last (operand_nodes making (reads_of (world old)))))
        ((world old).clock + (step_stop + rest_calls going.last (operand_nodes making (reads_of (world old)))))
        (world old) (world new) (omega arith) (sweeps.stops told g given work);
    faults = sweeps.faults;
  }
