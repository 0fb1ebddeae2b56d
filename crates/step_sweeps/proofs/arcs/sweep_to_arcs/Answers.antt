use Rattle.std.proofs.Common.{◌≡◌, ◌∙◌, ◌^◌, ◌<◌, sym, subst, ap, arith}
use Rattle.std.specs.Result.{result_from_control_flow}
use Rattle.std.specs.Prelude.{Result, Ok, Err}
use Rattle.shelf_model.specs.declared.sort_fault.SortFault.{SortFault}
use Rattle.run_tiers.specs.declared.parts.Parts.{Parts}
use Rattle.step_sweeps.specs.Sweeping.{IsCovered}
use Rattle.step_sweeps.proofs.ArcsMade.{HasEnded, arcs_fault, handed_arcs, ran_made, ran_out}
use Rattle.step_sweeps.proofs.ArcsRun.{HasRun, run_content, run_refused}
use Rattle.step_sweeps.proofs.arcs.sweep_to_arcs.Goals as goal
use Rattle.step_sweeps.proofs.arcs.sweep_to_arcs.Goals.{After-run_saved}
use Rattle.step_sweeps.proofs.arcs.sweep_to_arcs.Given.{Over}

-- how the turns and the saves went
run : (g : Over) (c : After-run_saved g) (r : Result Unit SortFault) → c.run_saved.result ≡ r
    → HasRun g.S.Shelf.tells g.S.Shelf.world g.S.Shelf.faults c.args.going.now c.run_saved.new.going c.in_ok-sweep.sweep
    c.run_saved.new.sweep c.begin_arcs.new.shelf c.run_saved.new.shelf r
run g c r is =
    let said = c.run_saved.ensures in
    subst (HasRun g.S.Shelf.tells g.S.Shelf.world g.S.Shelf.faults c.args.going.now c.run_saved.new.going
    c.in_ok-sweep.sweep c.run_saved.new.sweep c.begin_arcs.new.shelf c.run_saved.new.shelf) is (record {
      going_is = said.going;
      took = λ told job remains. let its = said.few_calls told job remains in (its.0, its.1, its.4, its.2, its.3);
      undamaged = said.undamaged;
      changes = said.changes;
      images = said.images;
      stops = said.stops;
      spent = said.spent;
      faults = said.faults;
    })

-- and what they left, where none was refused
ended : (g : Over) (c : After-run_saved g) → c.run_saved.result ≡ Ok tt
    → c.run_saved.new.going.shown < 2 ^ 64 → HasEnded g.S.Shelf.tells g.S.Shelf.world c.args.going.now c.run_saved.new.going c.in_ok-sweep.sweep
    c.run_saved.new.sweep c.begin_arcs.new.shelf c.run_saved.new.shelf (Ok tt)
ended g c is word =
    let said = c.run_saved.ensures in
    subst (HasEnded g.S.Shelf.tells g.S.Shelf.world c.args.going.now c.run_saved.new.going c.in_ok-sweep.sweep
    c.run_saved.new.sweep c.begin_arcs.new.shelf c.run_saved.new.shelf) is (record {
      ready = said.ready;
      firm = said.firm;
      task_is = λ i. (said.same i).0;
      step_is = said.step;
      next = said.later;
      late = said.late;
      grew = said.grew;
      owed = said.owed;
      counted = said.counted;
      paid = said.paid;
      keeps = said.keeps;
      few = said.few;
      stands = said.stands;
      trusts = said.trusts;
      covers = said.covers;
      recent = said.recent;
      untaken = said.untaken;
      shown = said.shown;
      word = word;
    })

-- a turn or a save was refused
pub returns-in_err-run_saved : goal.returns-in_err-run_saved
returns-in_err-run_saved g c =
    let said = c.in_err-run_saved.ensures in
    let began = c.in_ok-sweep.ensures in
    let e = c.in_err-run_saved.field-0.0 in
    let s = c.in_ok-sweep.sweep in
    let t = c.run_saved.new.sweep in
    let old = c.args.shelf.now in
    let mid = c.begin_arcs.new.shelf in
    let after = c.run_saved.new.shelf in
    let here = (goal.at.returns-in_err-run_saved g c).After-run_saved in
    let is = c.branch-run_saved.ensures ∙ ap result_from_control_flow c.in_err-run_saved.is in
    let run_here = run g here (Err e) is in
    record {
      makes = handed_arcs g.S.Shelf.tells g.S.Shelf.world g.S.Shelf.faults c.args.making c.args.going.now
          c.run_saved.new.going old after e c.from_residual-in_err-run_saved.result
          c.from_residual-in_err-run_saved.ensures.1
          (run_refused g.S.Shelf.tells g.S.Shelf.world g.S.Shelf.faults c.args.making c.args.going.now c.requires.going old
          mid after c.requires.early s t began.starts began.task (g.met.S.Shelf.files_are mid) c.run_saved.new.going e
          run_here (λ told none gate. arcs_fault c.args.making t (g.S.Shelf.world old) (g.S.Shelf.world after) e
          c.requires.earlier ((λ i. (said.same i).0) ∙ began.task) ((λ i. (said.same i).1) ∙ began.operation none)
          (said.step ∙ began.starts.may.step_is)
          ((run_content g.S.Shelf.tells g.S.Shelf.world g.S.Shelf.faults c.args.making c.args.going.now c.requires.going old
          mid after c.requires.early s t began.starts began.task (g.met.S.Shelf.files_are mid) c.run_saved.new.going
          (Err e) run_here).did told)
          (said.covered told (began.trusts (said.changes.before told) none)
          (subst (λ k. IsCovered k (g.S.Shelf.world mid)) (sym c.requires.going.step_is)
          (began.covered (said.changes.before told) none gate)))));
    }

-- it took more part numbers than a step has
pub returns-then-parts-gt-PARTS : goal.returns-then-parts-gt-PARTS
returns-then-parts-gt-PARTS g c =
    let began = c.in_ok-sweep.ensures in
    let s = c.in_ok-sweep.sweep in
    let t = c.run_saved.new.sweep in
    let old = c.args.shelf.now in
    let mid = c.begin_arcs.new.shelf in
    let after = c.run_saved.new.shelf in
    let here = (goal.at.returns-then-parts-gt-PARTS g c).After-run_saved in
    let is = c.branch-run_saved.ensures ∙ ap result_from_control_flow c.in_ok-run_saved.is in
    record {
      makes = ran_out g.S.Shelf.tells g.S.Shelf.world g.S.Shelf.faults c.args.making c.args.going.now c.requires.going old mid
          after c.requires.early s t began.starts began.task (g.met.S.Shelf.files_are mid) c.run_saved.new.going
          (run g here (Ok tt) is)
          (ended g here is (search arith))
          (let same = ap (λ (p : Parts). p.next) c.parts-parts.ensures in search arith);
    }

-- and its arcs are made
pub returns : goal.returns
returns g c =
    let began = c.in_ok-sweep.ensures in
    let s = c.in_ok-sweep.sweep in
    let t = c.run_saved.new.sweep in
    let old = c.args.shelf.now in
    let mid = c.begin_arcs.new.shelf in
    let after = c.run_saved.new.shelf in
    let here = (goal.at.returns g c).After-run_saved in
    let is = c.branch-run_saved.ensures ∙ ap result_from_control_flow c.in_ok-run_saved.is in
    record {
      makes = ran_made g.S.Shelf.tells g.S.Shelf.world g.S.Shelf.faults c.args.making c.args.going.now c.requires.going old mid
          after c.requires.early s t began.starts began.task (g.met.S.Shelf.files_are mid) c.run_saved.new.going
          (run g here (Ok tt) is)
          (ended g here is (search arith)) c.requires.earlier c.made.result
          (record { arcs = c.in-Some.arcs; parts = c.parts-parts.result }) (record {
            gives = c.made.ensures;
            is = cc;
            parts_are = c.parts-parts.ensures;
            below = search arith;
          }) (λ told none gate. (began.trusts told none, began.covered told none gate));
    }
