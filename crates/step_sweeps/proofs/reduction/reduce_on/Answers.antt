use Rattle.std.proofs.Common.{◌≡◌, refl, ap, arith}
use Rattle.std.specs.Prelude.{Ok, Err}
use Rattle.run_tiers.proofs.FaultLaws.{sort_shelf_on, sort_shelf_then}
use Rattle.shelf_model.specs.declared.sort_fault.SortFault.{SortFault}
use Rattle.shelf_model.specs.declared.sort_fault.SortFault.TheVariants.{RunsSpent}
use Rattle.reduce_sweep.specs.Sweeps.{Task}
use Rattle.step_sweeps.proofs.Running.{faults_ok}
use Rattle.step_sweeps.proofs.SweptSteps.{handed_sweeps}
use Rattle.step_sweeps.proofs.ReductionOn.{on_refused, on_ended}
use Rattle.step_sweeps.proofs.reduction.reduce_on.Goals as goal

-- the reduction wasn't rebuilt
pub returns-in_err-sweep : goal.returns-in_err-sweep
returns-in_err-sweep g c = record {
  sweeps = handed_sweeps g.S.Shelf.tells g.S.Shelf.world g.S.Shelf.faults c.args.making c.args.going.now _ _
      c.in_err-sweep.field-0.0 c.from_residual.result c.from_residual.ensures.1 c.in_err-sweep.ensures.refused;
}

-- a turn or a save was refused
pub returns-in_err-run_saved : goal.returns-in_err-run_saved
returns-in_err-run_saved g c =
    let said = c.in_err-run_saved.ensures in
    let began = c.in_ok-sweep.ensures in
    let e = c.in_err-run_saved.field-0.0 in record {
      sweeps = handed_sweeps g.S.Shelf.tells g.S.Shelf.world g.S.Shelf.faults c.args.making c.args.going.now _ _ e
          c.from_residual-in_err-run_saved.result c.from_residual-in_err-run_saved.ensures.1
          (on_refused g.S.Shelf.tells g.S.Shelf.world g.S.Shelf.faults c.args.making c.args.going.now c.requires.going
          c.requires.second c.in_ok-sweep.sweep c.run_saved.new.sweep c.args.shelf.now c.rebuild_reduction.new.shelf
          c.run_saved.new.shelf began.starts began.task.0 began.task.1
          (record {
            changes = said.changes;
            took = λ told job remains. let its = said.few_calls told job remains in (its.0, its.1, its.2, its.3);
            images = said.images;
            stops = said.stops;
          }) e
          (λ was. let same : e ≡ RunsSpent = cc in said.spent (ap (λ (x : SortFault). Err x) same))
          (λ told f. g.met.S.Shelf.files_are _ told f) said.undamaged
          (sort_shelf_on _ _ e (Err e) refl
          (sort_shelf_then _ _ _ (Ok c.in_ok-sweep.sweep) _ began.starts.faults said.faults)));
    }

-- the reduction ends with the canonical file of the table
pub returns : goal.returns
returns g c =
    let said = c.in_ok-run_saved.ensures in
    let began = c.in_ok-sweep.ensures in record {
      sweeps = on_ended g.S.Shelf.tells g.S.Shelf.world g.S.Shelf.faults c.args.making c.args.going.now c.requires.going
          c.requires.second c.in_ok-sweep.sweep c.run_saved.new.sweep c.args.shelf.now c.rebuild_reduction.new.shelf
          c.run_saved.new.shelf began.starts began.task.0 began.task.1
          (record {
            changes = said.changes;
            took = λ told job remains. let its = said.few_calls told job remains in (its.0, its.1, its.2, its.3);
            images = said.images;
            stops = said.stops;
          }) c.run_saved.new.going c.reduced.result (search arith) c.reduced.ensures.turns c.reduced.ensures.next
          said.made
          said.late said.later said.within said.untaken said.paid said.counted said.few said.keeps said.ended
          (ap (λ (x : Task). x.out) said.same) (ap (λ (x : Task). x.variables) said.same) c.reduced.ensures.nodes
          (faults_ok _ _ _ (Ok c.in_ok-sweep.sweep) c.run_saved.result _ began.starts.faults c.run_saved.ensures.faults);
    }
