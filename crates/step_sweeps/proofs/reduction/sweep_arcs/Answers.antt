use Rattle.std.proofs.Common.{◌≡◌, ◌∙◌, refl, ap, subst, rules}
use Rattle.std.specs.Prelude.{Err}
use Rattle.run_tiers.proofs.FaultLaws.{sort_shelf_on, sort_shelf_then}
use Rattle.shelf_model.specs.declared.sort_fault.SortFault.{SortFault}
use Rattle.shelf_model.specs.declared.sort_fault.SortFault.TheVariants.{RunsSpent}
use Rattle.reduce_sweep.specs.Sweeps.{Task, IsArcDamage}
use Rattle.step_sweeps.specs.Makes.{table_by}
use Rattle.step_sweeps.proofs.ArcsReduced.{handed_reduction}
use Rattle.step_sweeps.proofs.Running.{faults_ok}
use Rattle.step_sweeps.proofs.SweptReduction.{HasBegun, has_form, reduced_at_end}
use Rattle.step_sweeps.proofs.ReductionRuns.{HasRun, not_begun, cut_here, ordered_undamaged, run_refused, run_ended}
use Rattle.step_sweeps.proofs.reduction.sweep_arcs.Goals as goal
use Rattle.step_sweeps.proofs.reduction.sweep_arcs.Goals.{After-run_saved}
use Rattle.step_sweeps.proofs.reduction.sweep_arcs.Given.{Over}

-- how the sweep began
begun : (g : Over) (c : After-run_saved g) → HasBegun g.S.Shelf.tells g.S.Shelf.world c.args.making c.args.made
    c.in_ok-sweep.sweep c.args.shelf.now c.start.new.shelf
begun g c =
    let began = c.in_ok-sweep.ensures in record {
      out_is = began.files.0 ∙ c.node_file-out.ensures;
      inner_is = began.files.1;
      ends_are = began.files.2;
      arcs_are = began.arcs;
      variables_are = began.variables;
      parts_are = began.parts;
      bound = began.bound;
      remains = began.remains;
      content = cut_here g.S.Shelf.tells g.S.Shelf.world c.args.making.number c.node_file-out.result _ _
          c.node_file-out.ensures c.start.ensures.content;
      forms = λ table are. has_form c.args.making.n table c.args.made.arcs _
          (c.reducing_gives_the_canonical_form.ensures c.args.making.n) c.requires.variables c.requires.files.inner_few
          c.requires.files.ends_few are;
    }

-- and how its turns and its saves went
ran : (g : Over) (c : After-run_saved g) → HasRun g.S.Shelf.tells g.S.Shelf.world c.args.making c.args.going.now
    c.in_ok-sweep.sweep c.run_saved.new.sweep c.start.new.shelf c.run_saved.new.shelf
ran g c =
    let said = c.run_saved.ensures in record {
      changes = said.changes;
      took = λ told job remains. let its = said.few_calls told job remains in (its.0, its.1, its.2, its.3);
      stops = said.stops;
      images = said.images;
    }

-- the sweep didn't begin
pub returns-in_err-sweep : goal.returns-in_err-sweep
returns-in_err-sweep g c =
    let said = c.in_err-sweep.ensures in record {
      reduces = handed_reduction g.S.Shelf.tells g.S.Shelf.world g.S.Shelf.faults c.args.making c.args.made
          c.args.going.now 8 _ _ _ c.in_err-sweep.field-0.0 c.from_residual.result c.from_residual.ensures.1
          (not_begun g.S.Shelf.tells g.S.Shelf.world g.S.Shelf.faults c.args.making c.args.made c.args.going.now
          c.requires.files c.requires.may _ _ c.in_err-sweep.field-0.0
          (λ same. subst (IsArcDamage c.args.made.arcs.inner c.args.made.arcs.ends) same said.refused) said.few_calls
          (λ told are. said.undamaged told are.inner are.ends are.inner_has are.ends_has)
          (cut_here g.S.Shelf.tells g.S.Shelf.world c.args.making.number c.node_file-out.result _ _
          c.node_file-out.ensures said.content) (search rules));
    }

-- a turn or a save was refused
pub returns-in_err-run_saved : goal.returns-in_err-run_saved
returns-in_err-run_saved g c =
    let said = c.in_err-run_saved.ensures in
    let began = c.in_ok-sweep.ensures in
    let e = c.in_err-run_saved.field-0.0 in
    let here = (goal.at.returns-in_err-run_saved g c).After-run_saved in
    record {
      reduces = handed_reduction g.S.Shelf.tells g.S.Shelf.world g.S.Shelf.faults c.args.making c.args.made
          c.args.going.now 8 _ _ _ e c.from_residual-in_err-run_saved.result c.from_residual-in_err-run_saved.ensures.1
          (run_refused g.S.Shelf.tells g.S.Shelf.world g.S.Shelf.faults c.args.making c.args.made c.args.going.now
          c.requires.files c.requires.may c.in_ok-sweep.sweep c.run_saved.new.sweep c.args.shelf.now c.start.new.shelf
          c.run_saved.new.shelf (begun g here) began.calls began.stock (ran g here) e
          (λ was. let same : e ≡ RunsSpent = cc in said.spent (ap (λ (x : SortFault). Err x) same))
          (λ told. ordered_undamaged g.S.Shelf.tells g.S.Shelf.world g.S.Shelf.faults c.args.making c.args.made
          c.args.going.now c.requires.files c.requires.may c.in_ok-sweep.sweep c.run_saved.new.sweep c.args.shelf.now
          c.start.new.shelf c.run_saved.new.shelf (begun g here) began.calls began.stock (ran g here) said.alone told e
          (ap (λ (x : Task). x.arcs) said.same) began.trusts said.covered)
          (sort_shelf_on _ _ e (Err e) refl
          (sort_shelf_then _ _ _ c.start.result _ c.start.ensures.faults said.faults)));
    }

-- the sweep ends with the canonical file of the table
pub returns : goal.returns
returns g c =
    let said = c.in_ok-run_saved.ensures in
    let began = c.in_ok-sweep.ensures in
    let here = (goal.at.returns g c).After-run_saved in
    let t = c.run_saved.new.sweep in record {
      reduces = run_ended g.S.Shelf.tells g.S.Shelf.world g.S.Shelf.faults c.args.making c.args.made c.args.going.now
          c.requires.files c.requires.may c.in_ok-sweep.sweep t c.args.shelf.now c.start.new.shelf
          c.run_saved.new.shelf
          (begun g here) began.calls began.stock (ran g here) c.run_saved.new.going c.reduced.result
          c.reduced.ensures.turns c.reduced.ensures.next
          said.grew said.late said.later said.within said.untaken said.paid said.counted said.few
          (λ told g are remains.
          reduced_at_end c.args.making.n c.args.making.number (table_by c.args.making g) t _ _ _ said.ended
          (ap (λ (x : Task). x.out) said.same ∙ began.files.0 ∙ c.node_file-out.ensures) (ap (λ (x : Task). x.variables) said.same ∙ began.variables)
          c.reduced.ensures.nodes
          (has_form c.args.making.n (table_by c.args.making g) c.args.made.arcs _
          (c.reducing_gives_the_canonical_form.ensures c.args.making.n) c.requires.variables c.requires.files.inner_few
          c.requires.files.ends_few are.has.arcs) (said.keeps told _ remains))
          (faults_ok _ _ _ c.start.result c.run_saved.result _ c.start.ensures.faults c.run_saved.ensures.faults);
    }
