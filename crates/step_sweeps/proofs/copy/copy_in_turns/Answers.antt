use Rattle.std.proofs.Common.{◌≡◌, ◌∙◌, ◌^◌, refl, ap, arith}
use Rattle.std.specs.Prelude.{min, Err}
use Rattle.run_tiers.specs.declared.parts.Parts.{Parts}
use Rattle.run_tiers.proofs.FaultLaws.{sort_shelf_on, sort_shelf_then}
use Rattle.shelf_model.specs.declared.sort_fault.SortFault.{SortFault}
use Rattle.shelf_model.specs.declared.sort_fault.SortFault.TheVariants.{RunsSpent}
use Rattle.step_sweeps.proofs.CopyRuns.{begun_at, handed_anew, copy_refused, copy_ended}
use Rattle.step_sweeps.proofs.Running.{faults_ok}
use Rattle.step_sweeps.proofs.copy.copy_in_turns.Goals as goal

-- a turn or a save was refused
pub returns-in_err-run_saved : goal.returns-in_err-run_saved
returns-in_err-run_saved g c =
    let said = c.in_err-run_saved.ensures in
    let began = c.in_ok-sweep.ensures in
    let e = c.in_err-run_saved.field-0.0 in record {
      makes = handed_anew g.S.Shelf.tells g.S.Shelf.world g.S.Shelf.faults c.args.making 0
          (λ g. 0) 7 _ _ _ e c.from_residual-in_err-run_saved.result c.from_residual-in_err-run_saved.ensures.1
          (copy_refused g.S.Shelf.tells g.S.Shelf.world g.S.Shelf.faults c.args.making c.args.going.now c.requires.anew
          c.requires.earlier c.args.source c.requires.operand c.node_pieces.result c.in_ok-sweep.sweep
          c.run_saved.new.sweep c.args.shelf.now c.start.new.shelf c.run_saved.new.shelf c.requires.leads
          (begun_at g.S.Shelf.tells g.S.Shelf.world c.args.making.number c.args.source c.node_pieces.result
          c.in_ok-sweep.sweep _ _ c.node_file.result c.node_file.ensures began.begun began.trusts
          c.start.ensures.content c.node_pieces.ensures.enough c.node_pieces.ensures.no_more)
          (record {
            changes = said.changes;
            took = λ told job remains. let its = said.few_calls told job remains in (its.0, its.1, its.2, its.3);
            images = said.images;
            stops = said.stops;
          }) e
          (λ was. let same : e ≡ RunsSpent = cc in said.spent (ap (λ (x : SortFault). Err x) same)) said.undamaged
          (sort_shelf_on _ _ e (Err e) refl
          (sort_shelf_then _ _ _ c.start.result _ c.start.ensures.faults said.faults)));
    }

-- all was copied
pub returns : goal.returns
returns g c =
    let said = c.in_ok-run_saved.ensures in
    let began = c.in_ok-sweep.ensures in record {
      makes = copy_ended g.S.Shelf.tells g.S.Shelf.world g.S.Shelf.faults c.args.making c.args.going.now c.requires.anew
          c.requires.earlier c.args.source c.requires.operand c.node_pieces.result c.in_ok-sweep.sweep
          c.run_saved.new.sweep c.args.shelf.now c.start.new.shelf c.run_saved.new.shelf c.requires.leads
          (begun_at g.S.Shelf.tells g.S.Shelf.world c.args.making.number c.args.source c.node_pieces.result
          c.in_ok-sweep.sweep _ _ c.node_file.result c.node_file.ensures began.begun began.trusts
          c.start.ensures.content c.node_pieces.ensures.enough c.node_pieces.ensures.no_more)
          (record {
            changes = said.changes;
            took = λ told job remains. let its = said.few_calls told job remains in (its.0, its.1, its.2, its.3);
            images = said.images;
            stops = said.stops;
          }) c.run_saved.new.going _ refl refl
          (c.min.ensures ∙ ap (λ (p : Parts). min p.next (2 ^ 32)) c.parts.ensures) said.later said.within said.untaken
          (let made = said.made in omega (arith, made)) said.late said.counted said.few said.keeps
          said.same said.ended said.in_step
          (faults_ok _ _ _ c.start.result c.run_saved.result _ c.start.ensures.faults c.run_saved.ensures.faults);
    }
