use Rattle.std.proofs.Common.{◌∙◌, get_or, sym}
use Rattle.std.specs.Prelude.{IsTrue}
use Rattle.bool_tables.specs.declared.steps.Planned.{Planned}
use Rattle.step_work.specs.Plans.{no_step}
use Rattle.step_engine.proofs.PlanLaws.{may_run}
use Rattle.script_runner.specs.Anew.{found_damage}
use Rattle.script_runner.proofs.RunAgain.{found_damaged, run_again}
use Rattle.script_runner.proofs.anew.run_or_begin_anew.Goals as goal

pub run_step-requires-clause-step : goal.run_step-requires-clause-step
run_step-requires-clause-step g c =
    may_run c.args.job.now.n c.args.job.now.text.now c.args.job.now.steps.now c.args.number no_step c.requires.within c.args.job.now.well_formed

pub run_step-requires-in-Ok-set_aside-clause-step : goal.run_step-requires-in-Ok-set_aside-clause-step
run_step-requires-in-Ok-set_aside-clause-step g c =
    may_run c.args.job.now.n c.args.job.now.text.now c.args.job.now.steps.now c.args.number no_step c.requires.within c.args.job.now.well_formed

-- what was gated of the step is set aside
pub returns-in-Ok-set_aside : goal.returns-in-Ok-set_aside
returns-in-Ok-set_aside g c =
    let p : Planned = get_or c.args.job.now.steps.now c.args.number no_step in
    let is_found : IsTrue (found_damage p.step c.in-Err.fault) = sym c.found_damage.ensures ∙ c.if-not-found_damage.false in
    record {
      makes = run_again g.S.Shelf.tells g.S.Shelf.world g.S.Shelf.faults c.args.job.now.n c.args.job.now.text.now c.args.number p
          c.in-Err.fault is_found c.args.shelf.now c.run_step.new.shelf c.in-Err.ensures.runs c.set_aside.new.shelf c.run_step-in-Ok-set_aside.new.shelf
          c.in-Ok-set_aside.ensures.content c.in-Ok-set_aside.ensures.empty c.in-Ok-set_aside.ensures.faults
          c.run_step-in-Ok-set_aside.result c.run_step-in-Ok-set_aside.ensures.runs;
    }

-- its last checkpoint is damaged, or a call of the folder failed
pub returns-in-Err-set_aside : goal.returns-in-Err-set_aside
returns-in-Err-set_aside g c =
    let p : Planned = get_or c.args.job.now.steps.now c.args.number no_step in
    let is_found : IsTrue (found_damage p.step c.in-Err.fault) = sym c.found_damage.ensures ∙ c.if-not-found_damage.false in
    record {
      makes = found_damaged g.S.Shelf.tells g.S.Shelf.world g.S.Shelf.faults c.args.job.now.n c.args.job.now.text.now c.args.number p
          c.in-Err.fault is_found c.args.shelf.now c.run_step.new.shelf c.in-Err.ensures.runs c.set_aside.new.shelf c.in-Err-set_aside.fault
          c.in-Err-set_aside.ensures.content c.in-Err-set_aside.ensures.damaged c.in-Err-set_aside.ensures.faults
          c.from.result c.from.ensures;
    }
