use Rattle.std.proofs.Common.{subst}
use Rattle.std.specs.Prelude.{Ok}
use Rattle.step_work.specs.Plans.{no_step}
use Rattle.step_engine.specs.AtOnce.{RunsNow}
use Rattle.step_engine.proofs.PlanLaws.{may_run}
use Rattle.sound_image.specs.Jobs.{Job, step_at}
use Rattle.script_runner.specs.JobOf.{job_in}
use Rattle.script_runner.proofs.Gathering.{step_refused, step_left, put_refused, step_gathered}
use Rattle.script_runner.proofs.at_once.gather_step.Goals as goal

pub run_at_once-requires-clause-step : goal.run_at_once-requires-clause-step
run_at_once-requires-clause-step g c =
    may_run c.args.job.now.n c.args.job.now.text.now c.args.job.now.steps.now c.args.number no_step c.requires.within.1 c.args.job.now.well_formed

pub returns-in_err-entry : goal.returns-in_err-entry
returns-in_err-entry g c = record {
  gathers = step_refused g.S.Shelf.tells g.S.Shelf.world g.S.Shelf.faults (λ s told f. g.met.S.Shelf.files_are s told f) (job_in c.args.job.now)
      c.args.job.now.well_formed c.args.committed c.args.number c.requires.within.1 c.args.most c.args.shelf.now c.run_at_once.new.shelf _
      c.from_residual.result c.from_residual.ensures.0 c.in_err-entry.ensures.runs c.requires.ready;
}

pub returns-in_default : goal.returns-in_default
returns-in_default g c =
    let job : Job = job_in c.args.job.now in
    record {
      gathers = step_left g.S.Shelf.tells g.S.Shelf.world g.S.Shelf.faults (λ s told f. g.met.S.Shelf.files_are s told f) job
          c.args.job.now.well_formed c.args.committed c.args.number c.requires.within.1 c.args.most c.args.shelf.now c.run_at_once.new.shelf
          (subst (λ found. RunsNow g.S.Shelf.tells g.S.Shelf.world g.S.Shelf.faults job.n job.text c.args.number (step_at job c.args.number)
          c.args.most c.args.shelf.now c.run_at_once.new.shelf (Ok found)) c.in_default.is c.in_ok-entry.ensures.runs) c.requires.ready;
    }

pub returns-in_err-put_entry : goal.returns-in_err-put_entry
returns-in_err-put_entry g c =
    let job : Job = job_in c.args.job.now in
    record {
      gathers = put_refused g.S.Shelf.tells g.S.Shelf.world g.S.Shelf.faults (λ s told f. g.met.S.Shelf.files_are s told f) job
          c.args.job.now.well_formed c.args.committed c.args.number c.requires.within.1 c.args.most c.args.shelf.now c.run_at_once.new.shelf
          c.put_entry.new.shelf c.in-Some.entry
          (subst (λ found. RunsNow g.S.Shelf.tells g.S.Shelf.world g.S.Shelf.faults job.n job.text c.args.number (step_at job c.args.number)
          c.args.most c.args.shelf.now c.run_at_once.new.shelf (Ok found)) c.in-Some.is c.in_ok-entry.ensures.runs) c.requires.ready c.requires.covers
          c.in_err-put_entry.ensures.content c.in_err-put_entry.ensures.calls _ c.from_residual-in_err-put_entry.result
          c.from_residual-in_err-put_entry.ensures.0 c.in_err-put_entry.ensures.faults;
    }

pub returns : goal.returns
returns g c =
    let job : Job = job_in c.args.job.now in
    record {
      gathers = step_gathered g.S.Shelf.tells g.S.Shelf.world g.S.Shelf.faults (λ s told f. g.met.S.Shelf.files_are s told f) job
          c.args.job.now.well_formed c.args.committed c.args.number c.requires.within.1 c.args.most c.args.shelf.now c.run_at_once.new.shelf
          c.put_entry.new.shelf c.in-Some.entry
          (subst (λ found. RunsNow g.S.Shelf.tells g.S.Shelf.world g.S.Shelf.faults job.n job.text c.args.number (step_at job c.args.number)
          c.args.most c.args.shelf.now c.run_at_once.new.shelf (Ok found)) c.in-Some.is c.in_ok-entry.ensures.runs) c.requires.ready c.requires.covers
          c.in_ok-put_entry.ensures.content c.in_ok-put_entry.ensures.calls c.in_ok-put_entry.ensures.ok _ c.in_ok-put_entry.ensures.faults;
    }
