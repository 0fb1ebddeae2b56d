use Rattle.script_runner.proofs.run.run_steps.Goals as goal

pub returns : goal.returns
returns g c = record {
  content = c.run_job.ensures.content;
  calls = c.run_job.ensures.calls;
  stops = c.run_job.ensures.stops;
  causes = c.run_job.ensures.causes;
}
