use Rattle.script_runner.specs.JobOf.{job_in}
use Rattle.script_runner.proofs.AtOnceTaken.{gather_stopped, none_taken, commit_stopped, cut_stopped, were_taken}
use Rattle.script_runner.proofs.at_once.take_at_once.Goals as goal

pub returns-in_err-last : goal.returns-in_err-last
returns-in_err-last g c = record {
  takes = gather_stopped g.S.Shelf.tells g.S.Shelf.world g.S.Shelf.faults (λ s told f. g.met.S.Shelf.files_are s told f) (job_in c.args.job.now)
      c.args.job.now.well_formed c.args.from c.args.until c.args.spare.now c.gather.new.spare c.requires.within.0 c.requires.within.1
      c.args.shelf.now c.gather.new.shelf c.in_err-last.field-0.0 c.from_residual.result c.from_residual.ensures.1 c.in_err-last.ensures.gathers;
}

pub returns-in_default : goal.returns-in_default
returns-in_default g c = record {
  takes = none_taken g.S.Shelf.tells g.S.Shelf.world g.S.Shelf.faults (λ s told f. g.met.S.Shelf.files_are s told f) (job_in c.args.job.now)
      c.args.job.now.well_formed c.args.from c.args.until c.args.spare.now c.gather.new.spare c.requires.within.0 c.requires.within.1
      c.args.shelf.now c.gather.new.shelf c.in_ok-last.field-0 c.in_default.not-Some c.in_ok-last.ensures.gathers;
}

pub returns-in_err-commit_waiting : goal.returns-in_err-commit_waiting
returns-in_err-commit_waiting g c = record {
  takes = commit_stopped g.S.Shelf.tells g.S.Shelf.world g.S.Shelf.faults (λ s told f. g.met.S.Shelf.files_are s told f) (job_in c.args.job.now)
      c.args.job.now.well_formed c.args.from c.args.until c.args.spare.now c.gather.new.spare c.requires.within.0 c.requires.within.1
      c.args.shelf.now c.gather.new.shelf c.in_ok-last.field-0 c.in-Some.last c.in-Some.is c.in_ok-last.ensures.gathers
      c.commit_waiting.new.shelf c.in_err-commit_waiting.ensures.content c.in_err-commit_waiting.ensures.calls
      c.in_err-commit_waiting.field-0.0 c.from_residual-in_err-commit_waiting.result c.from_residual-in_err-commit_waiting.ensures.1
      c.in_err-commit_waiting.ensures.faults;
}

pub returns-in_err-empty_dropped : goal.returns-in_err-empty_dropped
returns-in_err-empty_dropped g c = record {
  takes = cut_stopped g.S.Shelf.tells g.S.Shelf.world g.S.Shelf.faults (λ s told f. g.met.S.Shelf.files_are s told f) (job_in c.args.job.now)
      c.args.job.now.well_formed c.args.from c.args.until c.args.spare.now c.gather.new.spare c.requires.within.0 c.requires.within.1
      c.args.shelf.now c.gather.new.shelf c.in_ok-last.field-0 c.in-Some.last c.in-Some.is c.in_ok-last.ensures.gathers
      c.commit_waiting.new.shelf c.in_ok-commit_waiting.ensures.content c.in_ok-commit_waiting.ensures.calls c.in_ok-commit_waiting.ensures.ok
      c.in_ok-commit_waiting.ensures.faults c.empty_dropped.new.shelf c.in_err-empty_dropped.ensures.content c.in_err-empty_dropped.ensures.calls
      c.in_err-empty_dropped.field-0.0 c.from_residual-in_err-empty_dropped.result c.from_residual-in_err-empty_dropped.ensures.1
      c.in_err-empty_dropped.ensures.faults;
}

pub returns : goal.returns
returns g c = record {
  takes = were_taken g.S.Shelf.tells g.S.Shelf.world g.S.Shelf.faults (λ s told f. g.met.S.Shelf.files_are s told f) (job_in c.args.job.now)
      c.args.job.now.well_formed c.args.from c.args.until c.args.spare.now c.gather.new.spare c.requires.within.0 c.requires.within.1
      c.args.shelf.now c.gather.new.shelf c.in_ok-last.field-0 c.in-Some.last c.in-Some.is c.in_ok-last.ensures.gathers
      c.commit_waiting.new.shelf c.in_ok-commit_waiting.ensures.content c.in_ok-commit_waiting.ensures.calls c.in_ok-commit_waiting.ensures.ok
      c.in_ok-commit_waiting.ensures.faults c.empty_dropped.new.shelf c.in_ok-empty_dropped.ensures.content c.in_ok-empty_dropped.ensures.calls
      c.in_ok-empty_dropped.ensures.faults c.in_ok-empty_dropped.ensures.empty;
}
