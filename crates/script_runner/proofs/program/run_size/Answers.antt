use Rattle.std.proofs.Common.{◌∙◌}
use Rattle.std.specs.Prelude.{Some}
use Rattle.command_words.specs.Readings.{gen}
use Rattle.script_runner.specs.Status.{status_of}
use Rattle.script_runner.proofs.GenRuns.{ran_size, calls_size}
use Rattle.script_runner.proofs.SourceRuns.{words_gen, has_cause}
use Rattle.script_runner.proofs.SilentEndings.{answers_at_once}
use Rattle.script_runner.proofs.program.run_size.Goals as goal

pub returns-in_default : goal.returns-in_default
returns-in_default g c = record {
  answers = answers_at_once g.W.Shelf.tells g.W.Shelf.world g.W.Shelf.faults
      (Some (gen c.args.folder.now c.args.size c.args.budget)) c.args.station.now;
}

pub returns : goal.returns
returns g c = record {
  answers = record {
    content = ran_size g.W.Shelf.tells g.W.Shelf.world c.args.folder.now c.args.size c.args.budget c.deref.result.now
        (status_of c.run_source.result) _ _ (c.deref.ensures.value ∙ c.in-Ok.ensures) c.run_source.ensures.content;
    calls = λ t. calls_size c.args.folder.now c.args.size c.args.budget c.deref.result.now
        (g.W.Shelf.world c.args.station.now) (g.W.Shelf.world c.run_source.new.station) (c.deref.ensures.value ∙ c.in-Ok.ensures) (c.run_source.ensures.calls t);
    by_words = words_gen c.args.folder.now c.args.size c.args.budget (status_of c.run_source.result)
        c.run_source.ensures.which.known c.run_source.ensures.which.not_usage;
    causes = has_cause _ c.run_source.result _ _ c.run_source.ensures.which.not_text c.run_source.ensures.cause;
    in_order = λ _ six. absurd (c.run_source.ensures.which.not_text six);
  };
}
