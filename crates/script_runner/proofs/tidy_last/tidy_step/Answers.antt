use Rattle.script_runner.specs.Tidied.{tidied_to}
use Rattle.script_runner.proofs.LastTidied.{read_and_tidied, read_and_tidied_calls, read_and_emptied, ok_both, read_then}
use Rattle.script_runner.proofs.tidy_last.tidy_step.Goals as goal

pub returns-in-Ok : goal.returns-in-Ok
returns-in-Ok g c =
    let e = c.in-Ok.entry in
    record {
      content = read_and_tidied g.S.Shelf.tells g.S.Shelf.world c.args.steps.now c.args.number e _ _ _ c.in-Ok.ensures.content c.in-Ok.ensures.ok
          (tidied_to e) c.tidy_again.ensures.content;
      most = λ told.
          let told_read = c.tidy_again.ensures.content.before told in
          (read_and_tidied_calls g.S.Shelf.tells g.S.Shelf.world c.args.steps.now c.args.number e _ _ _ c.in-Ok.ensures.content c.in-Ok.ensures.ok
          told_read (c.in-Ok.ensures.calls told_read) (c.tidy_again.ensures.calls told)).0;
      calls = λ told.
          let told_read = c.tidy_again.ensures.content.before told in
          (read_and_tidied_calls g.S.Shelf.tells g.S.Shelf.world c.args.steps.now c.args.number e _ _ _ c.in-Ok.ensures.content c.in-Ok.ensures.ok
          told_read (c.in-Ok.ensures.calls told_read) (c.tidy_again.ensures.calls told)).1;
      empty = ok_both c.tidy_again.result c.tidy_again.ensures.empty c.tidy_again.ensures.behind (λ empty behind told other is kind.
          read_and_emptied g.S.Shelf.tells g.S.Shelf.world c.args.steps.now c.args.number e _ _ _ c.in-Ok.ensures.content c.in-Ok.ensures.ok
          (c.tidy_again.ensures.content.before told) other is (empty told) (behind told));
      faults = read_then _ _ _ e c.tidy_again.result c.in-Ok.ensures.faults c.tidy_again.ensures.faults;
    }
