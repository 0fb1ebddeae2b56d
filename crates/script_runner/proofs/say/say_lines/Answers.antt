use Rattle.std.proofs.Common.{◌∙◌, ◌<◌, ◌+◌, length, arith, refl, sym, subst}
use Rattle.shelf_model.specs.Calls.{Told}
use Rattle.script_runner.specs.Said.{no_line}
use Rattle.script_runner.specs.StepRuns.{SaysLines}
use Rattle.script_runner.proofs.SayingLines.{none_said, line_more, lines_stopped, stands_after, err_is}
use Rattle.script_runner.proofs.say.say_lines.Goals as goal
use Rattle.std.proofs.lemmas.Grind.{common_steps}

pub loop-line-init : goal.loop-line-init
loop-line-init g c = record {
  said = none_said g.W.Shelf.tells g.W.Shelf.world c.args.steps.now c.args.made.now c.args.station.now;
  stands = c.requires.stands;
  calls = λ t. omega arith;
  causes = record { folder_later = omega arith; say_later = omega arith; text_is = λ path. refl; folder_fault = tt; say_fault = tt };
}

pub returns-in_err-say_line-clause-content : goal.returns-in_err-say_line-clause-content
returns-in_err-say_line-clause-content g c =
    let within : c.loop-line.line-index < length c.args.lines.now = omega arith in
    subst (λ r. Told g.W.Shelf.tells c.args.station.now c.say_line.new.station
    (SaysLines c.args.steps.now (c.args.made.now.number + 1) c.args.lines.now c.args.made.now r (g.W.Shelf.world c.args.station.now) (g.W.Shelf.world c.say_line.new.station)))
    (sym (err_is c.from_residual.result c.in_err-say_line.field-0.0 c.from_residual.ensures.1))
    (lines_stopped g.W.Shelf.tells g.W.Shelf.world c.args.steps.now c.args.made.now c.args.lines.now (c.loop-line.line-index + 1) c.in_err-say_line.field-0.0 _ _
    (line_more g.W.Shelf.tells g.W.Shelf.world c.args.steps.now c.args.made.now c.args.lines.now c.loop-line.line-index no_line _ _ _ _ _ within c.loop-line.invariant.said c.in_err-say_line.ensures.content))

pub loop-line-preserved : goal.loop-line-preserved
loop-line-preserved g c =
    let within : c.loop-line.line-index < length c.args.lines.now = omega arith in
    let before = c.loop-line.invariant.causes in
    let now = c.in_ok-say_line.ensures.causes in
    record {
      said = line_more g.W.Shelf.tells g.W.Shelf.world c.args.steps.now c.args.made.now c.args.lines.now c.loop-line.line-index no_line _ _ _ _ _ within c.loop-line.invariant.said c.in_ok-say_line.ensures.content;
      stands = λ t. stands_after g.W.Shelf.tells g.W.Shelf.world c.args.steps.now c.args.made.now _ _ _ _ _ c.loop-line.invariant.stands c.in_ok-say_line.ensures.content t;
      calls = λ t.
          let so_far = c.loop-line.invariant.calls (c.in_ok-say_line.ensures.content.before t) in
          let more = c.in_ok-say_line.ensures.calls t in
          omega (arith, so_far, more);
      causes = record {
        folder_later = let a = before.folder_later in let b = now.folder_later in omega (arith, a, b);
        say_later = let a = before.say_later in let b = now.say_later in omega (arith, a, b);
        text_is = λ path. now.text_is path ∙ before.text_is path;
        folder_fault = tt;
        say_fault = tt;
      };
    }

pub say_line-requires-clause-within : goal.say_line-requires-clause-within
say_line-requires-clause-within g c = grind (arith, common_steps)

pub say_line-requires-clause-shown : goal.say_line-requires-clause-shown
say_line-requires-clause-shown g c = grind (arith, common_steps)

pub returns-clause-content : goal.returns-clause-content
returns-clause-content g c = grind (arith, common_steps)
