use Rattle.std.proofs.Common.{◌∙◌, ◌+◌, [], ◌∷◌, inl, inr, sym, subst, refl}
use Rattle.shelf_model.specs.Calls.{Told}
use Rattle.script_runner.specs.StepRuns.{SaysLines}
use Rattle.script_runner.proofs.SayingLines.{not_read, line_said, line_not_said, err_is}
use Rattle.script_runner.proofs.say.say_line.Goals as goal

pub returns-in_err-entry-clause-content : goal.returns-in_err-entry-clause-content
returns-in_err-entry-clause-content g c =
    subst (λ r. Told g.W.Shelf.tells c.args.station.now c.shown_entry.new.shelf
    (SaysLines c.args.steps.now (c.args.made.now.number + 1) (c.args.line.now ∷ []) c.args.made.now r (g.W.Shelf.world c.args.station.now) (g.W.Shelf.world c.shown_entry.new.shelf)))
    (sym (err_is c.from_residual.result c.in_err-entry.field-0.0 c.from_residual.ensures.1))
    (not_read g.W.Shelf.tells g.W.Shelf.world (λ s told f. g.met.W.Shelf.files_are s told f) c.args.steps.now c.args.line.now c.args.made.now c.requires.shown c.in_err-entry.field-0.0 _ _ c.requires.ready c.in_err-entry.ensures.content c.in_err-entry.ensures.damaged)

pub returns-in-Ok-clause-content : goal.returns-in-Ok-clause-content
returns-in-Ok-clause-content g c =
    line_said g.W.Shelf.tells g.W.Shelf.world (λ s told f. g.met.W.Shelf.files_are s told f) c.args.steps.now c.args.line.now c.args.made.now c.requires.shown c.in_ok-entry.entry _ _ _ _ _ c.requires.stands c.in_ok-entry.ensures.content (λ t. elim c.in_ok-entry.ensures.shown [ inl made ↦ inl made | inr read ↦ inr (read t) ])
    (c.as_bytes.ensures.value ∙ c.as_str.ensures.value ∙ c.answer_line-text.ensures.text) c.in-Ok.ensures.content _ _ refl

pub returns-in-Err-clause-content : goal.returns-in-Err-clause-content
returns-in-Err-clause-content g c =
    line_not_said g.W.Shelf.tells g.W.Shelf.world (λ s told f. g.met.W.Shelf.files_are s told f) c.args.steps.now c.args.line.now c.args.made.now c.requires.shown c.in_ok-entry.entry _ _ _ _ _ c.requires.stands c.in_ok-entry.ensures.content (λ t. elim c.in_ok-entry.ensures.shown [ inl made ↦ inl made | inr read ↦ inr (read t) ])
    (c.as_bytes.ensures.value ∙ c.as_str.ensures.value ∙ c.answer_line-text.ensures.text) c.in-Err.ensures.content
