use Rattle.std.proofs.Common.{◌+◌, refl, inr}
use Rattle.script_runner.specs.Together.{IsDropped, IsCutTogether}
use Rattle.script_runner.proofs.TogetherPuts.{tidied, empties_on, dropped_together}
use Rattle.script_runner.proofs.together.tidy_together.Goals as goal

pub returns-clause-content : goal.returns-clause-content
returns-clause-content g c =
    empties_on g.S.Shelf.tells g.S.Shelf.world (IsCutTogether c.args.steps.now c.args.entry.now c.args.end) _ _
    (tidied g.S.Shelf.tells g.S.Shelf.world c.args.steps.now c.args.entry.now c.args.end _ _ _ refl c.in_ok-tidy_up.ensures.content)
    (IsDropped c.args.steps.now (c.args.entry.now.number + 1) c.args.end) _ (λ f is. inr is) c.empty_dropped.ensures.content

pub returns-clause-empty : goal.returns-clause-empty
returns-clause-empty g c =
    dropped_together g.S.Shelf.tells g.S.Shelf.world c.args.steps.now c.args.entry.now c.args.end c.empty_dropped.result _ _
    c.empty_dropped.ensures.content c.in_ok-tidy_up.ensures.empty c.empty_dropped.ensures.empty
