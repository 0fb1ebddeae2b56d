use Rattle.std.specs.Prelude.{IsTrue}
use Rattle.restrict_eval.proofs.EvalKeeps.{answers}
use Rattle.restrict_eval.proofs.eval.EvalSweep.turn.Goals as goal

pub returns-in-To-clause-answers : goal.returns-in-To-clause-answers
returns-in-To-clause-answers g c =
    answers (IsTrue (g.S.Shelf.tells c.follow.new.shelf)) c.args.self.now c.follow.new.self (g.S.Shelf.world c.args.shelf.now) (g.S.Shelf.world c.follow.new.shelf)
    c.follow.result c.follow.ensures.turns.ends c.follow.ensures.text c.follow.ensures.at c.follow.ensures.turns.keeps

pub returns-in-Past-clause-answers : goal.returns-in-Past-clause-answers
returns-in-Past-clause-answers g c =
    answers (IsTrue (g.S.Shelf.tells c.read_on.new.shelf)) c.args.self.now c.read_on.new.self (g.S.Shelf.world c.args.shelf.now) (g.S.Shelf.world c.read_on.new.shelf)
    c.read_on.result c.read_on.ensures.turns.ends c.read_on.ensures.text c.read_on.ensures.at c.read_on.ensures.turns.keeps
