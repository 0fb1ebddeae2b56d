use Rattle.std.specs.Prelude.{IsTrue}
use Rattle.restrict_eval.proofs.SameKeeps.{answers}
use Rattle.restrict_eval.proofs.same.SameSweep.turn.Goals as goal

pub returns-in-Level-clause-answers : goal.returns-in-Level-clause-answers
returns-in-Level-clause-answers g c =
    answers (IsTrue (g.S.Shelf.tells c.read_left.new.shelf)) c.args.self.now c.read_left.new.self (g.S.Shelf.world c.args.shelf.now) (g.S.Shelf.world c.read_left.new.shelf)
    c.read_left.result c.read_left.ensures.ends c.read_left.ensures.keeps

pub returns-in-Ahead-clause-answers : goal.returns-in-Ahead-clause-answers
returns-in-Ahead-clause-answers g c =
    answers (IsTrue (g.S.Shelf.tells c.read_right.new.shelf)) c.args.self.now c.read_right.new.self (g.S.Shelf.world c.args.shelf.now) (g.S.Shelf.world c.read_right.new.shelf)
    c.read_right.result c.read_right.ensures.ends c.read_right.ensures.keeps
