use Rattle.step_sweeps.proofs.Confirmed.{implication_confirmed, implication_answered}
use Rattle.step_sweeps.proofs.implication.imply.Goals as goal

-- it was answered
pub returns-in-Ok : goal.returns-in-Ok
returns-in-Ok g c = record {
  answers = implication_answered g.S.Shelf.tells g.S.Shelf.world g.S.Shelf.faults c.args.n c.args.left c.args.right
      c.args.going.now c.args.shelf.now c.refute.new.shelf c.in-Ok.answered c.in-Ok.ensures.answers;
}

-- the sweep was refused
pub returns-in-Err : goal.returns-in-Err
returns-in-Err g c = record {
  answers = implication_confirmed g.S.Shelf.tells g.S.Shelf.world g.S.Shelf.faults c.args.n c.args.left c.args.right
      c.args.going.now c.requires.earlier c.args.shelf.now c.refute.new.shelf c.confirmed.new.shelf c.in-Err.fault
      c.confirmed.result c.in-Err.ensures.answers c.confirmed.ensures.confirms;
}
