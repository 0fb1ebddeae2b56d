use Rattle.std.proofs.Common.{arith}
use Rattle.node_reading.proofs.Spent.{answer_not_spent}
use Rattle.node_reading.proofs.Staying.{looked_stays}
use Rattle.tuple_asks.proofs.saved.SavedOperand.resume.Goals as goal

-- nothing was read
pub returns-in-None-clause-content : goal.returns-in-None-clause-content
returns-in-None-clause-content g c = looked_stays g.S.Shelf.tells g.S.Shelf.world 2 _ _ c.start.ensures.content

pub returns-in-None-clause-kind : goal.returns-in-None-clause-kind
returns-in-None-clause-kind g c = answer_not_spent _ _ c.start.ensures.damage

pub returns-in-None-clause-calls : goal.returns-in-None-clause-calls
returns-in-None-clause-calls g c = λ told. let few = (c.start.ensures.content.did told).few in omega (arith, few)
