use Rattle.std.proofs.Common.{arith}
use Rattle.std.proofs.lemmas.Grind.{common_steps}
use Rattle.script_reader.proofs.planning.Planning.declare.Goals as goal

pub places_of-requires : goal.places_of-requires
places_of-requires c = grind (arith, common_steps)

pub returns-in_default : goal.returns-in_default
returns-in_default c = grind (arith, common_steps)

pub returns-then-words : goal.returns-then-words
returns-then-words c = grind (arith, common_steps)

pub returns : goal.returns
returns c = grind (arith, common_steps)
