use Rattle.std.proofs.Common.{arith}
use Rattle.std.proofs.lemmas.Grind.{common_steps}
use Rattle.script_reader.proofs.netlists.signals_named.Goals as goal

pub places_of-requires : goal.places_of-requires
places_of-requires c = grind (arith, common_steps)
