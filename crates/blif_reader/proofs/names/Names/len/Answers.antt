use Rattle.std.proofs.Common.{arith}
use Rattle.blif_reader.proofs.WordEnds.{length-words_between}
use Rattle.blif_reader.proofs.names.Names.len.Goals as goal

pub returns : goal.returns
returns c = omega (arith, c.len.ensures, length-words_between 0 c.args.self.now.ends.items c.args.self.now.bytes.items)
