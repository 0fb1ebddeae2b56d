use Rattle.std.proofs.Common.{◌∙◌, ap}
use Rattle.blif_reader.specs.Index.{place_of}
use Rattle.blif_reader.specs.Answers.{net_of}
use Rattle.blif_reader.proofs.netlist.Netlist.name.Goals as goal

pub returns-clause-back : goal.returns-clause-back
returns-clause-back c = ap (place_of (net_of c.args.self.now).names) c.at.ensures ∙ c.args.self.now.sound.tables.apart c.args.signal c.requires
