use Rattle.std.proofs.Common.{◌∙◌, ap}
use Rattle.script_reader.specs.Names.{live}
use Rattle.script_reader.specs.Views.{state_of}
use Rattle.script_reader.proofs.Tests.{at_word}
use Rattle.script_reader.proofs.planning.Planning.live_at.Goals as goal

pub returns : goal.returns
returns c = c.live.ensures ∙ ap (live (state_of c.args.self.now)) (at_word c.args.words.now c.args.k _ c.requires)
