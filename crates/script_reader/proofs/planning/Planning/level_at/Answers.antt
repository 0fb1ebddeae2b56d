use Rattle.std.proofs.Common.{◌∙◌, ap}
use Rattle.script_reader.specs.Names.{level_of}
use Rattle.script_reader.specs.Views.{state_of}
use Rattle.script_reader.proofs.Tests.{at_word}
use Rattle.script_reader.proofs.planning.Planning.level_at.Goals as goal

pub returns : goal.returns
returns c = c.level.ensures ∙ ap (level_of (state_of c.args.self.now)) (at_word c.args.words.now c.args.k _ c.requires)
